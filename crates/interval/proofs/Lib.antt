pub mod Changes
pub mod Divided
pub mod Figures
pub mod Halving
pub mod Later
pub mod Order

pub mod Equality
pub mod Told
pub mod Claims
pub mod Computing

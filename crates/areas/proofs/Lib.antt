pub mod Equality
pub mod Table
pub mod Told
pub mod Claims
pub mod Computing

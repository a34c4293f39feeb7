pub mod Claims
pub mod Looking
pub mod Equality

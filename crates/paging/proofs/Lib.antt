pub mod Adding
pub mod Letters
pub mod Putting

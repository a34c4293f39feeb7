pub mod Held
pub mod Loops
pub mod Least
pub mod Arrays

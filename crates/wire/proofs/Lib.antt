pub mod Commands
pub mod Digits
pub mod Equal
pub mod Table
pub mod Values

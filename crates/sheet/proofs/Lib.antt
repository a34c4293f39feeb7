pub mod Chosen
pub mod Example
pub mod Filled
pub mod Growing
pub mod Numerals
pub mod Pages

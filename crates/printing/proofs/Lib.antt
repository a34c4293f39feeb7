pub mod Figures
pub mod Promises
pub mod Telling

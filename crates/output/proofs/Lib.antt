pub mod Ends
pub mod Example
pub mod Promises

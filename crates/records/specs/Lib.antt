pub mod Numbers
pub mod Rows
pub mod Lives
pub mod Claims

pub mod Numbers
pub mod Rows
pub mod Stays
pub mod Claims

pub mod Numbers
pub mod Rows
pub mod Before
pub mod Claims

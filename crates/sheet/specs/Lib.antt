pub mod Claims
pub mod Columns
pub mod Example
pub mod Pages
pub mod Paging

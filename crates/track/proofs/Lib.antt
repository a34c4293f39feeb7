pub mod Showing
pub mod Judging

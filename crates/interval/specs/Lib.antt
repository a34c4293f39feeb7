pub mod Intervals
pub mod Permitted
pub mod Judging
pub mod Changes
pub mod Claims
pub mod Figures

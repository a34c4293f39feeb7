pub mod Figures
pub mod Pairs
pub mod Tables
pub mod Cases
pub mod ChangeFigures

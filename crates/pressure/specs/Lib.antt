pub mod Convert
pub mod Reference
pub mod Phases
pub mod Report
pub mod Exact
pub mod Claims
pub mod Figures

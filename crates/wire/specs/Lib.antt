pub mod Bytes
pub mod Codes
pub mod Form
pub mod Numbers
pub mod Report
pub mod Split
pub mod Text

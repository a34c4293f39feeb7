pub mod Claims
pub mod Told
pub mod Portions
pub mod Reads

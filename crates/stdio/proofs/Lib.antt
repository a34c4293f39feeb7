pub mod Standing
pub mod Turning

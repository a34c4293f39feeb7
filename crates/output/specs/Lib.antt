pub mod Claims
pub mod Example
pub mod Rooms
pub mod Streams

pub mod Ending
pub mod Giving
pub mod Handing
pub mod Parts
pub mod Reading
pub mod Rooms
pub mod Turns

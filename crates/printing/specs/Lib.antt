pub mod Claims
pub mod Rooms
pub mod Sheets

pub mod Ground
pub mod Largest
pub mod Extra
pub mod Line
pub mod Sides
pub mod Reaching
pub mod Stricter
pub mod Widths

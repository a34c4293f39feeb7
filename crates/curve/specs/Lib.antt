pub mod Free
pub mod Deceleration
pub mod Lead
pub mod Boundary
pub mod Ground
pub mod Claims

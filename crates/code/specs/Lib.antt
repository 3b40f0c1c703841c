pub mod Code
pub mod Sides

pub mod Locked
pub mod Opened
pub mod Both

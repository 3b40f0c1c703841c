pub mod Same
pub mod Opening
pub mod Appending

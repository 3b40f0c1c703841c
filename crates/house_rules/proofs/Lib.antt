pub mod Drawn
pub mod Decided

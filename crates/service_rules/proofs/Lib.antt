pub mod Decided
pub mod Standing

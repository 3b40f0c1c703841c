pub mod Rounds
pub mod Stream

pub mod Codec
pub mod Sound
pub mod Start
pub mod Falls

pub mod Codec
pub mod Falls

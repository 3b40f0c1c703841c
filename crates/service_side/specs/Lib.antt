pub mod Service
pub mod Hear

pub mod House
pub mod Hear

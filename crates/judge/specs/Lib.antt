pub mod Hearing
pub mod Meaning
pub mod Promise
pub mod Example

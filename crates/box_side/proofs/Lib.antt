pub mod Tickets
pub mod Tried
pub mod Words

pub mod Unread
pub mod Both

pub mod Table
pub mod Chest
pub mod Keys
pub mod Line
pub mod Letter

pub mod Among
pub mod Reading
pub mod Making
pub mod Steps

pub mod Field
pub mod Inside
pub mod ByValue

pub mod Kind
pub mod Word

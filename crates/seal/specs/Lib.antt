pub mod Kind
pub mod Lock
pub mod Purpose

pub mod Say
pub mod Play

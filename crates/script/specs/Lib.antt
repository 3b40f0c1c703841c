pub mod Laws
pub mod Play
pub mod Shown
pub mod There

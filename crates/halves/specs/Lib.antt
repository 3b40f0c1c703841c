pub mod Blocks
pub mod Half
pub mod Halves
pub mod Laws

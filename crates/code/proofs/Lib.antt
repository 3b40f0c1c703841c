pub mod Serves
pub mod Houses

pub mod Tables
pub mod Wanted
pub mod Taken

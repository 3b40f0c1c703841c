pub mod Crash
pub mod Supply

mod FromEnd
pub mod Air
pub mod Reading
pub mod Simulates
pub mod Calls
pub mod Rows
pub mod Promises
pub mod Ranges
pub mod Fits
pub mod HappensRow
pub mod ServedRow
pub mod Ours

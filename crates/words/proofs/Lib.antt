pub mod Bytes
pub mod Cuts
pub mod Exact
pub mod Pairs
pub mod Scan

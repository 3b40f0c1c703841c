pub mod Entry
pub mod File
pub mod Payload
pub mod Bytes

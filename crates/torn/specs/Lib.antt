pub mod Device
pub mod Ledger
pub mod Torn

pub mod Fault
pub mod Tick
pub mod Condition
pub mod Drawn
pub mod What
pub mod Account

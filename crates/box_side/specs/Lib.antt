pub mod Tickets
pub mod Box
pub mod Opened
pub mod Sent
pub mod Step

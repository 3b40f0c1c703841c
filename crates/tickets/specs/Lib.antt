pub mod Term
pub mod State
pub mod Event
pub mod Promise
pub mod Cases
pub mod Premise

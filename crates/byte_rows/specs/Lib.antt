pub mod System
pub mod Term
pub mod Premise
pub mod Row
pub mod Served
pub mod Happens

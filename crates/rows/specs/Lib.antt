pub mod Name
pub mod Word
pub mod Setting
pub mod System
pub mod Row
pub mod Served
pub mod Happens
pub mod Faults

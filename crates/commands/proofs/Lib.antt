pub mod Forms
pub mod Ifs
pub mod Written

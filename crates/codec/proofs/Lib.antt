pub mod Insides
pub mod Numbers
pub mod Words

pub mod Judge
pub mod Total

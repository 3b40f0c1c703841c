pub mod Account
pub mod Fresh
pub mod Give
pub mod House
pub mod Change
pub mod Start

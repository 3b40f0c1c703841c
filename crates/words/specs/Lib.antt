pub mod Laws
pub mod Next
pub mod Text

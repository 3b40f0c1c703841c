pub mod Left
pub mod Arguments
pub mod Both
pub mod Comes
pub mod Grammar
pub mod Laws
pub mod Said
pub mod Verbs

pub mod Laws
pub mod Names

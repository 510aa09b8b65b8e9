pub mod Laws
pub mod Events

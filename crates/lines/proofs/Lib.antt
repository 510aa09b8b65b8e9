pub mod Laws
pub mod Parting

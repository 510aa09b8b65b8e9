pub mod Laws
pub mod Looked
pub mod Says
pub mod Sets

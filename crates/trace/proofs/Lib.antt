pub mod Laws
pub mod Loop
pub mod Given
pub mod Whole

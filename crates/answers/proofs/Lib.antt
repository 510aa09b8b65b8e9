pub mod Ascending
pub mod Choices
pub mod OfRows
pub mod Sorted
pub mod Lists
pub mod Laws
pub mod Whole
pub mod Given

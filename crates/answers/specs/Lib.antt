pub mod Answers
pub mod Ascending
pub mod Listed
pub mod Given
pub mod Table
pub mod Code

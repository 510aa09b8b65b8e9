pub mod Names
pub mod Columns
pub mod Code

pub mod Parsed
pub mod Code

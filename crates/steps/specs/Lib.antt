pub mod Steps
pub mod Code

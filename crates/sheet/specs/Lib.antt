pub mod Sheet
pub mod Pieces
pub mod Runs
pub mod Turns
pub mod Code

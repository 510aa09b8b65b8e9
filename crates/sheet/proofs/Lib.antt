pub mod Laws
pub mod Good
pub mod Bites
pub mod Runs
pub mod Turns
pub mod Ending

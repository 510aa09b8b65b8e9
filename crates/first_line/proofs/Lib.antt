mod Matching
mod Digits
pub mod Good

pub mod Tests
pub mod Codes
pub mod Refusals
pub mod Answers
pub mod Places

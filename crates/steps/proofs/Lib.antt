pub mod Laws
pub mod Walk
pub mod Stepping
pub mod Passing

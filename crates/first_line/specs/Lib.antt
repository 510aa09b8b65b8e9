pub mod First
pub mod InPlace

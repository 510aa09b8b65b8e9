pub mod Event
pub mod Rows
pub mod Permitted

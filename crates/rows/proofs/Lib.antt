pub mod ByRows
pub mod Parts

pub mod Laying
pub mod Decimal
pub mod Parts
pub mod States
pub mod Laws
pub mod Example

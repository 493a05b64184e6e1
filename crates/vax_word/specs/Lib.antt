pub mod Arithmetic
pub mod Status

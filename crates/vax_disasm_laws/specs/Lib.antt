pub mod Assembling
pub mod Rows

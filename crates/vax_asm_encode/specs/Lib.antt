pub mod Operands
pub mod Bytes
pub mod Fields

pub mod Folding
pub mod Limits

pub mod Following
pub mod Numbering

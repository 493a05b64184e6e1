pub mod Changing
pub mod Numbering
pub mod Undoing

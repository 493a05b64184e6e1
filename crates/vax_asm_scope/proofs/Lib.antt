pub mod Closing
pub mod Binding
pub mod Naming
pub mod Marking
pub mod Masking
pub mod Range
pub mod Seen
pub mod Spelling

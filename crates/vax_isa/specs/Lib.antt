pub mod Actions
pub mod Instructions
pub mod Rows
pub mod Entries
pub mod Buckets

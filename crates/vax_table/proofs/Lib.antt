pub mod Bytes
pub mod Changes
pub mod Entries
pub mod Filled
pub mod Places
pub mod Walks

pub mod Seen
pub mod Apart

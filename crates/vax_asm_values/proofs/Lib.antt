pub mod Copying
pub mod Keeping
pub mod Marks
pub mod Open
pub mod Rounds
pub mod Seen
pub mod Stepping

pub mod Kinds
pub mod Saved
pub mod Stream
pub mod Restoring
pub mod Restored
pub mod Views
pub mod Saving

pub mod Putting
pub mod Saving
pub mod Seeing
pub mod Waiting

pub mod Frames
pub mod Raised

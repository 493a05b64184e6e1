pub mod Made
pub mod Frames
pub mod Fast
pub mod Code

pub mod Transcript
pub mod Ends
pub mod Parts
pub mod Turns

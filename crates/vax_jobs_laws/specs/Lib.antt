pub mod Whole
pub mod Ended
pub mod Outputs

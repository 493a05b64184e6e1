pub mod Back
pub mod Left
pub mod Referring
pub mod Stepping

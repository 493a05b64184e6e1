pub mod BlockLaws
pub mod Counting
pub mod Growth
pub mod Saving

pub mod Cells
pub mod More

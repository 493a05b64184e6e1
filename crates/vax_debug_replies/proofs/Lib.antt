pub mod Cells
pub mod Naming
pub mod Telling
pub mod Pushing

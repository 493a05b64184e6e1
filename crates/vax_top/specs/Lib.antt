pub mod Checked
pub mod Loaded
pub mod LoadedView
pub mod Vectors
pub mod Resumed
pub mod Together
pub mod TogetherView
pub mod Top

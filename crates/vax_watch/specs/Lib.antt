pub mod Listing
pub mod Breaks
pub mod Plans
pub mod Beginning
pub mod Filling
pub mod Traced
pub mod Tracing

pub mod Fitting
pub mod Forming
pub mod Listing
pub mod Order
pub mod Repeating
pub mod Steps
pub mod Whole

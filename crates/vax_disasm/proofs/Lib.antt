pub mod Numbers
pub mod Digits
pub mod Listing
pub mod Instructions

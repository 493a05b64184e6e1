pub mod Beginning
pub mod Lines
pub mod Listing
pub mod Noting
pub mod Saying

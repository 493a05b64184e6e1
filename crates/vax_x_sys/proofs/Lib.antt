pub mod Closed
pub mod Raised

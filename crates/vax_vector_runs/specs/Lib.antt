pub mod Exact
pub mod Attempts
pub mod Ends

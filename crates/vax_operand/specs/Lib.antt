pub mod Located
pub mod Addressed
pub mod Working
pub mod Logged

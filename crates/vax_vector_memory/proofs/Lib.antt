pub mod Keeping
pub mod Guarding
pub mod Filling
pub mod Hiding

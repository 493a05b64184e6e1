pub mod Levels
pub mod Attempts
pub mod Settled
pub mod Trails
pub mod Steps
pub mod Runs
pub mod Quick

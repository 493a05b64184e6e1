pub mod Turns
pub mod Resident

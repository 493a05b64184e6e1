pub mod Values
pub mod Everywhere
pub mod Addresses
pub mod Working

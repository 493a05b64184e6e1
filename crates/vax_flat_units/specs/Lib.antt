pub mod Units
pub mod Violations
pub mod Places
pub mod Wholes
pub mod Laws

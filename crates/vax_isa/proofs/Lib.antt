pub mod Lists
mod Passed
pub mod Laws
mod Hashing

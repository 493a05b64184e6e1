pub mod Protection
pub mod Areas
pub mod Faults
pub mod Reference
pub mod Lookup

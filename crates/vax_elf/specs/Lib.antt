pub mod Faults
pub mod Executable
pub mod Reading

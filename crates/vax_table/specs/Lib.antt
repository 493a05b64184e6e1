pub mod Entry
pub mod Layout
pub mod Mapping
pub mod Tables

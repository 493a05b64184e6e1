pub mod Bases
pub mod Joining
pub mod LinkerLaws

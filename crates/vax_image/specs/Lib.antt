pub mod Image
pub mod Kinds
pub mod Texts
pub mod File
pub mod Reading
pub mod Views
pub mod Start

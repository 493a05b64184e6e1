pub mod Record
pub mod Pages
pub mod Seen

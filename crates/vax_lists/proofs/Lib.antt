pub mod Links
mod Frames
pub mod Pages
mod Moves
mod Reading

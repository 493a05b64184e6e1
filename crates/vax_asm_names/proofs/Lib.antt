pub mod Changing
pub mod Maps
pub mod Undoing

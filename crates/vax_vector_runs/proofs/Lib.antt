pub mod Order
pub mod Same
pub mod Settling
pub mod Telling

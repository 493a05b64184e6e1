pub mod Beginning
pub mod Gathering
pub mod Telling

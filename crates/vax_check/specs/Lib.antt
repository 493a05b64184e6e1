pub mod Beginning
pub mod Linking
pub mod Told
pub mod View

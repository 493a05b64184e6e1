pub mod Faultless
pub mod Listed
pub mod Messages
pub mod Restating
pub mod View

pub mod Circles
pub mod Growing
pub mod Heights
pub mod Places
pub mod View
pub mod Walks

pub mod Text
pub mod Truth
pub mod Choices

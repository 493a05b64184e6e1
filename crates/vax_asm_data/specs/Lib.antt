pub mod Data
pub mod Masks
pub mod View

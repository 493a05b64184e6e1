pub mod Rows
pub mod View
pub mod Listing
pub mod Placings
pub mod Listed
pub mod Lines

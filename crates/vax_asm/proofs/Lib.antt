pub mod Opening
pub mod Parsing
pub mod Pieces
pub mod Statements
pub mod Within
pub mod Words
pub mod Refused

pub mod Counted
pub mod Leading
pub mod Lying
pub mod Solving

pub mod NumberLaws
pub mod Prefixes
pub mod Parts
pub mod Counted
pub mod Named

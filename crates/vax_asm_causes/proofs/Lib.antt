pub mod Counting
pub mod Cutting
pub mod Making
pub mod Starting

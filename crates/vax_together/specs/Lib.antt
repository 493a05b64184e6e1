pub mod Together
pub mod Starting

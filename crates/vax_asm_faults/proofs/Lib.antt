pub mod Waiting
pub mod Circling
pub mod Ordering
pub mod Surveying
pub mod Refusing
pub mod Leasting

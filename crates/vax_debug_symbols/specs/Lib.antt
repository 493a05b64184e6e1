pub mod Fixtures
pub mod Symbols

pub mod Sufficing
pub mod Reporting
pub mod Making

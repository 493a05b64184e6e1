pub mod Survey
pub mod Refusal
pub mod Least

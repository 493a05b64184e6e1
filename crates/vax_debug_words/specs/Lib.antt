pub mod Commands
pub mod Expressions
pub mod Requests

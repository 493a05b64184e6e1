pub mod Bytes
pub mod Placing
pub mod Stating
pub mod Typing
pub mod View

pub mod ByName
pub mod Content
pub mod Journal
pub mod Names
pub mod View

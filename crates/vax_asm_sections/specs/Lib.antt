pub mod Journal
pub mod Layout
pub mod Numbers
pub mod View

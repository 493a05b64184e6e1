pub mod Moving
pub mod Numbers

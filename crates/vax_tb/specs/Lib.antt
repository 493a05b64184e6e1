pub mod Buffer
pub mod Entries
pub mod Meaning

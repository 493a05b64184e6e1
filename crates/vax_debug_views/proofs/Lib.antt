pub mod Telling
pub mod Lines
pub mod Wholes
pub mod Forms
pub mod Paging
pub mod Keeping

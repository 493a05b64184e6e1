pub mod Contexts
pub mod Defaults
pub mod Functions
pub mod Masks
pub mod Naming
pub mod Numbers
pub mod View
pub mod Within

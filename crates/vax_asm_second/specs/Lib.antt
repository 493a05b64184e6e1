pub mod Contents
pub mod Faults
pub mod Laid
pub mod Modules
pub mod View

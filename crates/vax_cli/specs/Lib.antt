pub mod Table
pub mod Values
pub mod Items
pub mod Tracing
pub mod Vectors
pub mod Jobs
pub mod Words
pub mod Said

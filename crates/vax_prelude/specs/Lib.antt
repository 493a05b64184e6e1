pub mod Laws
pub mod Preludes
pub mod View

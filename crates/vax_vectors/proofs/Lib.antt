pub mod Arrays
pub mod Inside

pub mod Program
pub mod View

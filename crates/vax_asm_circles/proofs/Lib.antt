pub mod Adding
pub mod Leading
pub mod Placing
pub mod Rising
pub mod Telling
pub mod Walking

pub mod Counted
pub mod Leading
pub mod Left
pub mod Naming
pub mod Programs
pub mod Rows
pub mod Texts

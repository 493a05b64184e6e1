pub mod Names
pub mod Tables
pub mod Leads
pub mod Layout
pub mod Values
pub mod Linked
pub mod Placed

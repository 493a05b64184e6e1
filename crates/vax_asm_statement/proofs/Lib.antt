pub mod Within
pub mod Splitting
pub mod Tables
pub mod Texts

pub mod Saveable

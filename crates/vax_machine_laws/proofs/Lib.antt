pub mod Reaching
pub mod Parting
pub mod Spoiling
pub mod Sufficing
pub mod Fixing
pub mod Finishing
pub mod Happening

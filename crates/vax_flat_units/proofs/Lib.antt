pub mod Counting
pub mod Searching
pub mod Moving
pub mod Comparing
pub mod Matching
pub mod Escaping
pub mod Reaching
pub mod Allowing
pub mod MatchAllowing
pub mod Families
pub mod Reached
pub mod Bounds
pub mod Places
pub mod Sums
pub mod Resuming
mod Worked
pub mod Wholes
pub mod Writing

mod Streaming
mod Loops
mod Filling
mod SavingLaws
mod RestoringLaws
pub mod Parting

mod Fitting
mod Back
pub mod Standing
pub mod Extending
pub mod Writing

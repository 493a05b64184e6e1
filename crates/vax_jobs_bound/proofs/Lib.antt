pub mod Few
pub mod Fitting
pub mod Spending

pub mod Counting
pub mod Data
mod Masking
mod Naming
mod Operands
mod Typing
mod Stating
pub mod Laying
pub mod Lying
pub mod Walking
mod Solving
mod Lasting

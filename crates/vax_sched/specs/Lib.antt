pub mod Rules
pub mod Views
pub mod Kept
pub mod Faults
pub mod Due
pub mod Printed

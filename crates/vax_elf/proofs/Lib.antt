pub mod Loops
pub mod Images
pub mod Executables

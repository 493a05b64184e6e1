pub mod Kernels
pub mod Packing

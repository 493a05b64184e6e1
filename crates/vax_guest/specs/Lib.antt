pub mod Executive
pub mod Workload

pub mod FlatRun
pub mod Enough
pub mod Happenings

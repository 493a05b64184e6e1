pub mod Folding
pub mod Going
pub mod Telling
pub mod Asking
pub mod Failing

pub mod Counts
pub mod Marked
pub mod Places
pub mod Printed
pub mod Remarks
pub mod View

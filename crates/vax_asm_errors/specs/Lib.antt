pub mod Beginning
pub mod Errors
pub mod Notes
pub mod Remarks

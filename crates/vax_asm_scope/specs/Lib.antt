pub mod Kept
pub mod Known
pub mod Masks
pub mod PlaceView
pub mod RangeProps
pub mod Scope
pub mod Used
pub mod View

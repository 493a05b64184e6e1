pub mod Placing
pub mod Sound
pub mod Walk
pub mod View
pub mod PlacingView
pub mod Refusal

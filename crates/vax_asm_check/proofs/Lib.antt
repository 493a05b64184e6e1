pub mod Ascending
pub mod Back
pub mod Beginning
pub mod Going
pub mod Ranking
pub mod Restating
pub mod Surveying
pub mod Telling

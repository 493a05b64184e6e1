pub mod BitLaws
pub mod Positions

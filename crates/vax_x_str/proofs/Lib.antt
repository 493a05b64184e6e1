pub mod Pieces
pub mod Left
pub mod Translation
pub mod MatchUnits

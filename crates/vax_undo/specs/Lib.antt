pub mod Answers
pub mod FirstPart
pub mod Trail
pub mod Transaction
pub mod Blocks
pub mod Plain
pub mod Rooms

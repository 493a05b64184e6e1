pub mod Run
pub mod Start

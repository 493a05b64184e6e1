pub mod MarkLaws
pub mod PackingLaws
pub mod LaneLaws

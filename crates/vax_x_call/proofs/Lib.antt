pub mod Closed
pub mod StackLaws

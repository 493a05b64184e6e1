pub mod Course
pub mod Debugging
pub mod Restarting
pub use Rattle.vax_debug_session.specs.declared.SessionEnd

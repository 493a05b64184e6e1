pub mod Acting
pub mod Acts
pub mod Attempts
pub use Rattle.vax_debug.specs.Sessions
pub use Rattle.vax_debug.specs.declared.failure.Failure
pub use Rattle.vax_debug.specs.Pages
pub use Rattle.vax_debug.specs.declared.breaks.Plan
pub use Rattle.vax_debug.specs.Plans

pub mod Telling
pub mod Stopping
pub mod Turning
pub use Rattle.vax_debug.proofs.Reported

pub mod Tried
pub mod Trail
pub mod Attempt
pub mod Batch
pub use Rattle.vax_quick.specs.Made

use Rattle.std.proofs.Common.{refl}
use Rattle.vax_flat.specs.Delivery.{vector_of, change_vector, interrupt_vector}
use Rattle.vax_flat_laws.proofs.tables.tables_are_the_manuals.Goals as goal

pub returns : goal.returns
unfolding vector_of change_vector interrupt_vector
returns c = record { exceptions = λ violation kind. refl; changes = refl; interrupts = refl; traps = refl; reasons = λ addr. refl }

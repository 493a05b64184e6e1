use Rattle.vax_flat_laws.proofs.Processing.{none_readable, none_writable}
use Rattle.vax_flat_laws.proofs.processor.registers_are_these.Goals as goal

pub returns : goal.returns
returns c = record { readable = none_readable; writable = none_writable }

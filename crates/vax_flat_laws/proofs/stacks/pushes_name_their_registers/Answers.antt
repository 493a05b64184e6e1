use Rattle.std.proofs.Common.{refl}
use Rattle.vax_flat.specs.Call.{named}
use Rattle.vax_flat_laws.proofs.Stacking.{pushed_there}
use Rattle.vax_flat_laws.proofs.stacks.pushes_name_their_registers.Goals as goal

pub returns : goal.returns
unfolding named
returns c = record { there = pushed_there; all = refl; some = refl; none = refl; saved = refl }

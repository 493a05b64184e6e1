use Rattle.std.proofs.Common.{refl}
use Rattle.vax_isa.specs.Instructions.{instructions}
use Rattle.vax_isa.proofs.buckets.buckets.Goals as goal

pub returns : goal.returns
unfolding instructions
returns c = record { complete = refl; bytes = refl }

use Rattle.vax_flat_laws.proofs.Stacking.{popped_back}
use Rattle.vax_flat_laws.proofs.stacks.pops_undo_pushes.Goals as goal

pub returns : goal.returns
returns c = record {
  registers = λ mask n s t memory end m came. (popped_back mask s t memory end m came).0 n;
  status = λ mask s t memory end m came. (popped_back mask s t memory end m came).1;
}

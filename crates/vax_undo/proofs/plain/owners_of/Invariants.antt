use Rattle.vax_undo.proofs.PlainMemory.{AreOwners}
use Rattle.vax_undo.proofs.plain.owners_of.Given as goal

abbrev pub invariant-loop-place : goal.invariant-loop-place
invariant-loop-place l = AreOwners l.areas l.owners.items l.place

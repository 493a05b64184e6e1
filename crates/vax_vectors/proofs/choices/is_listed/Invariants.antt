use Rattle.std.proofs.Common.{◌≡◌, drop}
use Rattle.vax_vectors.specs.Truth.{is_among}
use Rattle.vax_vectors.proofs.choices.is_listed.Given as goal

-- whether it is one of those from here on says whether it is one of all
abbrev pub invariant-loop-other : goal.invariant-loop-other
invariant-loop-other l = is_among (drop l.other-index l.opcodes) l.opcode ≡ is_among l.opcodes l.opcode

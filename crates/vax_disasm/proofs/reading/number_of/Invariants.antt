use Rattle.std.proofs.Common.{◌≡◌, ◌≤◌, length, drop}
use Rattle.vax_flat.specs.Grammar.{value_of_bytes}
use Rattle.vax_disasm.proofs.reading.number_of.Given as goal

abbrev pub invariant-loop-at : goal.invariant-loop-at
invariant-loop-at l = record {
  in_range : l.at ≤ length l.bytes;
  so_far : l.value ≡ value_of_bytes (drop l.at l.bytes);
}

abbrev pub decreases-loop-at : goal.decreases-loop-at
decreases-loop-at l = l.at

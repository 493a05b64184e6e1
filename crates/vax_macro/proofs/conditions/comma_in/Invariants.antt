use Rattle.std.proofs.Common.{◌≡◌, ◌≤◌, drop}
use Rattle.vax_macro.specs.Conditions.{comma_from, comma_in}
use Rattle.vax_macro.proofs.conditions.comma_in.Given as goal

abbrev pub invariant-loop-at : goal.invariant-loop-at
invariant-loop-at l = record {
  shallow : l.depth ≤ l.at;
  same : comma_from l.at l.depth (drop l.at l.pieces) ≡ comma_in l.pieces;
}

use Rattle.std.proofs.Common.{◌≡◌, ◌≤◌, ◌-◌, length, drop}
use Rattle.vax_macro.specs.Arguments.{closing}
use Rattle.vax_macro.proofs.Closings.{further}
use Rattle.vax_macro.proofs.arguments.closing.Given as goal

abbrev pub invariant-loop-at : goal.invariant-loop-at
invariant-loop-at l = record {
  in_range : l.at ≤ length l.text;
  shallow : l.depth ≤ l.at;
  same : further l.at (closing l.depth (drop l.at l.text)) ≡ closing 0 l.text;
}

abbrev pub decreases-loop-at : goal.decreases-loop-at
decreases-loop-at l = length l.text - l.at

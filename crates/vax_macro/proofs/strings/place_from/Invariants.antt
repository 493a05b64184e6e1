use Rattle.std.proofs.Common.{◌≡◌, ◌≤◌, ◌-◌, drop, length}
use Rattle.vax_macro.specs.Strings.{place_from}
use Rattle.vax_macro.proofs.strings.place_from.Given as goal

abbrev pub invariant-loop-at : goal.invariant-loop-at
invariant-loop-at l = record {
  same : place_from l.at l.wanted (drop l.at l.text) ≡ place_from l.from l.wanted (drop l.from l.text);
  bound : l.at ≤ length l.text;
}

abbrev pub decreases-loop-at : goal.decreases-loop-at
decreases-loop-at l = length l.text - l.at

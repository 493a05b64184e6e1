use Rattle.std.proofs.Common.{◌≡◌, ◌≤◌, ◌+◌, drop}
use Rattle.vax_prelude.specs.Preludes.{told_from}
use Rattle.vax_prelude.specs.View.{preludes_seen}
use Rattle.vax_prelude.proofs.place.told_at.Given as goal

abbrev pub invariant-loop-prelude : goal.invariant-loop-prelude
invariant-loop-prelude l = record {
  told : told_from l.number (preludes_seen (drop l.prelude-index l.preludes)) l.left ≡ told_from 1 (preludes_seen l.preludes) l.line;
  number : l.number ≡ 1 + l.prelude-index;
  few : l.left ≤ l.line;
}

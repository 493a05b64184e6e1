use Rattle.std.proofs.Common.{◌≡◌, ◌≤◌, ◌++◌, drop, length}
use Rattle.vax_watch.specs.Listing.{present}
use Rattle.vax_watch.proofs.beginning.present.Given as goal

-- the bytes so far, and those that are still to come
abbrev pub invariant-loop-cell : goal.invariant-loop-cell
invariant-loop-cell l = record {
  exact : l.bytes.items ++ present (drop l.cell-index l.cells) ≡ present l.cells;
  short : length l.bytes.items ≤ l.cell-index;
}

use Rattle.std.proofs.Common.{◌≡◌, ◌+◌, ◌*◌, ◌≤◌, ◌++◌, length, take}
use Rattle.vax_watch.specs.Plans.{changes_in}
use Rattle.vax_watch.proofs.watch.Plan.push_changes.Given as goal

-- the watches so far
abbrev pub invariant-loop-seen : goal.invariant-loop-seen
invariant-loop-seen l = record {
  exact : l.lines.items ≡ l.fn.lines.items ++ changes_in (take l.seen-index l.self.seen.items);
  short : length l.lines.items ≤ length l.fn.lines.items + 36 * l.seen-index;
}

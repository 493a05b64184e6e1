use Rattle.std.proofs.Common.{◌≡◌, ◌+◌, ◌*◌, ◌≤◌, ◌++◌, length}
use Rattle.vax_watch.specs.Listing.{register_changes}
use Rattle.vax_watch.proofs.lines.push_registers.Given as goal

-- the registers so far
abbrev pub invariant-loop-n : goal.invariant-loop-n
invariant-loop-n l = record {
  exact : l.text ≡ l.fn.text ++ register_changes l.n l.before l.after;
  short : length l.text ≤ length l.fn.text + 31 * l.n;
}

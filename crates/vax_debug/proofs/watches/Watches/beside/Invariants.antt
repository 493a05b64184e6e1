use Rattle.std.proofs.Common.{◌≡◌, ◌≤◌, length, take}
use Rattle.vax_debug.specs.Watches.{unwatched}
use Rattle.vax_debug.proofs.watches.Watches.beside.Given as goal

-- those so far but for the address
abbrev pub invariant-loop-watch : goal.invariant-loop-watch
invariant-loop-watch l = record {
  left : l.items.items ≡ unwatched l.address (take l.watch-index l.self);
  few : length l.items.items ≤ l.watch-index;
}

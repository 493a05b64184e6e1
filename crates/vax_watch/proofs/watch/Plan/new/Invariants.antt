use Rattle.std.proofs.Common.{◌≡◌, length, take}
use Rattle.vax_watch.specs.Plans.{watches_in}
use Rattle.vax_watch.proofs.watch.Plan.new.Given as goal

-- the watches so far have room
abbrev pub invariant-loop-watch : goal.invariant-loop-watch
invariant-loop-watch l = record {
  watches : watches_in l.seen.items ≡ take l.watch-index l.watches;
  count : length l.seen.items ≡ l.watch-index;
}

use Rattle.std.proofs.Common.{◌≡◌, ◌++◌, take}
use Rattle.vax_image.proofs.starting.push_copies.Given as goal

abbrev pub invariant-loop-area : goal.invariant-loop-area
invariant-loop-area l = l.areas.items ≡ l.fn.areas.items ++ take l.area-index l.from

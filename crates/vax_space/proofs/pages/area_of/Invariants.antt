use Rattle.std.proofs.Common.{◌≡◌, drop}
use Rattle.vax_space.specs.Areas.{area_of}
use Rattle.vax_space.proofs.pages.area_of.Given as goal

abbrev pub invariant-loop-area : goal.invariant-loop-area
invariant-loop-area l = area_of (drop l.area-index l.areas) l.page ≡ area_of l.areas l.page

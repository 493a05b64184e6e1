use Rattle.std.proofs.Common.{◌≡◌, ◌≤◌, ◌+◌, drop}
use Rattle.std.specs.Prelude.{option_map}
use Rattle.vax_space.specs.Areas.{block_of}
use Rattle.vax_space.specs.Faults.{end_before}
use Rattle.vax_space.proofs.Extents.{reach}
use Rattle.vax_space.proofs.pages.block_of.Given as goal

abbrev pub invariant-loop-area : goal.invariant-loop-area
invariant-loop-area l =
    (option_map (λ n. l.rank + n) (block_of (drop l.area-index l.areas) l.page) ≡ block_of l.areas l.page)
    × (l.rank ≤ reach (end_before l.areas l.area-index))

use Rattle.std.proofs.Common.{◌≡◌, map, take}
use Rattle.vax_vector_memory.specs.Pages.{guarded}
use Rattle.vax_vector_memory.proofs.areas.guarded_areas.Given as goal

-- the areas so far
abbrev pub invariant-loop-page : goal.invariant-loop-page
invariant-loop-page l = l.areas.items ≡ map guarded (take l.page-index l.pages)

use Rattle.std.proofs.Common.{◌≡◌, map, take}
use Rattle.vax_vector_memory.specs.Pages.{unguarded}
use Rattle.vax_vector_memory.proofs.areas.unguarded_areas.Given as goal

-- the areas so far
abbrev pub invariant-loop-page : goal.invariant-loop-page
invariant-loop-page l = l.areas.items ≡ map unguarded (take l.page-index l.pages)

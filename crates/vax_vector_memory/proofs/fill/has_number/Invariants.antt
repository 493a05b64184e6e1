use Rattle.std.proofs.Common.{◌≡◌, drop}
use Rattle.vax_vector_memory.specs.Pages.{has_number}
use Rattle.vax_vector_memory.proofs.fill.has_number.Given as goal

-- whether one of those from here on has it says whether one of all has
abbrev pub invariant-loop-page : goal.invariant-loop-page
invariant-loop-page l = has_number (drop l.page-index l.pages) l.number ≡ has_number l.pages l.number

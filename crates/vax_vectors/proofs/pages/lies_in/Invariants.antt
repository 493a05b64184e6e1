use Rattle.std.proofs.Common.{◌≡◌, drop}
use Rattle.vax_vectors.specs.Truth.{lies_in}
use Rattle.vax_vectors.proofs.pages.lies_in.Given as goal

-- whether one of those from here on has it says whether one of all has
abbrev pub invariant-loop-page : goal.invariant-loop-page
invariant-loop-page l = lies_in (drop l.page-index l.pages) l.addr ≡ lies_in l.pages l.addr

use Rattle.std.proofs.Common.{◌≡◌, ℕ, true, drop, ◌++◌, List}
use Rattle.vax_vectors.specs.Truth.{AreWithin}
use Rattle.vax_vectors.proofs.Inside.{TellsTheSame}
use Rattle.vax_vectors.proofs.pages.within.Given as goal

-- those that are kept lie in the pages, and tell of these what is told with those that come yet
abbrev pub invariant-loop-cell : goal.invariant-loop-cell
invariant-loop-cell l = AreWithin l.pages l.cells.items × TellsTheSame l.pages (l.cells.items ++ drop l.cell-index l.ram) l.ram

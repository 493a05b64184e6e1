use Rattle.std.proofs.Common.{◌≡◌, drop, max}
use Rattle.vax_space.specs.Reference.{program_end}
use Rattle.vax_space.proofs.lengths.program_end.Given as goal

abbrev pub invariant-loop-area : goal.invariant-loop-area
invariant-loop-area l = max l.end (program_end (drop l.area-index l.areas)) ≡ program_end l.areas

use Rattle.std.proofs.Common.{◌≡◌, drop}
use Rattle.vax_undo.specs.Blocks.{number_of_area}
use Rattle.vax_undo.proofs.plain.number_of_area.Given as goal

abbrev pub invariant-loop-number : goal.invariant-loop-number
invariant-loop-number l = number_of_area l.number (drop l.number l.areas) l.page ≡ number_of_area 0 l.areas l.page

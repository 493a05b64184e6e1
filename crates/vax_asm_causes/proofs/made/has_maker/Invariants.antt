use Rattle.std.proofs.Common.{◌≡◌, length}
use Rattle.vax_asm_causes.specs.Remarks.{has_maker}
use Rattle.vax_asm_causes.proofs.made.has_maker.Given as goal

abbrev pub invariant-loop-line : goal.invariant-loop-line
invariant-loop-line l = has_maker l.dialect l.maker l.rest ≡ has_maker l.dialect l.maker l.source

abbrev pub decreases-loop-line : goal.decreases-loop-line
decreases-loop-line l = length l.rest

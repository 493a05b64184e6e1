use Rattle.std.proofs.Common.{◌≡◌, length}
use Rattle.std.specs.Prelude.{is_some}
use Rattle.vax_asm_causes.specs.Counts.{often_in}
use Rattle.vax_asm_causes.specs.Remarks.{has_end}
use Rattle.vax_asm_causes.proofs.made.has_end.Given as goal

abbrev pub invariant-loop-behind : goal.invariant-loop-behind
invariant-loop-behind l = has_end (λ text. is_some (often_in l.counts text)) l.rest ≡ has_end (λ text. is_some (often_in l.counts text)) l.name

abbrev pub decreases-loop-behind : goal.decreases-loop-behind
decreases-loop-behind l = length l.rest

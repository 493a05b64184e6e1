use Rattle.std.proofs.Common.{◌≡◌, [], drop, take}
use Rattle.std.specs.Prelude.{is_some}
use Rattle.vax_asm_causes.specs.Counts.{often_in}
use Rattle.vax_asm_causes.specs.Remarks.{has_front}
use Rattle.vax_asm_causes.proofs.made.has_front.Given as goal

abbrev pub invariant-loop-i : goal.invariant-loop-i
invariant-loop-i l =
    has_front (λ text. is_some (often_in l.counts text)) (take l.i l.name) (drop l.i l.name)
    ≡ has_front (λ text. is_some (often_in l.counts text)) [] l.name

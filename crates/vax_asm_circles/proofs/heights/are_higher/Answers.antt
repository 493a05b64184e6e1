use Rattle.std.proofs.Common.{◌∙◌, ap, arith, length, map, sym, ⊎_elim}
use Rattle.std.proofs.lemmas.Bool.{cases_lt, false≢true}
use Rattle.std.proofs.lemmas.List.{length-map}
use Rattle.vax_asm_circles.specs.Circles.{among, waits}
use Rattle.vax_asm_circles.specs.Heights.{height}
use Rattle.vax_asm_circles.specs.Places.{place}
use Rattle.vax_asm_circles.specs.View.{step_of}
use Rattle.vax_asm_circles.proofs.Placing.{waits_none}
use Rattle.vax_asm_circles.proofs.Rising.{none_back}
use Rattle.vax_asm_circles.proofs.heights.are_higher.Goals as goal

pub returns : goal.returns
returns c = λ yes.
    let steps = map step_of c.args.steps.now in
    let long = length-map c.args.steps.now step_of in
    none_back (height c.args.heights.now steps) (waits steps)
    (λ i k e. ⊎_elim
    (λ inside. c.loop-at.invariant i k (omega (arith, inside, long, c.loop-at-test.false)) e)
    (λ past. absurd (false≢true (sym (ap (among k) (waits_none steps i (omega (arith, past, long)))) ∙ e)))
    (cases_lt (place steps i) (length c.args.steps.now)))

use Rattle.std.proofs.Common.{List, arith, length, map, subst}
use Rattle.std.proofs.lemmas.List.{take_all}
use Rattle.vax_asm_circles.specs.Circles.{Step}
use Rattle.vax_asm_circles.specs.Places.{AreFirsts}
use Rattle.vax_asm_circles.specs.View.{step_of}
use Rattle.vax_asm_circles.proofs.circles.comes_back.Goals as goal

pub is_met-requires : goal.is_met-requires
is_met-requires c =
    let steps = map step_of c.args.steps.now in
    let P : List Step → Type 0 = λ l. AreFirsts l c.in_ok-places.places in
    subst P (take_all (length steps) steps (omega arith)) (c.in_ok-places.ensures (length steps))

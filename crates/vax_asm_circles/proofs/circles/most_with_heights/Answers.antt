use Rattle.std.proofs.Common.{◌≤◌, ◌+◌, ◌-◌, ◌/◌, List, arith, length, map, subst, sym}
use Rattle.std.proofs.lemmas.List.{take-map, take_all}
use Rattle.vax_asm_circles.specs.Circles.{Step}
use Rattle.vax_asm_circles.specs.Heights.{NoneBack}
use Rattle.vax_asm_circles.specs.Places.{AreFirsts}
use Rattle.vax_asm_circles.specs.View.{step_of}
use Rattle.vax_asm_circles.proofs.Telling.{none_at_all}
use Rattle.vax_asm_circles.proofs.circles.most_with_heights.Goals as goal

pub all_waiting-requires : goal.all_waiting-requires
all_waiting-requires c =
    let steps = map step_of c.args.steps.now in
    let P : List Step → Type 0 = λ l. AreFirsts l c.args.places.now in
    subst P (take_all (length steps) steps (omega arith)) (c.requires (length steps))

pub have_heights-requires : goal.have_heights-requires
have_heights-requires c =
    let steps = map step_of c.args.steps.now in
    let P : List Step → Type 0 = λ l. AreFirsts l c.args.places.now in
    subst P (take_all (length steps) steps (omega arith)) (c.requires (length steps))

pub halving-init : goal.halving-init
halving-init c = record { ordered = omega arith; within = omega arith; none_back = none_at_all }

pub have_heights-requires-in-halving : goal.have_heights-requires-in-halving
have_heights-requires-in-halving c =
    let middle = c.halving.count + (c.halving.past - c.halving.count) / 2 in
    let P : List Step → Type 0 = λ l. AreFirsts l c.args.places.now in
    subst P (take-map step_of middle c.args.steps.now) (c.requires middle)

pub halving-preserved-then-branch-2 : goal.halving-preserved-then-branch-2
halving-preserved-then-branch-2 c =
    let middle = c.halving.count + (c.halving.past - c.halving.count) / 2 in
    let inside : middle ≤ c.halving.past = omega (arith, c.halving.invariant.ordered) in
    let P : List Step → Type 0 = λ l. NoneBack l in
    record { ordered = inside; within = c.halving.invariant.within; none_back = subst P (sym (take-map step_of middle c.args.steps.now)) (c.in_ok-have_heights-2.ensures c.if-branch-2.true) }

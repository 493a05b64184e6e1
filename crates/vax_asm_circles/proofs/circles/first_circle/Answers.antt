use Rattle.std.proofs.Common.{◌≡◌, ◌∙◌, ◌+◌, ◌<◌, Bool, ℕ, List, Some, ap, drop, get_or, length, map, sym, subst, take}
use Rattle.std.proofs.Math.ListN.{get_or-map}
use Rattle.std.proofs.lemmas.List.{length-map, take-map}
use Rattle.vax_asm_circles.specs.Circles.{Step, comes_back, first_back}
use Rattle.vax_asm_circles.specs.Places.{AreFirsts}
use Rattle.std.specs.Prelude.{if◌then◌else◌}
use Rattle.vax_asm_circles.specs.View.{step_of}
use Rattle.vax_asm_circles.specs.declared.steps.Step.{Step as Listed}
use Rattle.vax_asm_circles.proofs.Telling.{circle_behind, back_told, told_so, told_not, none_told}
use Rattle.vax_asm_circles.proofs.circles.first_circle.Goals as goal

pub loop-at-init : goal.loop-at-init
loop-at-init c = circle_behind (map step_of c.args.steps.now) c.in_ok-count.count c.in_ok-count.ensures.none_back

pub is_met-requires : goal.is_met-requires
is_met-requires c =
    let n = c.loop-at.at + 1 in
    let P : List Step → Type 0 = λ l. AreFirsts l c.in_ok-places.places in
    subst P (take-map step_of n c.args.steps.now) (c.in_ok-places.ensures n)

-- what the walk tells of one step
told : (steps : List Listed) (at : ℕ) (d : Listed) (b : Bool) → at < length steps → b ≡ comes_back (map step_of (take (at + 1) steps)) (get_or steps at d).from
    → first_back (take at (map step_of steps)) (drop at (map step_of steps))
    ≡ (if b then Some at else first_back (take (at + 1) (map step_of steps)) (drop (at + 1) (map step_of steps)))
told steps at d b h e =
    let all = map step_of steps in
    back_told all at (step_of d) b (rw (length-map steps step_of) h)
    (e ∙ ap (λ l. comes_back l (get_or steps at d).from) (sym (take-map step_of (at + 1) steps)) ∙ ap (λ (s : Step). comes_back (take (at + 1) all) s.from) (sym (get_or-map step_of steps at d)))

pub returns-then-branch : goal.returns-then-branch
returns-then-branch c =
    let steps = map step_of c.args.steps.now in
    let at = c.loop-at.at in
    let b = c.in_ok-is_met.field-0 in
    sym
    (c.loop-at.invariant
    ∙ told c.args.steps.now at c.index-steps-at.result b c.loop-at-test.true c.in_ok-is_met.ensures
    ∙ told_so b (Some at) (first_back (take (at + 1) steps) (drop (at + 1) steps)) c.if-branch.true)

pub loop-at-preserved : goal.loop-at-preserved
loop-at-preserved c =
    let steps = map step_of c.args.steps.now in
    let at = c.loop-at.at in
    let b = c.in_ok-is_met.field-0 in
    c.loop-at.invariant
    ∙ told c.args.steps.now at c.index-steps-at.result b c.loop-at-test.true c.in_ok-is_met.ensures
    ∙ told_not b (Some at) (first_back (take (at + 1) steps) (drop (at + 1) steps)) c.if-branch.false

pub returns : goal.returns
returns c =
    let steps = map step_of c.args.steps.now in
    sym (c.loop-at.invariant ∙ none_told (take c.loop-at.at steps) steps c.loop-at.at (rw (length-map c.args.steps.now step_of) c.loop-at-test.false))

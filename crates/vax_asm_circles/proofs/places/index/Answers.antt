use Rattle.std.proofs.Common.{◌≡◌, ◌≤◌, ◌∙◌, ◌+◌, ℕ, Option, Some, arith, get_or, length, map, sym, subst, take}
use Rattle.std.specs.Prelude.{◌==◌, if◌then◌else◌, nat_eq, unwrap_or}
use Rattle.std.specs.HashMap.{get}
use Rattle.std.proofs.Math.ListN.{get_or-map}
use Rattle.std.proofs.lemmas.List.{length-map, length-take}
use Rattle.vax_asm_circles.specs.Circles.{Step}
use Rattle.vax_asm_circles.specs.Places.{first_below, kept_below, place}
use Rattle.vax_asm_circles.specs.View.{step_of}
use Rattle.vax_asm_circles.proofs.Placing.{kept_one, place-take, place_within, kept-first_below}
use Rattle.vax_asm_circles.proofs.places.index.Goals as goal

pub loop-at-preserved : goal.loop-at-preserved
loop-at-preserved c = λ i.
    let steps = map step_of c.args.steps.now in
    let r = c.index-steps-at.result in
    let at = c.loop-at.at in
    let P : Option ℕ → Type 0 = λ o. get nat_eq c.keep.new.places i ≡ (if (get_or c.args.steps.now at r).from == i then Some (unwrap_or o at) else o) in
    let Q : Step → Type 0 =
    λ s. (if s.from == i then Some (unwrap_or (first_below at (place steps i)) at) else first_below at (place steps i)) ≡ first_below (at + 1) (place steps i) in
    subst P (c.loop-at.invariant i) (c.in_ok-keep.ensures i)
    ∙ subst Q (get_or-map step_of c.args.steps.now at r) (kept_one steps at i (step_of r) (rw (length-map c.args.steps.now step_of) c.loop-at-test.true))

pub returns : goal.returns
returns c = λ n i.
    let steps = map step_of c.args.steps.now in
    let P : Option ℕ → Type 0 = λ o. kept_below (length (take n steps)) (Some (place steps i)) ≡ kept_below (length (take n steps)) o in
    let long = length-map c.args.steps.now step_of in
    let taken = length-take n steps in
    let few : length (take n steps) ≤ c.loop-at.at = omega (arith, long, taken, c.loop-at-test.false) in
    let inside : place steps i ≤ c.loop-at.at = omega (arith, long, place_within steps i, c.loop-at-test.false) in
    place-take n steps i ∙ subst P (sym (c.loop-at.invariant i)) (kept-first_below (length (take n steps)) c.loop-at.at (place steps i) few inside)

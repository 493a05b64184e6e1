use Rattle.std.proofs.Common.{◌≡◌, ◌<◌, ◌∙◌, ℕ, List, ap, arith, get_or, length, map, sym, subst, true}
use Rattle.std.proofs.Math.ListN.{get_or-map}
use Rattle.std.proofs.lemmas.List.{length-map}
use Rattle.std.specs.Prelude.{slice_index_or}
use Rattle.vax_asm_circles.specs.Circles.{Step, among, waits}
use Rattle.vax_asm_circles.specs.Heights.{height}
use Rattle.vax_asm_circles.specs.Places.{place}
use Rattle.vax_asm_circles.specs.View.{step_of}
use Rattle.vax_asm_circles.proofs.Placing.{from_is, waits_found}
use Rattle.vax_asm_circles.proofs.heights.is_higher.Goals as goal

pub returns-then-place-at : goal.returns-then-place-at
returns-then-place-at c = λ yes i k is e.
    let steps = map step_of c.args.steps.now in
    let r = c.index-steps-at.result in
    let here : get_or steps c.args.at (step_of r) ≡ step_of r = get_or-map step_of c.args.steps.now c.args.at r ∙ ap step_of (sym c.index-steps-at.is) in
    let from : r.from ≡ i = sym (ap (λ (s : Step). s.from) here) ∙ from_is steps c.args.at i (step_of r) (rw (length-map c.args.steps.now step_of) c.requires.at) is in
    let same : place steps r.from ≡ place steps i = ap (place steps) from in
    absurd (omega (arith, same, is, c.place.ensures, c.if-place-at.true))

pub returns : goal.returns
returns c = λ yes i k is e.
    let steps = map step_of c.args.steps.now in
    let r = c.index-steps-at.result in
    let at = c.args.at in
    let inside : at < length steps = rw (length-map c.args.steps.now step_of) c.requires.at in
    let here : get_or steps at (step_of r) ≡ step_of r = get_or-map step_of c.args.steps.now at r ∙ ap step_of (sym c.index-steps-at.is) in
    let found : waits steps i ≡ (get_or steps (place steps i) (step_of r)).to = waits_found steps i (step_of r) (omega (arith, is, inside)) in
    let waited : waits steps i ≡ c.deref.result.now =
    found ∙ ap (λ (n : ℕ). (get_or steps n (step_of r)).to) is ∙ ap (λ (s : Step). s.to) here ∙ sym c.deref.ensures.value in
    let P : List ℕ → Type 0 = λ l. among k l ≡ true in
    let below = c.are_below.ensures yes k (subst P waited e) in
    let Q : ℕ → Type 0 = λ n. height c.args.heights.now steps k < n in
    subst Q (c.height_at.ensures ∙ ap (λ n. slice_index_or c.args.heights.now n 0) (sym is)) below

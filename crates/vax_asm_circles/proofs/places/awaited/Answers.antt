use Rattle.std.proofs.Common.{◌≡◌, ◌<◌, ◌∙◌, ap, arith, get_or, length, map, sym}
use Rattle.std.proofs.Math.ListN.{get_or-map}
use Rattle.std.proofs.lemmas.List.{length-map}
use Rattle.vax_asm_circles.specs.Circles.{Step}
use Rattle.vax_asm_circles.specs.Places.{place}
use Rattle.vax_asm_circles.specs.View.{step_of}
use Rattle.vax_asm_circles.proofs.Placing.{waits_found, waits_none}
use Rattle.vax_asm_circles.proofs.places.awaited.Goals as goal

pub returns-in-Some : goal.returns-in-Some
returns-in-Some c =
    let steps = map step_of c.args.steps.now in
    let i = c.args.number in
    let step = c.in-Some.step.now in
    let lookup = c.in-Some.ensures.lookup in
    let long = length-map c.args.steps.now step_of in
    let inside : place steps i < length steps = omega (arith, long, lookup.3.0, c.place.ensures) in
    let same : get_or steps (place steps i) (step_of step) ≡ step_of step =
    ap (λ n. get_or steps n (step_of step)) (sym c.place.ensures) ∙ get_or-map step_of c.args.steps.now c.place.result step ∙ ap step_of (sym lookup.1) in
    c.deref.ensures.value ∙ sym (ap (λ (s : Step). s.to) same) ∙ sym (waits_found steps i (step_of step) inside)

pub returns-in-None : goal.returns-in-None
returns-in-None c =
    let steps = map step_of c.args.steps.now in
    let long = length-map c.args.steps.now step_of in
    sym (waits_none steps c.args.number (omega (arith, long, c.in-None.ensures.lookup.3, c.place.ensures)))

use Rattle.std.proofs.Common.{arith, ◌≡◌, ◌==◌, ◌∷◌, [], ◌∙◌, ℕ, ap, if◌then◌else◌, length, map, nat_eq, refl, subst, sym}
use Rattle.std.proofs.lemmas.List.{length-map, map-append}
use Rattle.std.specs.HashMap.{get}
use Rattle.vax_asm_circles.specs.Growing.{without}
use Rattle.vax_asm_circles.specs.View.{step_of}
use Rattle.vax_asm_circles.proofs.Adding.{fewer_indexed}
use Rattle.vax_asm_circles.proofs.growing.Steps.take_back.Goals as goal

pub returns-in-Some-clause-indexed : goal.returns-in-Some-clause-indexed
returns-in-Some-clause-indexed c =
    let old = c.args.self.now in
    let left = c.pop.new.self in
    let step = c.in-Some.step in
    let split = ap (map step_of) c.in-Some.ensures.items ∙ map-append step_of left.items (step ∷ []) in
    let P : ℕ → Type 0 = λ n. (i : ℕ) → get nat_eq c.forget.new.places i ≡ (if step.from == i then without n (get nat_eq old.places i) else get nat_eq old.places i) in
    fewer_indexed old (record { list = left; places = c.forget.new.places; awaited = old.awaited }) (map step_of left.items) (step_of step) c.requires split refl
    (subst P (let seen = length-map left.items step_of in omega (arith, seen, c.len.ensures, left.ok)) c.forget.ensures) refl

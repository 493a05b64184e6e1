use Rattle.std.proofs.Common.{arith, rules, ◌≡◌, ◌==◌, ◌++◌, ◌∷◌, [], ◌∙◌, ℕ, List, Some, ap, false, if◌then◌else◌, length, map, nat_eq, subst, sym}
use Rattle.std.proofs.lemmas.List.{length-map, map-append}
use Rattle.std.specs.HashMap.{get}
use Rattle.std.specs.Prelude.{unwrap_or}
use Rattle.vax_asm_circles.specs.Growing.{IsIndexed, steps_in}
use Rattle.vax_asm_circles.specs.Places.{AreFirsts}
use Rattle.vax_asm_circles.specs.View.{step_of}
use Rattle.vax_asm_circles.specs.Walks.{Met}
use Rattle.vax_asm_circles.specs.declared.growing.Steps.{Steps}
use Rattle.vax_asm_circles.specs.declared.steps.Step.{Step}
use Rattle.vax_asm_circles.proofs.Adding.{firsts_kept, more_indexed, none_back, whenever}
use Rattle.vax_asm_circles.proofs.growing.Steps.add.Goals as goal

pub returns-then-not-contains-clause-indexed : goal.returns-then-not-contains-clause-indexed
returns-then-not-contains-clause-indexed c =
    let old = c.args.self.now in
    let new : Steps = record { list = c.push.new.self; places = c.keep.new.places; awaited = c.meet_all.new.met } in
    let step = c.args.step in
    let items : c.push.new.self.items ≡ old.list.items ++ step ∷ [] = search rules in
    let P : ℕ → Type 0 = λ n. (i : ℕ) → get nat_eq new.places i ≡ (if step.from == i then Some (unwrap_or (get nat_eq old.places i) n) else get nat_eq old.places i) in
    let Q : List ℕ → Type 0 = λ l. Met l old.awaited.keys c.new-work.result.items new.awaited.keys c.meet_all.new.work.items in
    let met = subst Q c.deref.ensures.value c.in_ok-meet_all.ensures in
    more_indexed old new (step_of step) c.requires (ap (map step_of) items ∙ map-append step_of old.list.items (step ∷ []))
    (subst P (let seen = length-map old.list.items step_of in omega (arith, seen, c.len-at.ensures, old.list.ok)) c.in_ok-keep.ensures) met.more met.all met.distinct

pub returns-then-not-contains-clause-back : goal.returns-then-not-contains-clause-back
returns-then-not-contains-clause-back c =
    let new : Steps = record { list = c.push.new.self; places = c.keep.new.places; awaited = c.meet_all.new.met } in
    let none : c.contains.result ≡ false = search rules in
    let indexed : IsIndexed new = returns-then-not-contains-clause-indexed c in
    sym (none_back (steps_in new) new.awaited.keys c.args.step.from indexed.awaited (sym c.contains.ensures ∙ none))

pub returns-clause-indexed : goal.returns-clause-indexed
returns-clause-indexed c =
    let old = c.args.self.now in
    let new : Steps = record { list = c.push.new.self; places = c.keep.new.places; awaited = c.meet_all.new.met } in
    let step = c.args.step in
    let items : c.push.new.self.items ≡ old.list.items ++ step ∷ [] = search rules in
    let P : ℕ → Type 0 = λ n. (i : ℕ) → get nat_eq new.places i ≡ (if step.from == i then Some (unwrap_or (get nat_eq old.places i) n) else get nat_eq old.places i) in
    let Q : List ℕ → Type 0 = λ l. Met l old.awaited.keys c.new-work.result.items new.awaited.keys c.meet_all.new.work.items in
    let met = subst Q c.deref.ensures.value c.in_ok-meet_all.ensures in
    whenever c.is_met.result
    (more_indexed old new (step_of step) c.requires (ap (map step_of) items ∙ map-append step_of old.list.items (step ∷ []))
    (subst P (let seen = length-map old.list.items step_of in omega (arith, seen, c.len-at.ensures, old.list.ok)) c.in_ok-keep.ensures) met.more met.all met.distinct)

pub is_met-requires : goal.is_met-requires
is_met-requires c =
    let old = c.args.self.now in
    let new : Steps = record { list = c.push.new.self; places = c.keep.new.places; awaited = c.meet_all.new.met } in
    let step = c.args.step in
    let items : c.push.new.self.items ≡ old.list.items ++ step ∷ [] = search rules in
    let P : ℕ → Type 0 = λ n. (i : ℕ) → get nat_eq new.places i ≡ (if step.from == i then Some (unwrap_or (get nat_eq old.places i) n) else get nat_eq old.places i) in
    let Q : List ℕ → Type 0 = λ l. Met l old.awaited.keys c.new-work.result.items new.awaited.keys c.meet_all.new.work.items in
    let met = subst Q c.deref.ensures.value c.in_ok-meet_all.ensures in
    let indexed : IsIndexed new = more_indexed old new (step_of step) c.requires (ap (map step_of) items ∙ map-append step_of old.list.items (step ∷ []))
    (subst P (let seen = length-map old.list.items step_of in omega (arith, seen, c.len-at.ensures, old.list.ok)) c.in_ok-keep.ensures) met.more met.all met.distinct in
    let R : List Step → Type 0 = λ l. AreFirsts (map step_of l) new.places in
    subst R (sym c.deref-2.ensures.value) (λ i. firsts_kept (steps_in new) i (get nat_eq new.places i) (indexed.places i))

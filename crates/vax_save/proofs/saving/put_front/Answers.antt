use Rattle.std.proofs.Common.{◌≡◌, ◌∙◌, ◌++◌, List, ℕ, ap, arith, length, subst}
use Rattle.std.proofs.lemmas.Result.{on_err_weaker, on_ok_weaker}
use Rattle.vax_space.specs.declared.Area.{Area}
use Rattle.vax_outside.proofs.Growth.{on_err}
use Rattle.vax_undo.specs.declared.term.Term.{Term}
use Rattle.vax_machine.specs.Machine.{keeping}
use Rattle.vax_machine.specs.Meaning.{engine}
use Rattle.vax_save.specs.Saved.{areas_field}
use Rattle.vax_save.specs.Saving.{first_fields}
use Rattle.vax_save.specs.Stream.{Cuts, Puts, stream}
use Rattle.vax_save.proofs.SavingLaws.{few_areas}
use Rattle.vax_save.proofs.Streaming.{cuts_first, cuts_then, puts_then}
use Rattle.vax_save.proofs.saving.put_front.Goals as goal

pub returns-in_err-put-clause-cut : goal.returns-in_err-put-clause-cut
returns-in_err-put-clause-cut g c =
    let m = engine c.args.machine.now in
    let input : List ℕ = m.cpu.term.input.items in
    let areas : List Area = (keeping m).areas in
    let s = stream (g.K.Sink.contents c.args.sink.now) c.args.held.now.items in
    let e1 : c.deref.result.now ≡ first_fields m = c.deref.ensures.0 ∙ c.first_fields.ensures in
    on_err c.from_residual.result
    (cuts_first (first_fields m) (input ++ areas_field areas) s (g.K.Sink.contents c.put.new.sink) (subst (λ (z : List ℕ). Cuts z s (g.K.Sink.contents c.put.new.sink)) e1 c.in_err-put.ensures.cut))

pub returns-in_err-put-2-clause-cut : goal.returns-in_err-put-2-clause-cut
returns-in_err-put-2-clause-cut g c =
    let m = engine c.args.machine.now in
    let input : List ℕ = m.cpu.term.input.items in
    let areas : List Area = (keeping m).areas in
    let s = stream (g.K.Sink.contents c.args.sink.now) c.args.held.now.items in
    let e1 : c.deref.result.now ≡ first_fields m = c.deref.ensures.0 ∙ c.first_fields.ensures in
    let t = stream (g.K.Sink.contents c.put.new.sink) c.put.new.held.items in
    let one : Puts (first_fields m) s t = subst (λ (z : List ℕ). Puts z s t) e1 c.in_ok-put.ensures.ok in
    let e2 : c.deref-2.result.now ≡ input = c.deref-2.ensures.value ∙ ap (λ (z : Term). z.input.items) c.term.ensures.term in
    on_err c.from_residual-in_err-put-2.result
    (cuts_then (first_fields m) (input ++ areas_field areas) s t (g.K.Sink.contents c.put-2.new.sink) one
    (cuts_first input (areas_field areas) t (g.K.Sink.contents c.put-2.new.sink) (subst (λ (z : List ℕ). Cuts z t (g.K.Sink.contents c.put-2.new.sink)) e2 c.in_err-put-2.ensures.cut)))

pub put_areas-requires : goal.put_areas-requires
put_areas-requires g c =
    let few = few_areas c.space.result.now c.areas.ensures.sound in
    let same : length c.areas.result.now ≡ length c.space.result.now = ap length c.areas.ensures.areas in
    omega (arith, few, same)

pub returns-clause-ok : goal.returns-clause-ok
returns-clause-ok g c =
    let m = engine c.args.machine.now in
    let input : List ℕ = m.cpu.term.input.items in
    let areas : List Area = (keeping m).areas in
    let s = stream (g.K.Sink.contents c.args.sink.now) c.args.held.now.items in
    let e1 : c.deref.result.now ≡ first_fields m = c.deref.ensures.0 ∙ c.first_fields.ensures in
    let t = stream (g.K.Sink.contents c.put.new.sink) c.put.new.held.items in
    let one : Puts (first_fields m) s t = subst (λ (z : List ℕ). Puts z s t) e1 c.in_ok-put.ensures.ok in
    let e2 : c.deref-2.result.now ≡ input = c.deref-2.ensures.value ∙ ap (λ (z : Term). z.input.items) c.term.ensures.term in
    let u = stream (g.K.Sink.contents c.put-2.new.sink) c.put-2.new.held.items in
    let two : Puts input t u = subst (λ (z : List ℕ). Puts z t u) e2 c.in_ok-put-2.ensures.ok in
    let e3 : c.areas.result.now ≡ areas = c.areas.ensures.areas ∙ c.space.ensures in
    let v = stream (g.K.Sink.contents c.put_areas.new.sink) c.put_areas.new.held.items in
    on_ok_weaker c.put_areas.result (λ h.
    puts_then (first_fields m) (input ++ areas_field areas) s t v one (puts_then input (areas_field areas) t u v two (subst (λ (z : List Area). Puts (areas_field z) u v) e3 h))) c.put_areas.ensures.ok

pub returns-clause-cut : goal.returns-clause-cut
returns-clause-cut g c =
    let m = engine c.args.machine.now in
    let input : List ℕ = m.cpu.term.input.items in
    let areas : List Area = (keeping m).areas in
    let s = stream (g.K.Sink.contents c.args.sink.now) c.args.held.now.items in
    let e1 : c.deref.result.now ≡ first_fields m = c.deref.ensures.0 ∙ c.first_fields.ensures in
    let t = stream (g.K.Sink.contents c.put.new.sink) c.put.new.held.items in
    let one : Puts (first_fields m) s t = subst (λ (z : List ℕ). Puts z s t) e1 c.in_ok-put.ensures.ok in
    let e2 : c.deref-2.result.now ≡ input = c.deref-2.ensures.value ∙ ap (λ (z : Term). z.input.items) c.term.ensures.term in
    let u = stream (g.K.Sink.contents c.put-2.new.sink) c.put-2.new.held.items in
    let two : Puts input t u = subst (λ (z : List ℕ). Puts z t u) e2 c.in_ok-put-2.ensures.ok in
    let e3 : c.areas.result.now ≡ areas = c.areas.ensures.areas ∙ c.space.ensures in
    let now = g.K.Sink.contents c.put_areas.new.sink in
    on_err_weaker c.put_areas.result (λ h.
    cuts_then (first_fields m) (input ++ areas_field areas) s t now one (cuts_then input (areas_field areas) t u now two (subst (λ (z : List Area). Cuts (areas_field z) u now) e3 h))) c.put_areas.ensures.cut

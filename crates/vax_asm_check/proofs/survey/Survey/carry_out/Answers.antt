use Rattle.std.proofs.Common.{◌≡◌, ◌++◌, List, [], length, map, take, refl, ap, sym, subst, rules, ◌∙◌}
use Rattle.std.proofs.lemmas.List.{length-map}
use Rattle.std.specs.List.{cons_option}
use Rattle.std.specs.Prelude.{None, Some}
use Rattle.vax_asm.specs.Placing.{placed, waiting_in}
use Rattle.vax_asm.specs.PlacingView.{IsPlaced}
use Rattle.vax_asm.specs.Walk.{Assembly, nothing}
use Rattle.vax_asm_check.proofs.Going.{goes_faulty, goes_label, goes_stands, same_assembly}
use Rattle.vax_asm_check.proofs.Restating.{first_waiting, kept_more, same_kept, stands_again}
use Rattle.vax_asm_check.specs.Restating.{restated}
use Rattle.vax_asm_check.specs.View.{left_of, said_of}
use Rattle.vax_asm_check.specs.declared.left.Left.{Left}
use Rattle.vax_asm_check.specs.declared.left.Stated.{Stated}
use Rattle.vax_asm_faults.specs.Survey.{left_by, with_faults}
use Rattle.vax_asm_first.specs.Circles.{steps_by}
use Rattle.vax_asm_first.specs.View.{assignment_of}
use Rattle.vax_asm_second.specs.declared.types.Fault.{Fault}
use Rattle.vax_asm_check.proofs.survey.Survey.carry_out.Goals as goal

pub returns-in_ok-keep-in-Stands-clause-goes : goal.returns-in_ok-keep-in-Stands-clause-goes
returns-in_ok-keep-in-Stands-clause-goes c =
    let old = c.args.self.now in
    let o = c.args.origin in
    let text = c.args.said.text.items in
    let a = left_of old.left in
    let b = left_of c.place.new.self in
    let p = placed o text a.standing in
    let is = subst (λ q. IsPlaced q a.standing b.standing a.assignments b.assignments p) c.in-Stands.is c.in_ok-placed.ensures.placed in
    let many : c.len-before.result ≡ length old.left.assignments.items = search rules in
    let circle = c.in_ok-circle-in-Stands.ensures.fault a.assignments (waiting_in p) (length-map old.left.assignments.items assignment_of ∙ sym many, ap (map assignment_of) c.deref.ensures.value ∙ is.1, c.requires.kept.steps) in
    λ next. goes_stands o text a b old.ended old.faults.items (cons_option c.in_ok-circle-in-Stands.circle []) next c.requires.goes is.0 (stands_again p a b.standing b.assignments is.0 is.1) circle
    ∙ ap (λ l. with_faults l (next b None)) (sym c.in_ok-add-in-Stands.ensures)

pub returns-in_ok-keep-in-Stands-clause-kept : goal.returns-in_ok-keep-in-Stands-clause-kept
returns-in_ok-keep-in-Stands-clause-kept c =
    let old = c.args.self.now in
    let o = c.args.origin in
    let a = left_of old.left in
    let b = left_of c.place.new.self in
    let p = placed o c.args.said.text.items a.standing in
    let is = subst (λ q. IsPlaced q a.standing b.standing a.assignments b.assignments p) c.in-Stands.is c.in_ok-placed.ensures.placed in
    let s : Stated = record { origin = o; line = c.in_ok-line.line } in
    let many : c.len-before.result ≡ length old.left.assignments.items = search rules in
    let all = c.in_ok-circle-in-Stands.ensures.steps a.assignments (waiting_in p) (length-map old.left.assignments.items assignment_of ∙ sym many, ap (map assignment_of) c.deref.ensures.value ∙ is.1, c.requires.kept.steps) in
    record {
      stood =
          ap (λ l. restated (map said_of l) (nothing old.dialect)) c.in_ok-keep-in-Stands.ensures
          ∙ kept_more old.stood.items s (nothing old.dialect) a b c.requires.kept.stood
          (stands_again p a b.standing b.assignments is.0 is.1 ∙ ap (λ (t : List _). left_by (placed o t a.standing) a) (sym c.in_ok-line.ensures));
      steps = all ∙ ap (λ l. steps_by (map assignment_of l)) c.deref.ensures.value;
      indexed = c.in_ok-circle-in-Stands.ensures.indexed;
    }

pub returns-in_ok-add-in-FaultyLabel-clause-goes : goal.returns-in_ok-add-in-FaultyLabel-clause-goes
returns-in_ok-add-in-FaultyLabel-clause-goes c =
    let old = c.args.self.now in
    let o = c.args.origin in
    let text = c.args.said.text.items in
    let a = left_of old.left in
    let b = left_of c.place.new.self in
    let p = placed o text a.standing in
    let is = subst (λ q. IsPlaced q a.standing b.standing a.assignments b.assignments p) c.in-FaultyLabel.is c.in_ok-placed.ensures.placed in
    λ next. goes_label o text a b old.ended old.faults.items c.in-FaultyLabel.kind next c.requires.goes is.0 (same_assembly a b.standing b.assignments is.1 is.2)
    ∙ ap (λ l. with_faults l (next b None)) (sym c.in_ok-add-in-FaultyLabel.ensures)

pub returns-in_ok-go_back-in-Faulty-clause-goes : goal.returns-in_ok-go_back-in-Faulty-clause-goes
returns-in_ok-go_back-in-Faulty-clause-goes c =
    let old = c.args.self.now in
    let o = c.args.origin in
    let text = c.args.said.text.items in
    let a = left_of old.left in
    let d = left_of c.place.new.self in
    let b = left_of c.go_back.new.self in
    let p = placed o text a.standing in
    let is = subst (λ q. IsPlaced q a.standing d.standing a.assignments d.assignments p) c.in-Faulty.is c.in_ok-placed.ensures.placed in
    let many : c.len-before.result ≡ length old.left.assignments.items = search rules in
    let told = cons_option c.in_ok-circle-in-Faulty.circle [] in
    let circle = c.in_ok-circle-in-Faulty.ensures.fault a.assignments (waiting_in p) (length-map old.left.assignments.items assignment_of ∙ sym many, ap (map assignment_of) c.deref-in-Faulty.ensures.value ∙ is.1, c.requires.kept.steps) in
    let again : b ≡ a = c.in_ok-go_back-in-Faulty.ensures ∙ ap (λ l. restated (map said_of l) (nothing old.dialect)) c.deref-in-Faulty-2.ensures.value ∙ c.requires.kept.stood in
    let all = c.in_ok-add-in-Faulty-2.ensures ∙ ap (λ (l : List Fault). l ++ told) c.in_ok-add-in-Faulty.ensures in
    λ next. goes_faulty o text a b old.ended old.faults.items told c.in-Faulty.kind next c.requires.goes is.0 again circle
    ∙ ap (λ l. with_faults l (next b (Some o.place))) (sym all)

pub returns-in_ok-add-in-FaultyLabel-clause-kept : goal.returns-in_ok-add-in-FaultyLabel-clause-kept
returns-in_ok-add-in-FaultyLabel-clause-kept c =
    let old = c.args.self.now in
    let a = left_of old.left in
    let left : Left = c.place.new.self in
    let b = left_of left in
    let p = placed c.args.origin c.args.said.text.items a.standing in
    let is = subst (λ q. IsPlaced q a.standing b.standing a.assignments b.assignments p) c.in-FaultyLabel.is c.in_ok-placed.ensures.placed in
    same_kept old.dialect old.stood old.left left old.steps old.steps c.requires.kept (same_assembly a b.standing b.assignments is.1 is.2) refl c.requires.kept.indexed

pub returns-in_ok-go_back-in-Faulty-clause-kept : goal.returns-in_ok-go_back-in-Faulty-clause-kept
returns-in_ok-go_back-in-Faulty-clause-kept c =
    let old = c.args.self.now in
    let again = c.in_ok-go_back-in-Faulty.ensures ∙ ap (λ l. restated (map said_of l) (nothing old.dialect)) c.deref-in-Faulty-2.ensures.value ∙ c.requires.kept.stood in
    let told = c.in_ok-circle-in-Faulty.ensures in
    same_kept old.dialect old.stood old.left c.go_back.new.self old.steps c.circle_beside.new.steps c.requires.kept again told.same told.indexed

pub go_back-requires : goal.go_back-requires
go_back-requires c =
    let old = c.args.self.now in
    let a = left_of old.left in
    let d = left_of c.place.new.self in
    let p = placed c.args.origin c.args.said.text.items a.standing in
    let is = subst (λ q. IsPlaced q a.standing d.standing a.assignments d.assignments p) c.in-Faulty.is c.in_ok-placed.ensures.placed in
    let many : c.len-before.result ≡ length old.left.assignments.items = search rules in
    let before : restated (map said_of c.deref-in-Faulty-2.result.now) (nothing old.dialect) ≡ a = ap (λ l. restated (map said_of l) (nothing old.dialect)) c.deref-in-Faulty-2.ensures.value ∙ c.requires.kept.stood in
    let first = first_waiting (waiting_in p) a.assignments c.len-before.result (many ∙ sym (length-map old.left.assignments.items assignment_of)) in
    (λ m h. c.place.ensures.mark m h ∙ ap (λ (x : Assembly). x.standing) (sym before), ap (λ l. take c.len-before.result l) is.1 ∙ first ∙ ap (λ (x : Assembly). x.assignments) (sym before))

-- What a statement adds to a survey.
use Rattle.std.proofs.Common.{◌≡◌, ℕ, true, false, cond, List, [], ◌∷◌, ◌++◌, Option, Some, None, refl, sym, ap, ◌∙◌, append_assoc}
use Rattle.vax_asm.specs.Placing.{FaultyLabel, Faulty, Placed, Stands, placed, waiting_in}
use Rattle.vax_asm.specs.Walk.{Assembly}
use Rattle.vax_asm_faults.specs.Survey.{Onward, Survey, carried, circle_faults, is_ended, left_by, line_ended, stated, statement_faults, with_faults}
use Rattle.vax_asm_first.specs.Fixups.{Assignment}
use Rattle.vax_asm_first.specs.Standing.{Standing}
use Rattle.vax_asm_first.specs.declared.types.Origin.{Origin}
use Rattle.vax_asm_second.specs.declared.types.Fault.{Fault}
use Rattle.vax_macro.specs.declared.error.FaultKind.{FaultKind}

pub faults_joined : (fs gs : List Fault) (s : Survey) → with_faults fs (with_faults gs s) ≡ with_faults (fs ++ gs) s
faults_joined fs gs s = ap (λ (l : List Fault). record s { faults = l }) (sym (append_assoc fs gs s.faults))

-- a line that has ended
pub goes_past : (o : Origin) (text : List ℕ) (a : Assembly) (ended : Option ℕ) (fs : List Fault) (next : Onward) → is_ended ended o.place ≡ true
    → with_faults fs (stated o text a ended next) ≡ with_faults fs (next a ended)
unfolding stated
goes_past o text a ended fs next e = ap (λ b. with_faults fs (cond b (next a ended) (carried o (placed o text a.standing) a next))) e

pub here : (o : Origin) (text : List ℕ) (a : Assembly) (ended : Option ℕ) (next : Onward) → is_ended ended o.place ≡ false → stated o text a ended next ≡ carried o (placed o text a.standing) a next
unfolding stated
here o text a ended next e = ap (λ b. cond b (next a ended) (carried o (placed o text a.standing) a next)) e

carried_on : (p : Placed) (o : Origin) (a b : Assembly) (fs gs : List Fault) (e : Option ℕ) (next : Onward) → statement_faults p o a.assignments ≡ gs → left_by p a ≡ b → line_ended p o.place ≡ e
    → with_faults fs (carried o p a next) ≡ with_faults (fs ++ gs) (next b e)
carried_on p o a b fs gs e next f l n =
    ap (λ (hs : List Fault). with_faults fs (with_faults hs (next (left_by p a) (line_ended p o.place)))) f
    ∙ ap (λ (c : Assembly). with_faults fs (with_faults gs (next c (line_ended p o.place)))) l
    ∙ ap (λ (m : Option ℕ). with_faults fs (with_faults gs (next b m))) n
    ∙ faults_joined fs gs (next b e)

-- what is told of a statement, by what its code answers
stands_faults : (p : Placed) (o : Origin) (before : List Assignment) (after : Standing) → p ≡ Stands after (waiting_in p) → circle_faults before (waiting_in p) ≡ statement_faults p o before
stands_faults (Stands s w) o before after e = refl
stands_faults (FaultyLabel kind) o before after e = absurd cc
stands_faults (Faulty kind w) o before after e = absurd cc

stands_on : (p : Placed) (o : Origin) (after : Standing) → p ≡ Stands after (waiting_in p) → line_ended p o.place ≡ None
stands_on (Stands s w) o after e = refl
stands_on (FaultyLabel kind) o after e = absurd cc
stands_on (Faulty kind w) o after e = absurd cc

pub goes_stands : (o : Origin) (text : List ℕ) (a b : Assembly) (ended : Option ℕ) (fs circle : List Fault) (next : Onward) → is_ended ended o.place ≡ false
    → (let p = placed o text a.standing in p ≡ Stands b.standing (waiting_in p)) → b ≡ left_by (placed o text a.standing) a → circle ≡ circle_faults a.assignments (waiting_in (placed o text a.standing))
    → with_faults fs (stated o text a ended next) ≡ with_faults (fs ++ circle) (next b None)
goes_stands o text a b ended fs circle next n is left c =
    let p = placed o text a.standing in
    ap (with_faults fs) (here o text a ended next n)
    ∙ carried_on p o a b fs circle None next (sym (c ∙ stands_faults p o a.assignments b.standing is)) (sym left) (stands_on p o b.standing is)

pub goes_label : (o : Origin) (text : List ℕ) (a b : Assembly) (ended : Option ℕ) (fs : List Fault) (kind : FaultKind) (next : Onward) → is_ended ended o.place ≡ false
    → placed o text a.standing ≡ FaultyLabel kind → b ≡ a
    → with_faults fs (stated o text a ended next) ≡ with_faults (fs ++ record { origin = o; kind = kind } ∷ []) (next b None)
goes_label o text a b ended fs kind next n is left =
    let p = placed o text a.standing in
    ap (with_faults fs) (here o text a ended next n)
    ∙ carried_on p o a b fs (record { origin = o; kind = kind } ∷ []) None next (ap (λ (q : Placed). statement_faults q o a.assignments) is) (ap (λ (q : Placed). left_by q a) is ∙ sym left) (ap (λ (q : Placed). line_ended q o.place) is)

pub goes_faulty : (o : Origin) (text : List ℕ) (a b : Assembly) (ended : Option ℕ) (fs circle : List Fault) (kind : FaultKind) (next : Onward) → is_ended ended o.place ≡ false
    → (let p = placed o text a.standing in p ≡ Faulty kind (waiting_in p)) → b ≡ a → circle ≡ circle_faults a.assignments (waiting_in (placed o text a.standing))
    → with_faults fs (stated o text a ended next) ≡ with_faults ((fs ++ record { origin = o; kind = kind } ∷ []) ++ circle) (next b (Some o.place))
goes_faulty o text a b ended fs circle kind next n is left c =
    let p = placed o text a.standing in
    let w = waiting_in p in
    let f : Fault = record { origin = o; kind = kind } in
    ap (with_faults fs) (here o text a ended next n)
    ∙ carried_on p o a b fs (f ∷ circle) (Some o.place) next
    (ap (λ (q : Placed). statement_faults q o a.assignments) is ∙ ap (λ (l : List Fault). f ∷ l) (sym c))
    (ap (λ (q : Placed). left_by q a) is ∙ sym left) (ap (λ (q : Placed). line_ended q o.place) is)
    ∙ ap (λ (l : List Fault). with_faults l (next b (Some o.place))) (sym (append_assoc fs (f ∷ []) circle))

-- a statement that its text alone refuses
pub goes_refused : (o : Origin) (text : List ℕ) (a : Assembly) (ended : Option ℕ) (fs : List Fault) (kind : FaultKind) (next : Onward) → is_ended ended o.place ≡ false
    → placed o text a.standing ≡ Faulty kind None
    → with_faults fs (stated o text a ended next) ≡ with_faults (fs ++ record { origin = o; kind = kind } ∷ []) (next a (Some o.place))
goes_refused o text a ended fs kind next n is =
    let p = placed o text a.standing in
    ap (with_faults fs) (here o text a ended next n)
    ∙ carried_on p o a a fs (record { origin = o; kind = kind } ∷ []) (Some o.place) next (ap (λ (q : Placed). statement_faults q o a.assignments) is) (ap (λ (q : Placed). left_by q a) is) (ap (λ (q : Placed). line_ended q o.place) is)

pub same_assembly : (a : Assembly) (standing : Standing) (assignments : List Assignment) → standing ≡ a.standing → assignments ≡ a.assignments → record { standing = standing; assignments = assignments } ≡ a
same_assembly a standing assignments e f = rw (e, f) refl

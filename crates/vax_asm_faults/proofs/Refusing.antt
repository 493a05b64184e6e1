-- The walk over a source stops at the first fault of all.
use Rattle.std.proofs.Common.{◌≡◌, ◌<◌, ◌≤◌, inl, inr, ℕ, zero, suc, Bool, true, false, cond, List, [], ◌∷◌, ◌++◌, Option, Some, None, Result, refl, sym, ap, subst, ◌∙◌, arith}
use Rattle.std.specs.Prelude.{◌==◌, IfSome}
use Rattle.std.proofs.lemmas.Bool.Decides.{eqb_tells}
use Rattle.vax_asm.specs.Placing.{FaultyLabel, Faulty, Placed, Stands, placed, waiting_in}
use Rattle.vax_asm.specs.Walk.{Assembly, assembled, at, behind, behind_circle, least, names_in, nothing, onward as walk_on, said, unless_met, walked}
use Rattle.vax_asm_circles.specs.Circles.{first_back}
use Rattle.vax_asm_faults.proofs.Circling.{circle_more, or_origin}
use Rattle.vax_macro_laws.proofs.Moving.{IsOf, Stays}
use Rattle.vax_dialect.specs.declared.Dialect.{Dialect}
use Rattle.vax_asm_faults.proofs.Ordering.{AllFrom, Comes, InOrder, circle_place, fault, first_joined, first_stays, from_less, told, told_circle, told_met, told_more}
use Rattle.vax_asm_faults.proofs.Surveying.{Before, IsFirst, Known, Leading, Leads, answer, before_after, carried_from, ended_is, if_some, known_on, leading, leads_out, leads_to, past_line, survey_from, told_err}
use Rattle.vax_asm_faults.proofs.Waiting.{ComesFrom, placed_from}
use Rattle.vax_asm_faults.specs.Refusal.{faults_of, first_fault, first_line, module_behind, or_earlier}
use Rattle.vax_asm_faults.specs.Survey.{Survey, carried, circle_faults, closes, onward, stated, survey, survey_of}
use Rattle.vax_asm_first.specs.Circles.{first_circle}
use Rattle.vax_asm_first.specs.Faults.{first_of as lower_kind}
use Rattle.vax_asm_first.specs.Fixups.{Assignment}
use Rattle.vax_asm_first.specs.declared.types.Origin.{Origin}
use Rattle.vax_asm_labels.specs.Naming.{with_waiting}
use Rattle.vax_asm_second.specs.Modules.{unless_faulty}
use Rattle.vax_asm_second.specs.declared.types.Fault.{Fault}
use Rattle.vax_macro.specs.Expansion.{Ends, Faults, Says, Stepped, Steps, step}
use Rattle.vax_macro.specs.Rest.{Rest, started, work}
use Rattle.vax_macro.specs.declared.error.FaultKind.{FaultKind}
use Rattle.vax_module.specs.declared.Module.{Module}

-- ---- one more assignment

circle_told : (before : List Assignment) (w : Option Assignment) (o : Origin) (met : Option Fault) → ComesFrom o w → IfSome (first_circle before) (λ x. Comes x o) → IfSome met (λ f. f.origin ≡ o) → InOrder (first_circle before) met
    → first_line (told (first_circle before) met) (circle_faults before w) ≡ told (first_circle (with_waiting w before)) met
circle_told before None o met from comes here order = refl
circle_told before (Some v) o met from comes here order =
    let e : o ≡ v.origin = sym from in
    told_circle (first_circle before) met (closes before v) v.origin (subst (λ (p : Origin). IfSome (first_circle before) (λ x. Comes x p)) e comes) (subst (λ (p : Origin). IfSome met (λ f. f.origin ≡ p)) e here) order
    ∙ ap (λ (k : Option Origin). told k met) (sym (circle_more before v))

or_comes : (k : Option Origin) (b : Bool) (v o : Origin) → v ≡ o → IfSome k (λ x. Comes x o) → IfSome (or_origin k b v) (λ x. Comes x o)
or_comes (Some x) b v o e h = h
or_comes None true v o e h = inr e
or_comes None false v o e h = tt

circle_comes : (before : List Assignment) (w : Option Assignment) (o : Origin) → ComesFrom o w → IfSome (first_circle before) (λ x. Comes x o) → IfSome (first_circle (with_waiting w before)) (λ x. Comes x o)
circle_comes before None o from comes = comes
circle_comes before (Some v) o from comes =
    subst (λ (k : Option Origin). IfSome k (λ x. Comes x o)) (sym (circle_more before v)) (or_comes (first_circle before) (closes before v) v.origin o from comes)

in_order : (k : Option Origin) (met : Option Fault) (o : Origin) → IfSome k (λ x. Comes x o) → IfSome met (λ f. f.origin ≡ o) → InOrder k met
in_order None met o comes here = tt
in_order (Some x) None o comes here = tt
in_order (Some x) (Some f) o comes here = subst (λ (p : Origin). Comes x p) (sym here) comes

chosen_origin : (b : Bool) (f : Fault) (kind : FaultKind) (o : Origin) → f.origin ≡ o → (let g : Fault = cond b (record f { kind = kind }) f in g).origin ≡ o
chosen_origin true f kind o e = e
chosen_origin false f kind o e = e

least_origin : (met : Option Fault) (o : Origin) (kind : FaultKind) → IfSome met (λ f. f.origin ≡ o) → (least met o kind).origin ≡ o
least_origin None o kind here = refl
least_origin (Some f) o kind here = chosen_origin (f.origin.place == o.place) f (lower_kind f.kind kind) o here

-- ---- a statement

-- what is known of a statement, behind which this is left to open
record IsMet (r : Rest) (o : Origin) (k : Option Origin) (met : Option Fault) : Type 0 where
  circle : IfSome k (λ x. Comes x o)
  order : InOrder k met
  place : o.place ≡ r.read
  after : (x : Origin) → Comes x o → Before r x

met_known : (r : Rest) (o : Origin) (k : Option Origin) (met : Option Fault) → ((x : Origin) → Comes x o → Before r x) → IfSome k (λ x. Comes x o) → IfSome met (λ f. f.origin ≡ o) → Known r k met
met_known r o k met after comes here = record {
  circle = if_some k (λ x c. after x c) comes;
  fault = if_some met (λ f e. after f.origin (inr e)) here;
  order = in_order k met o comes here;
}

placed_first : (p : Placed) (left : ℕ) (r : Rest) (a : Assembly) (met : Option Fault) (o : Origin) → ComesFrom o (waiting_in p) → IsMet r o (first_circle a.assignments) met → IfSome met (λ f. f.origin ≡ o)
    → ((b : Assembly) (m : Option Fault) → Known r (first_circle b.assignments) m → IsFirst left r b m)
    → behind p o a met (walked left r) ≡ answer (first_line (told (first_circle a.assignments) met) (carried o p a (survey left r)).faults) (carried o p a (survey left r))
placed_first (Stands t w) left r a met o from h here goes =
    let b : Assembly = record { standing = t; assignments = with_waiting w a.assignments } in
    let s : Survey = survey left r b None in
    goes b met (met_known r o (first_circle (with_waiting w a.assignments)) met h.after (circle_comes a.assignments w o from h.circle) here)
    ∙ sym (ap (λ (q : Option Fault). answer q s) (first_joined (told (first_circle a.assignments) met) (circle_faults a.assignments w) s.faults
    ∙ ap (λ (q : Option Fault). first_line q s.faults) (circle_told a.assignments w o met from h.circle here h.order)))
placed_first (FaultyLabel kind) left r a met o from h here goes =
    let f : Fault = least met o kind in
    let e : f.origin ≡ o = least_origin met o kind here in
    let s : Survey = survey left r a None in
    goes a (Some f) (met_known r o (first_circle a.assignments) (Some f) h.after h.circle e)
    ∙ sym (ap (λ (q : Option Fault). answer (first_line q s.faults) s) (told_more (first_circle a.assignments) met o kind h.circle (if_some met (λ g same. inr same) here) h.order))
placed_first (Faulty kind w) left r a met o from h here goes =
    let f : Fault = least met o kind in
    let e : f.origin ≡ o = least_origin met o kind here in
    let k : Option Origin = first_circle a.assignments in
    let next : Option Origin = first_circle (with_waiting w a.assignments) in
    let s : Survey = survey left r a (Some o.place) in
    let g : Fault = behind_circle next f in
    let order : InOrder next (Some f) = in_order next (Some f) o (circle_comes a.assignments w o from h.circle) e in
    let low : g.origin.place ≤ f.origin.place = circle_place next f order in
    let at_place = h.place in
    let same = ap (λ (p : Origin). p.place) e in
    let later : AllFrom (suc g.origin.place) s.faults = from_less (suc g.origin.place) (suc o.place) s.faults (omega arith) (past_line left r o.place a (omega arith)) in
    told_err next f (first_line (told k met) (fault o kind ∷ (circle_faults a.assignments w ++ s.faults))) s
    (ap (λ (q : Option Fault). first_line q (circle_faults a.assignments w ++ s.faults)) (told_more k met o kind h.circle (if_some met (λ x y. inr y) here) h.order)
    ∙ first_joined (told k (Some f)) (circle_faults a.assignments w) s.faults
    ∙ ap (λ (q : Option Fault). first_line q s.faults) (circle_told a.assignments w o (Some f) from h.circle e (in_order k (Some f) o h.circle e) ∙ told_met next f)
    ∙ first_stays g s.faults later ∙ sym (told_met next f))

comes_here : (f : Fault) (o : Origin) → Comes f.origin o → f.origin.place ≡ o.place → f.origin ≡ o
comes_here f o (inl less) e = absurd (omega arith)
comes_here f o (inr same) e = same

comes_less : (f : Fault) (o : Origin) → Comes f.origin o → (f.origin.place ≡ o.place → ⊥) → f.origin.place < o.place
comes_less f o (inl less) ne = less
comes_less f o (inr same) ne = absurd (ne (ap (λ (p : Origin). p.place) same))

statement_first : (left : ℕ) (r : Rest) (a : Assembly) (met : Option Fault) (o : Origin) (text : List ℕ) → IsMet r o (first_circle a.assignments) met → IfSome met (λ f. Comes f.origin o)
    → ((b : Assembly) (m : Option Fault) → Known r (first_circle b.assignments) m → IsFirst left r b m)
    → said o text a met (walked left r) ≡ answer (first_line (told (first_circle a.assignments) met) (stated o text a None (survey left r)).faults) (stated o text a None (survey left r))
unfolding said stated
statement_first left r a None o text h comes goes = placed_first (placed o text a.standing) left r a None o (placed_from o text a.standing) h tt goes
statement_first left r a (Some f) o text h comes goes =
    let p : Placed = placed o text a.standing in
    let k : Option Origin = first_circle a.assignments in
    let s : Survey = carried o p a (survey left r) in
    let on : Bool → Result Module Fault = λ b. unless_met (cond b None (Some f)) a.assignments (behind p o a (Some f) (walked left r)) in
    elim (eqb_tells f.origin.place o.place) [
      | inl same ↦ ap on same.0 ∙ placed_first p left r a (Some f) o (placed_from o text a.standing) h (comes_here f o comes same.1) goes
      | inr apart ↦ ap on apart.0 ∙ told_err k f (first_line (told k (Some f)) s.faults) s
          (ap (λ (q : Option Fault). first_line q s.faults) (told_met k f)
          ∙ first_stays (behind_circle k f) s.faults (later left r a o text k f h (comes_less f o comes apart.1))
          ∙ sym (told_met k f))
    ]
  where
    later : (left : ℕ) (r : Rest) (a : Assembly) (o : Origin) (text : List ℕ) (k : Option Origin) (f : Fault) → IsMet r o k (Some f) → f.origin.place < o.place
        → AllFrom (suc (behind_circle k f).origin.place) (carried o (placed o text a.standing) a (survey left r)).faults
    later left r a o text k f h less =
        let low = circle_place k f h.order in
        let place = h.place in
        carried_from (suc (behind_circle k f).origin.place) o text a (survey left r) (omega arith) (λ b e. survey_from left r (suc (behind_circle k f).origin.place) b e (omega arith))

-- ---- a step

met_at : (rest r : Rest) (number place : ℕ) (k : Option Origin) (met : Option Fault) (st : ℕ) → Leads rest number place → st ≡ number → Stays number place r → Known rest k met → IsMet r (at st r.read) k met
met_at rest r number place k met st l e s h =
    let same : at number place ≡ at st r.read = ap (λ (n : ℕ). at n place) (sym e) ∙ ap (at st) (sym s.read) in
    record {
      circle = if_some k (λ x b. subst (λ (o : Origin). Comes x o) same (l.comes x b)) h.circle;
      order = h.order;
      place = refl;
      after = λ x c. before_after x number place r (subst (λ (o : Origin). Comes x o) (sym same) c) s;
    }

met_comes : (rest r : Rest) (number place : ℕ) (met : Option Fault) (st : ℕ) → Leads rest number place → st ≡ number → r.read ≡ place → IfSome met (λ f. Before rest f.origin) → IfSome met (λ f. Comes f.origin (at st r.read))
met_comes rest r number place met st l e read h =
    let same : at number place ≡ at st r.read = ap (λ (n : ℕ). at n place) (sym e) ∙ ap (at st) (sym read) in
    if_some met (λ f b. subst (λ (o : Origin). Comes f.origin o) same (l.comes f.origin b)) h

step_to : (st : Stepped) (number place left : ℕ) (rest : Rest) (a : Assembly) (met : Option Fault) → IsOf number place st → Leads rest number place → Known rest (first_circle a.assignments) met
    → ((r : Rest) (b : Assembly) (m : Option Fault) → Known r (first_circle b.assignments) m → IsFirst left r b m)
    → walk_on st a met (walked left) ≡ answer (first_line (told (first_circle a.assignments) met) (onward st a None (survey left)).faults) (onward st a None (survey left))
step_to (Steps r) number place left rest a met is l h goes = goes r a met (known_on rest r number place (first_circle a.assignments) met l is h)
step_to (Says st r) number place left rest a met is l h goes =
    statement_first left r a met (at st.number r.read) st.text (met_at rest r number place (first_circle a.assignments) met st.number l is.0 is.1 h) (met_comes rest r number place met st.number l is.0 is.1.read h.fault) (goes r)
step_to (Faults m p kind) number place left rest a met is l h goes =
    let o : Origin = at m p in
    let k : Option Origin = first_circle a.assignments in
    let same : at number place ≡ o = ap (λ (n : ℕ). at n place) (sym is.0) ∙ ap (at m) (sym is.1) in
    told_err k (least met o kind) (Some (or_earlier (told k met) (fault o kind))) (record { faults = fault o kind ∷ []; behind = a; ends = None })
    (told_more k met o kind (if_some k (λ x b. subst (λ (q : Origin). Comes x q) same (l.comes x b)) h.circle) (if_some met (λ f b. subst (λ (q : Origin). Comes f.origin q) same (l.comes f.origin b)) h.fault) h.order)
step_to (Ends begin) number place left rest a met is l h goes = ended_is a met begin

step_first : (st : Stepped) (left : ℕ) (rest : Rest) (a : Assembly) (met : Option Fault) → Leading rest st → Known rest (first_circle a.assignments) met
    → ((r : Rest) (b : Assembly) (m : Option Fault) → Known r (first_circle b.assignments) m → IsFirst left r b m)
    → walk_on st a met (walked left) ≡ answer (first_line (told (first_circle a.assignments) met) (onward st a None (survey left)).faults) (onward st a None (survey left))
step_first st left rest a met (leads_to number place is l) h goes = step_to st number place left rest a met is l h goes
step_first st left rest a met (leads_out begin e) h goes =
    subst (λ (s : Stepped). walk_on s a met (walked left) ≡ answer (first_line (told (first_circle a.assignments) met) (onward s a None (survey left)).faults) (onward s a None (survey left))) (sym e) (ended_is a met begin)

first_is : (left : ℕ) (rest : Rest) (a : Assembly) (met : Option Fault) → Known rest (first_circle a.assignments) met → IsFirst left rest a met
unfolding walked survey
first_is zero rest a met h = ended_is a met None
first_is (suc left) rest a met h = step_first (step (names_in a.standing) rest) left rest a met (leading a rest) h (λ r b m k. first_is left r b m k)

no_circle : first_circle [] ≡ None
unfolding first_circle first_back
no_circle = refl

start_known : (rest : Rest) → Known rest (first_circle []) None
start_known rest = subst (λ (k : Option Origin). Known rest k None) (sym no_circle) (record { circle = tt; fault = tt; order = tt })

pub refused_first : (dialect : Dialect) (source : List ℕ) → assembled dialect source ≡ unless_faulty (first_fault (faults_of dialect source)) (module_behind (survey_of dialect source))
unfolding assembled
refused_first dialect source =
    let s : Survey = survey_of dialect source in
    first_is (suc (work (started dialect source))) (started dialect source) (nothing dialect) None (start_known (started dialect source)) ∙ ap (λ (k : Option Origin). answer (first_line (told k None) s.faults) s) no_circle

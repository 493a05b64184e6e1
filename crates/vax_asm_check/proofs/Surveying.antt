-- A survey by single steps is one by the statements that they open.
use Rattle.std.proofs.Common.{◌≡◌, ℕ, zero, suc, List, [], ◌∷◌, ◌++◌, Option, None, refl, sym, ap, subst, ◌∙◌, append-nil, arith}
use Rattle.std.specs.Prelude.{IfOk, OnOk, Result, Ok, Err, if◌then◌else◌}
use Rattle.vax_asm.specs.Walk.{Assembly, at, names_in, nothing}
use Rattle.std.proofs.lemmas.List.Sorted.{IsPermutation-refl}
use Rattle.vax_asm_check.specs.Listed.{AreAll, IsInOrder}
use Rattle.vax_asm_check.specs.Restating.{resumed}
use Rattle.vax_asm_faults.specs.Refusal.{faults_in, faults_of, whole_faults}
use Rattle.vax_asm_faults.specs.Survey.{Onward, Survey, is_ended, onward, stated, survey, survey_of, with_faults}
use Rattle.vax_asm_second.specs.declared.types.Fault.{Fault}
use Rattle.vax_dialect.specs.declared.Dialect.{Dialect}
use Rattle.vax_macro.specs.Directives.{Statement}
use Rattle.std.specs.Global.{Vec}
use Rattle.vax_macro.specs.Expanders.{FaultIs}
use Rattle.vax_macro.specs.declared.error.FaultKind.{FaultKind}
use Rattle.vax_macro.specs.Expansion.{Ends, Faults, Faulty, Given, Opened, Says, Stepped, Steps, behind as opens_behind, opened, step}
use Rattle.vax_macro.specs.Rest.{Opening, Rest, started, work}

by_step : (left : ℕ) (a : Assembly) (ended : Option ℕ) (p : Stepped)
    → ((rest : Rest) → survey left rest a ended ≡ resumed (opened left (names_in a.standing) rest) a ended)
    → onward p a ended (survey left) ≡ resumed (opens_behind left p (λ after. opened left (names_in a.standing) after)) a ended
by_step left a ended (Steps rest) h = h rest
by_step left a ended (Says st rest) h = refl
by_step left a ended (Faults line place kind) h = refl
by_step left a ended (Ends begin) h = refl

pub survey_opened : (left : ℕ) (rest : Rest) (a : Assembly) (ended : Option ℕ) → survey left rest a ended ≡ resumed (opened left (names_in a.standing) rest) a ended
unfolding survey opened
survey_opened zero rest a ended = refl
survey_opened (suc left) rest a ended = by_step left a ended (step (names_in a.standing) rest) (λ r. survey_opened left r a ended)

-- how a survey begins
pub started_survey : (dialect : Dialect) (source : List ℕ) (rest : Rest) (a : Assembly) (ended : Option ℕ) (fs : List Fault) → rest ≡ started dialect source → a ≡ nothing dialect → ended ≡ None → fs ≡ []
    → with_faults fs (survey (suc (work rest)) rest a ended) ≡ survey_of dialect source
started_survey dialect source rest a ended fs e f g h = rw (e, f, g, h) refl

-- a survey that goes on with what was opened of it
pub survey_goes : (dialect : Dialect) (source : List ℕ) (left : ℕ) (rest : Rest) (a : Assembly) (ended : Option ℕ) (fs : List Fault) (o : Opened) → with_faults fs (survey left rest a ended) ≡ survey_of dialect source
    → opened left (names_in a.standing) rest ≡ o → with_faults fs (resumed o a ended) ≡ survey_of dialect source
survey_goes dialect source left rest a ended fs o is e = sym (ap (with_faults fs) (survey_opened left rest a ended ∙ ap (λ (p : Opened). resumed p a ended) e)) ∙ is

pub goes_next : (dialect : Dialect) (source : List ℕ) (left more : ℕ) (rest after : Rest) (a b : Assembly) (ended e : Option ℕ) (fs gs : List Fault) (st : Statement) → with_faults fs (survey left rest a ended) ≡ survey_of dialect source
    → opened left (names_in a.standing) rest ≡ Given st more after
    → ((next : Onward) → with_faults fs (stated (at st.number after.read) st.text a ended next) ≡ with_faults gs (next b e))
    → with_faults gs (survey more after b e) ≡ survey_of dialect source
goes_next dialect source left more rest after a b ended e fs gs st is o g = sym (g (survey more after)) ∙ survey_goes dialect source left rest a ended fs (Given st more after) is o

pub if_ok : {A E : Type 0} {P Q : A → Type 0} (r : Result A E) → ((x : A) → P x → Q x) → IfOk r P → IfOk r Q
if_ok (Ok x) h p = h x p
if_ok (Err e) h p = tt

pub on_ok : {A E P Q : Type 0} (r : Result A E) → (P → Q) → OnOk r P → OnOk r Q
on_ok (Ok x) h p = h p
on_ok (Err e) h p = tt

-- all of them
pub all_found : (dialect : Dialect) (source : List ℕ) (list : List Fault) (s : Survey) → AreAll list (faults_in s) → s ≡ survey_of dialect source → AreAll list (faults_of dialect source)
all_found dialect source list s all is = subst (λ (t : Survey). AreAll list (faults_in t)) is all

-- those of the lines, and behind them those of the whole source in order
pub ended_all : (fs found told list : List Fault) (s : Survey) → s.faults ≡ [] → whole_faults s ≡ found → IsInOrder found told → list ≡ fs ++ told → AreAll list (faults_in (with_faults fs s))
ended_all fs found told list s none is order joined = record {
  whole = told;
  order = subst (λ (l : List Fault). IsInOrder l told) (sym is) order;
  joined = joined ∙ ap (λ (l : List Fault). l ++ told) (sym (append-nil fs) ∙ ap (λ (l : List Fault). fs ++ l) (sym none));
}

none_in_order : IsInOrder [] []
none_in_order = record { same = IsPermutation-refl []; by_line = λ i j d le less. absurd (omega arith); stable = λ f. refl }

-- where the source isn't read to its end there are no others
pub stopped_all : (fs list : List Fault) (number place : ℕ) (kind : FaultKind) (a : Assembly) (ended : Option ℕ) → list ≡ fs ++ (if is_ended ended place then [] else record { origin = at number place; kind = kind } ∷ [])
    → AreAll list (faults_in (with_faults fs (resumed (Faulty number place kind) a ended)))
stopped_all fs list number place kind a ended joined = record {
  whole = [];
  order = none_in_order;
  joined = joined ∙ sym (append-nil (fs ++ (if is_ended ended place then [] else record { origin = at number place; kind = kind } ∷ [])));
}

stopped_on : (u : Option Opening) (read line place : ℕ) (kind : FaultKind) (o : Opened) → u ≡ None → place ≡ read → FaultIs u read line kind o → o ≡ Faulty line place kind
stopped_on u read line place kind o none same is = subst (λ (v : Option Opening). FaultIs v read line kind o) none is ∙ ap (λ (n : ℕ). Faulty line n kind) (sym same)

-- what was found, where the fault ends what was opened
pub stopped_found : {E : Type 0} (r : Result (Vec Fault) E) (u : Option Opening) (fs : List Fault) (read line place : ℕ) (kind : FaultKind) (a : Assembly) (ended : Option ℕ) → u ≡ None → place ≡ read
    → IfOk r (λ v. AreAll v.items (faults_in (with_faults fs (resumed (Faulty line place kind) a ended))))
    → (o : Opened) → FaultIs u read line kind o → IfOk r (λ v. AreAll v.items (faults_in (with_faults fs (resumed o a ended))))
stopped_found r u fs read line place kind a ended none same h o is =
    subst (λ (p : Opened). IfOk r (λ v. AreAll v.items (faults_in (with_faults fs (resumed p a ended))))) (sym (stopped_on u read line place kind o none same is)) h

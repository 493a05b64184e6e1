-- The walk over a source stops at the first fault of all.
use Rattle.std.proofs.Common.{◌≡◌, ◌≤◌, inl, inr, ℕ, zero, suc, Bool, true, false, cond, List, [], ◌∷◌, Option, Some, None, Result, Err, refl, sym, ap, subst, ◌∙◌, arith}
use Rattle.std.specs.Prelude.{◌==◌, IfSome}
use Rattle.std.proofs.lemmas.Bool.{eqb-false}
use Rattle.std.proofs.lemmas.Bool.Decides.{eqb_tells}
use Rattle.vax_asm.specs.Placing.{FaultyLabel, Faulty, Placed, Stands, placed, waiting_in}
use Rattle.vax_asm.specs.Walk.{Assembly, at, behind_circle, ended, names_in, unless_circle, walked}
use Rattle.vax_macro_laws.proofs.Moving.{Brings, IsOf, Stays, at_end, brings, on_line, on_next}
use Rattle.vax_asm_faults.proofs.Ordering.{AllFrom, Comes, InOrder, fault, from_both, from_less, told, told_met}
use Rattle.vax_asm_faults.proofs.Waiting.{ComesFrom, placed_from}
use Rattle.vax_asm_faults.specs.Refusal.{first_line, module_behind, or_else, whole_faults}
use Rattle.vax_asm_faults.specs.Survey.{Onward, Survey, carried, circle_faults, closes, is_ended, left_by, line_ended, onward, stated, statement_faults, survey}
use Rattle.vax_asm_first.specs.Circles.{first_circle}
use Rattle.vax_asm_first.specs.Fixups.{Assignment}
use Rattle.vax_asm_first.specs.declared.types.Origin.{Origin}
use Rattle.vax_asm_second.specs.Faults.{first_of as first_whole}
use Rattle.vax_asm_second.specs.Modules.{filled_in, unless_faulty}
use Rattle.vax_asm_second.specs.declared.types.Fault.{Fault}
use Rattle.vax_macro.specs.Expansion.{Ends, Faults, Says, Stepped, Steps, step}
use Rattle.vax_macro.specs.Rest.{Opening, Rest}
use Rattle.vax_macro.specs.declared.error.FaultKind.TheVariants.{Form}
use Rattle.vax_module.specs.declared.Module.{Module}

-- ---- what was met stands before what comes

-- it stands before all that is left to open, or on the line of which something is left
abbrev pub Before : Rest → Origin → Type 0
Before rest x = (x.place ≤ rest.read) × (x.place ≡ rest.read → IfSome rest.again (λ line. line.number ≡ x.line))

-- a step leads to this line
pub record Leads (rest : Rest) (number place : ℕ) : Type 0 where
  pub comes : (x : Origin) → Before rest x → Comes x (at number place)
  pub reads : rest.read ≤ place

same_origin : (x : Origin) (number place : ℕ) → x.line ≡ number → x.place ≡ place → x ≡ at number place
same_origin x number place e f = ap (λ (n : ℕ). at n x.place) e ∙ ap (at number) f

on_this : (x : Origin) (rest : Rest) (number : ℕ) → Before rest x → (IfSome rest.again (λ line. line.number ≡ x.line) → number ≡ x.line) → Comes x (at number rest.read)
on_this x rest number b h = elim (eqb_tells x.place rest.read) [
  | inl same ↦ inr (same_origin x number rest.read (sym (h (b.1 same.1))) same.1)
  | inr apart ↦ inl (let le = b.0 in let ne = apart.1 in omega arith)
]

pub data Leading (rest : Rest) (st : Stepped) : Type 0 where
  leads_to : (number place : ℕ) → IsOf number place st → Leads rest number place → Leading rest st
  leads_out : (begin : Option Opening) → st ≡ Ends begin → Leading rest st

leading_by : (rest : Rest) (st : Stepped) → Brings rest st → Leading rest st
leading_by rest st (on_line line again is) = leads_to line.number rest.read is (record {
  comes = λ x b. on_this x rest line.number b (λ h. subst (λ o. IfSome o (λ l. l.number ≡ x.line)) again h);
  reads = omega arith;
})
leading_by rest st (on_next none moves) = leads_to moves.number moves.place moves.is (record {
  comes = λ x b. inl (let le = b.0 in let more = moves.more in omega arith);
  reads = let more = moves.more in omega arith;
})
leading_by rest st (at_end begin ends) = leads_out begin ends

pub leading : (a : Assembly) (rest : Rest) → Leading rest (step (names_in a.standing) rest)
leading a rest = leading_by rest (step (names_in a.standing) rest) (brings (names_in a.standing) rest)

kept_line : (x : Origin) (number place : ℕ) (rest : Rest) → Comes x (at number place) → Stays number place rest → x.place ≡ rest.read → x.line ≡ number
kept_line x number place rest (inl less) s e = absurd (let read = s.read in omega arith)
kept_line x number place rest (inr same) s e = ap (λ (o : Origin). o.line) same

pub come_by : (x o : Origin) → Comes x o → x.place ≤ o.place
come_by x o (inl less) = omega arith
come_by x o (inr same) = omega (arith, ap (λ (p : Origin). p.place) same)

pub before_after : (x : Origin) (number place : ℕ) (rest : Rest) → Comes x (at number place) → Stays number place rest → Before rest x
before_after x number place rest c s =
    let le = come_by x (at number place) c in
    let read = s.read in
    (omega arith, λ e. subst (λ (n : ℕ). IfSome rest.again (λ line. line.number ≡ n)) (sym (kept_line x number place rest c s e)) s.again)

-- ---- what is known of a walk

pub record Known (rest : Rest) (k : Option Origin) (met : Option Fault) : Type 0 where
  pub circle : IfSome k (λ x. Before rest x)
  pub fault : IfSome met (λ f. Before rest f.origin)
  pub order : InOrder k met

pub if_some : {A : Type 0} {P Q : A → Type 0} (o : Option A) → ((x : A) → P x → Q x) → IfSome o P → IfSome o Q
if_some None h p = tt
if_some (Some x) h p = h x p

pub known_on : (rest next : Rest) (number place : ℕ) (k : Option Origin) (met : Option Fault) → Leads rest number place → Stays number place next → Known rest k met → Known next k met
known_on rest next number place k met l s h = record {
  circle = if_some k (λ x b. before_after x number place next (l.comes x b) s) h.circle;
  fault = if_some met (λ f b. before_after f.origin number place next (l.comes f.origin b) s) h.fault;
  order = h.order;
}

-- ---- what the survey comes to

abbrev pub answer : Option Fault → Survey → Result Module Fault
answer o s = unless_faulty (or_else o (first_whole (whole_faults s))) (module_behind s)

abbrev pub IsFirst : ℕ → Rest → Assembly → Option Fault → Type 0
IsFirst left rest a met = walked left rest a met ≡ answer (first_line (told (first_circle a.assignments) met) (survey left rest a None).faults) (survey left rest a None)

pub told_err : (k : Option Origin) (f : Fault) (o : Option Fault) (s : Survey) → o ≡ told k (Some f) → (let r : Result Module Fault = Err (behind_circle k f) in r) ≡ answer o s
told_err k f o s e = sym (ap (λ (p : Option Fault). answer p s) (e ∙ told_met k f))

ended_by : (k : Option Origin) (a : Assembly) (met : Option Fault) (begin : Option Opening) → first_circle a.assignments ≡ k → ended a met begin ≡ answer (told k met) (record { faults = []; behind = a; ends = Some begin })
unfolding filled_in
ended_by k a (Some f) begin is = ap (λ (o : Option Origin). Err (behind_circle o f)) is ∙ told_err k f (told k (Some f)) (record { faults = []; behind = a; ends = Some begin }) refl
ended_by None a None begin is = ap (λ (o : Option Origin). unless_circle o (filled_in a.standing a.assignments begin)) is
ended_by (Some x) a None begin is = ap (λ (o : Option Origin). unless_circle o (filled_in a.standing a.assignments begin)) is

pub ended_is : (a : Assembly) (met : Option Fault) (begin : Option Opening) → ended a met begin ≡ answer (told (first_circle a.assignments) met) (record { faults = []; behind = a; ends = Some begin })
ended_is a met begin = ended_by (first_circle a.assignments) a met begin refl

-- ---- faults of later lines

circle_from : (before : List Assignment) (w : Option Assignment) (o : Origin) → ComesFrom o w → AllFrom o.place (circle_faults before w)
circle_from before None o h = tt
circle_from before (Some a) o h = either (closes before a) (fault a.origin Form) (let e = ap (λ (p : Origin). p.place) h in omega (arith, e))
  where
    either : (b : Bool) (f : Fault) → o.place ≤ f.origin.place → AllFrom o.place (cond b (f ∷ []) [])
    either true f le = (le, tt)
    either false f le = tt

statement_from : (p : Placed) (o : Origin) (before : List Assignment) → ComesFrom o (waiting_in p) → AllFrom o.place (statement_faults p o before)
statement_from (Stands t w) o before h = circle_from before w o h
statement_from (FaultyLabel kind) o before h = (omega arith, tt)
statement_from (Faulty kind w) o before h = (omega arith, circle_from before w o h)

pub carried_from : (n : ℕ) (o : Origin) (text : List ℕ) (a : Assembly) (next : Onward) → n ≤ o.place → ((b : Assembly) (e : Option ℕ) → AllFrom n (next b e).faults) → AllFrom n (carried o (placed o text a.standing) a next).faults
carried_from n o text a next le h =
    let p : Placed = placed o text a.standing in
    from_both n (statement_faults p o a.assignments) (next (left_by p a) (line_ended p o.place)).faults (from_less n o.place (statement_faults p o a.assignments) le (statement_from p o a.assignments (placed_from o text a.standing)))
    (h (left_by p a) (line_ended p o.place))

choice_from : (b : Bool) (n : ℕ) (s t : Survey) → AllFrom n s.faults → AllFrom n t.faults → AllFrom n (let u : Survey = cond b s t in u).faults
choice_from true n s t h k = h
choice_from false n s t h k = k

stated_from : (n : ℕ) (o : Origin) (text : List ℕ) (a : Assembly) (ended : Option ℕ) (next : Onward) → n ≤ o.place → ((b : Assembly) (e : Option ℕ) → AllFrom n (next b e).faults) → AllFrom n (stated o text a ended next).faults
unfolding stated
stated_from n o text a ended next le h =
    choice_from (is_ended ended o.place) n (next a ended) (carried o (placed o text a.standing) a next) (h a ended) (carried_from n o text a next le h)

fault_from : (b : Bool) (n : ℕ) (f : Fault) → n ≤ f.origin.place → AllFrom n (cond b [] (f ∷ []))
fault_from true n f le = tt
fault_from false n f le = (le, tt)

onward_from : (st : Stepped) (number place n : ℕ) (a : Assembly) (ended : Option ℕ) (next : Rest → Onward) → IsOf number place st → n ≤ place → ((r : Rest) (b : Assembly) (e : Option ℕ) → n ≤ r.read → AllFrom n (next r b e).faults) → AllFrom n (onward st a ended next).faults
onward_from (Steps r) number place n a ended next is le h = let read = is.read in h r a ended (omega (arith, read, le))
onward_from (Says st r) number place n a ended next is le h = let read = is.1.read in stated_from n (at st.number r.read) st.text a ended (next r) (omega (arith, read, le)) (λ b e. h r b e (omega (arith, read, le)))
onward_from (Faults m p kind) number place n a ended next is le h = fault_from (is_ended ended p) n (fault (at m p) kind) (omega (arith, is.1, le))
onward_from (Ends begin) number place n a ended next is le h = tt

from_step : (st : Stepped) (rest : Rest) (n : ℕ) (a : Assembly) (ended : Option ℕ) (next : Rest → Onward) → Leading rest st → n ≤ rest.read → ((r : Rest) (b : Assembly) (e : Option ℕ) → n ≤ r.read → AllFrom n (next r b e).faults) → AllFrom n (onward st a ended next).faults
from_step st rest n a ended next (leads_to number place is l) le h = let reads = l.reads in onward_from st number place n a ended next is (omega (arith, reads, le)) h
from_step st rest n a ended next (leads_out begin e) le h = subst (λ (s : Stepped). AllFrom n (onward s a ended next).faults) (sym e) tt

-- no fault is told of a line before those that are left
pub survey_from : (left : ℕ) (rest : Rest) (n : ℕ) (a : Assembly) (ended : Option ℕ) → n ≤ rest.read → AllFrom n (survey left rest a ended).faults
unfolding survey
survey_from zero rest n a ended le = tt
survey_from (suc left) rest n a ended le =
    from_step (step (names_in a.standing) rest) rest n a ended (survey left) (leading a rest) le (λ r b e more. survey_from left r n b e more)

-- ---- a line that has ended

chosen_by : (b : Bool) (n : ℕ) (s t : Survey) → (b ≡ true → AllFrom n s.faults) → (b ≡ false → AllFrom n t.faults) → AllFrom n (let u : Survey = cond b s t in u).faults
chosen_by true n s t h k = h refl
chosen_by false n s t h k = k refl

past_fault : (b : Bool) (p : ℕ) (f : Fault) → (p == f.origin.place) ≡ b → p ≤ f.origin.place → AllFrom (suc p) (cond b [] (f ∷ []))
past_fault true p f is le = tt
past_fault false p f is le = (let ne = eqb-false p f.origin.place is in let no : p ≡ f.origin.place → ⊥ = ne in omega arith, tt)

past_onward : (st : Stepped) (number place p left : ℕ) (a : Assembly) → IsOf number place st → p ≤ place → ((r : Rest) (b : Assembly) → p ≤ r.read → AllFrom (suc p) (survey left r b (Some p)).faults) → AllFrom (suc p) (onward st a (Some p) (survey left)).faults
unfolding stated
past_onward (Steps r) number place p left a is le h = let read = is.read in h r a (omega (arith, read, le))
past_onward (Says st r) number place p left a is le h =
    let read = is.1.read in
    let o : Origin = at st.number r.read in
    chosen_by (p == r.read) (suc p) (survey left r a (Some p)) (carried o (placed o st.text a.standing) a (survey left r)) (λ e. h r a (omega (arith, read, le)))
    (λ e. let ne : p ≡ r.read → ⊥ = eqb-false p r.read e in let more : suc p ≤ r.read = omega (arith, read, le) in carried_from (suc p) o st.text a (survey left r) more (λ b f. survey_from left r (suc p) b f more))
past_onward (Faults m q kind) number place p left a is le h = past_fault (p == q) p (fault (at m q) kind) refl (omega (arith, is.1, le))
past_onward (Ends begin) number place p left a is le h = tt

past_step : (st : Stepped) (rest : Rest) (p left : ℕ) (a : Assembly) → Leading rest st → p ≤ rest.read → ((r : Rest) (b : Assembly) → p ≤ r.read → AllFrom (suc p) (survey left r b (Some p)).faults) → AllFrom (suc p) (onward st a (Some p) (survey left)).faults
past_step st rest p left a (leads_to number place is l) le h = let reads = l.reads in past_onward st number place p left a is (omega (arith, reads, le)) h
past_step st rest p left a (leads_out begin e) le h = subst (λ (s : Stepped). AllFrom (suc p) (onward s a (Some p) (survey left)).faults) (sym e) tt

-- what is left of a line that has ended tells no fault
pub past_line : (left : ℕ) (rest : Rest) (p : ℕ) (a : Assembly) → p ≤ rest.read → AllFrom (suc p) (survey left rest a (Some p)).faults
unfolding survey
past_line zero rest p a le = tt
past_line (suc left) rest p a le = past_step (step (names_in a.standing) rest) rest p left a (leading a rest) le (λ r b more. past_line left r p b more)

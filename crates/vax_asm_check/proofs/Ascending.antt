-- The faults of lines are found in the order of the lines.
use Rattle.std.proofs.Common.{◌≡◌, inr, ℕ, zero, suc, Bool, true, false, cond, List, [], ◌∷◌, ◌++◌, Option, Some, None, refl, sym, ap, subst, ◌∙◌}
use Rattle.vax_asm.specs.Placing.{FaultyLabel, Faulty, Placed, Stands, placed, waiting_in}
use Rattle.vax_asm.specs.Walk.{Assembly, at, names_in}
use Rattle.vax_asm_check.specs.Listed.{Ascend, StandsBeforeAll}
use Rattle.vax_asm_faults.proofs.Ordering.{Comes, fault}
use Rattle.vax_asm_faults.proofs.Surveying.{Before, Leading, before_after, leading, leads_out, leads_to}
use Rattle.vax_asm_faults.proofs.Waiting.{ComesFrom, placed_from}
use Rattle.vax_asm_faults.specs.Survey.{Onward, Survey, carried, circle_faults, closes, is_ended, left_by, line_ended, onward, stated, statement_faults, survey}
use Rattle.vax_asm_first.specs.Fixups.{Assignment}
use Rattle.vax_asm_first.specs.declared.types.Origin.{Origin}
use Rattle.vax_asm_second.specs.declared.types.Fault.{Fault}
use Rattle.vax_macro.specs.Expansion.{Ends, Faults, Says, Stepped, Steps, step}
use Rattle.vax_macro.specs.Rest.{Rest}
use Rattle.vax_macro.specs.declared.error.FaultKind.TheVariants.{Form}
use Rattle.vax_macro_laws.proofs.Moving.{IsOf}

-- it stands before all of these
abbrev AllCome : Origin → List Fault → Type 0
AllCome x [] = Unit {0}
AllCome x (f ∷ faults) = Comes x f.origin × AllCome x faults

-- all of these stand there
abbrev AllAt : Origin → List Fault → Type 0
AllAt o [] = Unit {0}
AllAt o (f ∷ faults) = (f.origin ≡ o) × AllAt o faults

come_both : (x : Origin) (fs gs : List Fault) → AllCome x fs → AllCome x gs → AllCome x (fs ++ gs)
come_both x [] gs h k = k
come_both x (f ∷ fs) gs h k = (h.0, come_both x fs gs h.1 k)

come_at : (x o : Origin) (fs : List Fault) → Comes x o → AllAt o fs → AllCome x fs
come_at x o [] c h = tt
come_at x o (f ∷ fs) c h = (subst (λ (p : Origin). Comes x p) (sym h.0) c, come_at x o fs c h.1)

before_all : (f : Fault) (o : Origin) (fs : List Fault) → f.origin ≡ o → AllCome o fs → StandsBeforeAll f fs
before_all f o [] e h = tt
before_all f o (g ∷ fs) e h = (subst (λ (p : Origin). Comes p g.origin) (sym e) h.0, before_all f o fs e h.1)

-- faults of one statement, and those that come behind it
ascend_at : (o : Origin) (fs gs : List Fault) → AllAt o fs → AllCome o gs → Ascend gs → Ascend (fs ++ gs)
ascend_at o [] gs h c k = k
ascend_at o (f ∷ fs) gs h c k = (before_all f o (fs ++ gs) h.0 (come_both o fs gs (come_at o o fs (inr refl) h.1) c), ascend_at o fs gs h.1 c k)

-- ---- a statement

circle_at : (before : List Assignment) (w : Option Assignment) (o : Origin) → ComesFrom o w → AllAt o (circle_faults before w)
circle_at before None o h = tt
circle_at before (Some a) o h = either (closes before a) (fault a.origin Form) h
  where
    either : (b : Bool) (f : Fault) → f.origin ≡ o → AllAt o (cond b (f ∷ []) [])
    either true f e = (e, tt)
    either false f e = tt

statement_at : (p : Placed) (o : Origin) (before : List Assignment) → ComesFrom o (waiting_in p) → AllAt o (statement_faults p o before)
statement_at (Stands t w) o before h = circle_at before w o h
statement_at (FaultyLabel kind) o before h = (refl, tt)
statement_at (Faulty kind w) o before h = (refl, circle_at before w o h)

carried_come : (x o : Origin) (text : List ℕ) (a : Assembly) (next : Onward) → Comes x o → ((b : Assembly) (e : Option ℕ) → AllCome x (next b e).faults) → AllCome x (carried o (placed o text a.standing) a next).faults
carried_come x o text a next c h =
    let p : Placed = placed o text a.standing in
    come_both x (statement_faults p o a.assignments) (next (left_by p a) (line_ended p o.place)).faults (come_at x o (statement_faults p o a.assignments) c (statement_at p o a.assignments (placed_from o text a.standing)))
    (h (left_by p a) (line_ended p o.place))

choice_come : (b : Bool) (x : Origin) (s t : Survey) → AllCome x s.faults → AllCome x t.faults → AllCome x (let u : Survey = cond b s t in u).faults
choice_come true x s t h k = h
choice_come false x s t h k = k

stated_come : (x o : Origin) (text : List ℕ) (a : Assembly) (ended : Option ℕ) (next : Onward) → Comes x o → ((b : Assembly) (e : Option ℕ) → AllCome x (next b e).faults) → AllCome x (stated o text a ended next).faults
unfolding stated
stated_come x o text a ended next c h =
    choice_come (is_ended ended o.place) x (next a ended) (carried o (placed o text a.standing) a next) (h a ended) (carried_come x o text a next c h)

fault_come : (b : Bool) (x : Origin) (f : Fault) → Comes x f.origin → AllCome x (cond b [] (f ∷ []))
fault_come true x f c = tt
fault_come false x f c = (c, tt)

same_place : (number place m p : ℕ) → m ≡ number → p ≡ place → at number place ≡ at m p
same_place number place m p e f = ap (λ (n : ℕ). at n place) (sym e) ∙ ap (at m) (sym f)

onward_come : (st : Stepped) (number place : ℕ) (x : Origin) (a : Assembly) (ended : Option ℕ) (next : Rest → Onward) → IsOf number place st → Comes x (at number place)
    → ((r : Rest) (b : Assembly) (e : Option ℕ) → Before r x → AllCome x (next r b e).faults) → AllCome x (onward st a ended next).faults
onward_come (Steps r) number place x a ended next is c h = h r a ended (before_after x number place r c is)
onward_come (Says st r) number place x a ended next is c h =
    stated_come x (at st.number r.read) st.text a ended (next r) (subst (λ (o : Origin). Comes x o) (same_place number place st.number r.read is.0 is.1.read) c) (λ b e. h r b e (before_after x number place r c is.1))
onward_come (Faults m p kind) number place x a ended next is c h = fault_come (is_ended ended p) x (fault (at m p) kind) (subst (λ (o : Origin). Comes x o) (same_place number place m p is.0 is.1) c)
onward_come (Ends begin) number place x a ended next is c h = tt

come_step : (st : Stepped) (rest : Rest) (x : Origin) (a : Assembly) (ended : Option ℕ) (next : Rest → Onward) → Leading rest st → Before rest x
    → ((r : Rest) (b : Assembly) (e : Option ℕ) → Before r x → AllCome x (next r b e).faults) → AllCome x (onward st a ended next).faults
come_step st rest x a ended next (leads_to number place is l) before h = onward_come st number place x a ended next is (l.comes x before) h
come_step st rest x a ended next (leads_out begin e) before h = subst (λ (s : Stepped). AllCome x (onward s a ended next).faults) (sym e) tt

-- what stands before all that is left to open stands before its faults
survey_come : (left : ℕ) (rest : Rest) (x : Origin) (a : Assembly) (ended : Option ℕ) → Before rest x → AllCome x (survey left rest a ended).faults
unfolding survey
survey_come zero rest x a ended before = tt
survey_come (suc left) rest x a ended before = come_step (step (names_in a.standing) rest) rest x a ended (survey left) (leading a rest) before (λ r b e more. survey_come left r x b e more)

-- ---- in order

carried_ascend : (o : Origin) (text : List ℕ) (a : Assembly) (next : Onward) → ((b : Assembly) (e : Option ℕ) → AllCome o (next b e).faults) → ((b : Assembly) (e : Option ℕ) → Ascend (next b e).faults) → Ascend (carried o (placed o text a.standing) a next).faults
carried_ascend o text a next h k =
    let p : Placed = placed o text a.standing in
    ascend_at o (statement_faults p o a.assignments) (next (left_by p a) (line_ended p o.place)).faults (statement_at p o a.assignments (placed_from o text a.standing))
    (h (left_by p a) (line_ended p o.place)) (k (left_by p a) (line_ended p o.place))

choice_ascend : (b : Bool) (s t : Survey) → Ascend s.faults → Ascend t.faults → Ascend (let u : Survey = cond b s t in u).faults
choice_ascend true s t h k = h
choice_ascend false s t h k = k

stated_ascend : (o : Origin) (text : List ℕ) (a : Assembly) (ended : Option ℕ) (next : Onward) → ((b : Assembly) (e : Option ℕ) → AllCome o (next b e).faults) → ((b : Assembly) (e : Option ℕ) → Ascend (next b e).faults) → Ascend (stated o text a ended next).faults
unfolding stated
stated_ascend o text a ended next h k =
    choice_ascend (is_ended ended o.place) (next a ended) (carried o (placed o text a.standing) a next) (k a ended) (carried_ascend o text a next h k)

fault_ascends : (b : Bool) (f : Fault) → Ascend (cond b [] (f ∷ []))
fault_ascends true f = tt
fault_ascends false f = (tt, tt)

onward_ascend : (st : Stepped) (number place left : ℕ) (a : Assembly) (ended : Option ℕ) → IsOf number place st → ((r : Rest) (b : Assembly) (e : Option ℕ) → Ascend (survey left r b e).faults) → Ascend (onward st a ended (survey left)).faults
onward_ascend (Steps r) number place left a ended is h = h r a ended
onward_ascend (Says st r) number place left a ended is h =
    let o : Origin = at st.number r.read in
    stated_ascend o st.text a ended (survey left r) (λ b e. survey_come left r o b e (before_after o number place r (inr (sym (same_place number place st.number r.read is.0 is.1.read))) is.1)) (λ b e. h r b e)
onward_ascend (Faults m p kind) number place left a ended is h = fault_ascends (is_ended ended p) (fault (at m p) kind)
onward_ascend (Ends begin) number place left a ended is h = tt

ascend_step : (st : Stepped) (rest : Rest) (left : ℕ) (a : Assembly) (ended : Option ℕ) → Leading rest st → ((r : Rest) (b : Assembly) (e : Option ℕ) → Ascend (survey left r b e).faults) → Ascend (onward st a ended (survey left)).faults
ascend_step st rest left a ended (leads_to number place is l) h = onward_ascend st number place left a ended is h
ascend_step st rest left a ended (leads_out begin e) h = subst (λ (s : Stepped). Ascend (onward s a ended (survey left)).faults) (sym e) tt

-- the faults that lines have by themselves
pub survey_ascends : (left : ℕ) (rest : Rest) (a : Assembly) (ended : Option ℕ) → Ascend (survey left rest a ended).faults
unfolding survey
survey_ascends zero rest a ended = tt
survey_ascends (suc left) rest a ended = ascend_step (step (names_in a.standing) rest) rest left a ended (leading a rest) (λ r b e. survey_ascends left r b e)

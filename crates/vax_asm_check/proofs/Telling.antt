-- The messages that statements add, one more at a time.
use Rattle.std.proofs.Common.{◌≡◌, ◌≤◌, ℕ, suc, zero, Bool, true, false, cond, List, [], ◌∷◌, ◌++◌, length, take, map, Option, Some, None, refl, sym, ap, subst, ◌∙◌, append-nil, append_assoc, arith}
use Rattle.std.proofs.lemmas.Bool.{eq-eqb, ne_eqb}
use Rattle.std.proofs.lemmas.List.{length-append, length-map, map-append, take-append-le, take_all}
use Rattle.std.specs.List.{cons_option}
use Rattle.std.specs.Prelude.{◌==◌, ◌&&◌, not, if◌then◌else◌, option_map}
use Rattle.vax_asm.specs.Placing.{Placed, placed}
use Rattle.vax_asm.specs.Walk.{Assembly, at, names_in, nothing}
use Rattle.vax_asm_check.proofs.Going.{faults_joined, goes_past, here}
use Rattle.vax_asm_check.specs.Faultless.{Following, faultless, faultless_of, onward, said_at, stated as stated_faultless, unless_faulty}
use Rattle.vax_asm_check.specs.Messages.{Message, message_in, messages, messages_in}
use Rattle.vax_asm_check.specs.Restating.{Said}
use Rattle.vax_asm_check.specs.View.{message_seen}
use Rattle.vax_asm_check.specs.declared.notes.Message as code_message
use Rattle.vax_asm_faults.specs.Survey.{Onward, Survey, is_ended, left_by, line_ended, stated, statement_faults, with_faults}
use Rattle.vax_asm_first.specs.declared.types.Origin.{Origin}
use Rattle.vax_asm_second.specs.declared.types.Fault.{Fault}
use Rattle.vax_dialect.specs.Differences.{has_further_directives}
use Rattle.vax_dialect.specs.declared.Dialect.{Dialect}
use Rattle.vax_macro.specs.Directives.{Statement}
use Rattle.vax_macro.specs.Expanders.{FaultIs}
use Rattle.vax_macro.specs.Expansion.{AtEnd, Ends, Faults, Faulty, Given, Later, Opened, Says, Stepped, Steps, behind as opens_behind, opened, step}
use Rattle.vax_macro.specs.Rest.{Opening, Rest, started, work}
use Rattle.vax_macro.specs.declared.error.FaultKind.{FaultKind}

-- ---- What a survey has done with a statement

-- what comes behind a statement, and tells what it begins with
abbrev marked : Assembly → Option ℕ → Survey
marked a ended = record { faults = []; behind = a; ends = Some (option_map (λ (n : ℕ). record { number = n; place = 0 }) ended) }

abbrev number_in : Option (Option Opening) → Option ℕ
number_in None = None
number_in (Some o) = option_map (λ (b : Opening). b.number) o

number_is : (a : Assembly) (ended : Option ℕ) → number_in (marked a ended).ends ≡ ended
number_is a None = refl
number_is a (Some n) = refl

same_left : (fs gs : List Fault) (a b : Assembly) (m n : Option ℕ) → with_faults fs (marked a m) ≡ with_faults gs (marked b n) → a ≡ b
same_left fs gs a b m n h = ap (λ (s : Survey). s.behind) h

same_ended : (fs gs : List Fault) (a b : Assembly) (m n : Option ℕ) → with_faults fs (marked a m) ≡ with_faults gs (marked b n) → m ≡ n
same_ended fs gs a b m n h = sym (number_is a m) ∙ ap (λ (s : Survey). number_in s.ends) h ∙ number_is b n

same_faults : (fs gs : List Fault) (a b : Assembly) (m n : Option ℕ) → with_faults fs (marked a m) ≡ with_faults gs (marked b n) → fs ≡ gs
same_faults fs gs a b m n h = sym (append-nil fs) ∙ ap (λ (s : Survey). s.faults) h ∙ append-nil gs

-- a statement has no fault where none was added
none_or_some : (fs hs gs : List Fault) (s : Said) (l : List Said) → fs ++ hs ≡ gs → unless_faulty hs s ++ l ≡ (if length gs == length fs then s ∷ l else l)
none_or_some fs [] gs s l e = ap (λ b. cond b (s ∷ l) l) (sym (eq-eqb (length gs) (length fs) (ap (λ (fs : List Fault). length fs) (sym e ∙ append-nil fs))))
none_or_some fs (f ∷ hs) gs s l e =
    let many = ap (λ (fs : List Fault). length fs) (sym e) ∙ length-append fs (f ∷ hs) in
    ap (λ b. cond b (s ∷ l) l) (sym (ne_eqb (length gs) (length fs) (λ same. absurd (omega (arith, many, same)))))

abbrev IsOn : (o : Origin) (text : List ℕ) (a b : Assembly) (ended e : Option ℕ) (stands : Bool) → Type 0
IsOn o text a b ended e stands = (next : Following) → stated_faultless (said_at o text) a ended next ≡ (if stands then said_at o text ∷ next b e else next b e)

-- of a line that has ended
past_on : (o : Origin) (text : List ℕ) (a b : Assembly) (ended e : Option ℕ) (fs gs : List Fault) → is_ended ended o.place ≡ true → ((next : Onward) → with_faults fs (stated o text a ended next) ≡ with_faults gs (next b e)) → IsOn o text a b ended e false
past_on o text a b ended e fs gs q goes next =
    let m = sym (goes_past o text a ended fs marked q) ∙ goes marked in
    ap (λ c. cond c (next a ended) (unless_faulty (statement_faults (placed o text a.standing) o a.assignments) (said_at o text) ++ next (left_by (placed o text a.standing) a) (line_ended (placed o text a.standing) o.place))) q
    ∙ ap (λ (c : Assembly). next c ended) (same_left fs gs a b ended e m)
    ∙ ap (λ (n : Option ℕ). next b n) (same_ended fs gs a b ended e m)

-- of another
here_on : (o : Origin) (text : List ℕ) (a b : Assembly) (ended e : Option ℕ) (fs gs : List Fault) → is_ended ended o.place ≡ false → ((next : Onward) → with_faults fs (stated o text a ended next) ≡ with_faults gs (next b e))
    → IsOn o text a b ended e (length gs == length fs)
here_on o text a b ended e fs gs q goes next =
    let p : Placed = placed o text a.standing in
    let hs : List Fault = statement_faults p o a.assignments in
    let c : Assembly = left_by p a in
    let n : Option ℕ = line_ended p o.place in
    let m : with_faults (fs ++ hs) (marked c n) ≡ with_faults gs (marked b e) = sym (faults_joined fs hs (marked c n)) ∙ ap (with_faults fs) (sym (here o text a ended marked q)) ∙ goes marked in
    ap (λ b. cond b (next a ended) (unless_faulty hs (said_at o text) ++ next c n)) q
    ∙ ap (λ (c : Assembly). unless_faulty hs (said_at o text) ++ next c n) (same_left (fs ++ hs) gs c b n e m)
    ∙ ap (λ (n : Option ℕ). unless_faulty hs (said_at o text) ++ next b n) (same_ended (fs ++ hs) gs c b n e m)
    ∙ none_or_some fs hs gs (said_at o text) (next b e) (same_faults (fs ++ hs) gs c b n e m)

pub stands_on : (o : Origin) (text : List ℕ) (a b : Assembly) (ended e : Option ℕ) (fs gs : List Fault) (stands : Bool) → ((next : Onward) → with_faults fs (stated o text a ended next) ≡ with_faults gs (next b e))
    → stands ≡ (not (is_ended ended o.place) && (length gs == length fs)) → IsOn o text a b ended e stands
stands_on o text a b ended e fs gs stands goes is = by (is_ended ended o.place) refl
  where
    by : (past : Bool) → is_ended ended o.place ≡ past → IsOn o text a b ended e stands
    by true q = subst (IsOn o text a b ended e) (sym (is ∙ ap (λ c. not c && (length gs == length fs)) q)) (past_on o text a b ended e fs gs q goes)
    by false q = subst (IsOn o text a b ended e) (sym (is ∙ ap (λ c. not c && (length gs == length fs)) q)) (here_on o text a b ended e fs gs q goes)

-- ---- The messages of statements

one_more : (before : List code_message.Message) (o : Option code_message.Message) (l : List Message) → map message_seen (before ++ cons_option o []) ++ l ≡ map message_seen before ++ cons_option (option_map message_seen o) l
one_more before None l = ap (λ (all : List code_message.Message). map message_seen all ++ l) (append-nil before)
one_more before (Some m) l = ap (λ (all : List Message). all ++ l) (map-append message_seen before (m ∷ [])) ∙ append_assoc (map message_seen before) (message_seen m ∷ []) l

-- a statement that stands, or doesn't
pub tells_more : (dialect : Dialect) (s : Said) (o : Option code_message.Message) (before after : List code_message.Message) (stated rest : List Said) → stated ≡ s ∷ rest → option_map message_seen o ≡ message_in dialect s → after ≡ before ++ cons_option o []
    → map message_seen before ++ messages_in dialect stated ≡ map message_seen after ++ messages_in dialect rest
tells_more dialect s o before after stated rest e is more =
    ap (λ l. map message_seen before ++ messages_in dialect l) e
    ∙ ap (λ m. map message_seen before ++ cons_option m (messages_in dialect rest)) (sym is)
    ∙ sym (one_more before o (messages_in dialect rest))
    ∙ ap (λ (all : List code_message.Message). map message_seen all ++ messages_in dialect rest) (sym more)

-- ---- What is opened of a source

abbrev resumed : Opened → Assembly → Option ℕ → List Said
resumed (Given st left rest) a ended = stated_faultless (said_at (at st.number rest.read) st.text) a ended (faultless left rest)
resumed (Faulty line place kind) a ended = []
resumed (AtEnd begin) a ended = []
resumed Later a ended = []

by_step : (left : ℕ) (a : Assembly) (ended : Option ℕ) (p : Stepped)
    → ((rest : Rest) → faultless left rest a ended ≡ resumed (opened left (names_in a.standing) rest) a ended)
    → onward p a ended (faultless left) ≡ resumed (opens_behind left p (λ after. opened left (names_in a.standing) after)) a ended
by_step left a ended (Steps rest) h = h rest
by_step left a ended (Says st rest) h = refl
by_step left a ended (Faults line place kind) h = refl
by_step left a ended (Ends begin) h = refl

faultless_opened : (left : ℕ) (rest : Rest) (a : Assembly) (ended : Option ℕ) → faultless left rest a ended ≡ resumed (opened left (names_in a.standing) rest) a ended
unfolding faultless opened
faultless_opened zero rest a ended = refl
faultless_opened (suc left) rest a ended = by_step left a ended (step (names_in a.standing) rest) (λ r. faultless_opened left r a ended)

-- how the messages begin
pub started_messages : (dialect : Dialect) (source : List ℕ) (all : List code_message.Message) (rest : Rest) (a : Assembly) (ended : Option ℕ) → has_further_directives dialect ≡ true → all ≡ [] → rest ≡ started dialect source → a ≡ nothing dialect → ended ≡ None
    → take 100 (map message_seen all ++ messages_in dialect (faultless (suc (work rest)) rest a ended)) ≡ messages dialect source
started_messages dialect source all rest a ended further none e f g = rw (none, e, f, g) (ap (λ b. cond b (take 100 (messages_in dialect (faultless_of dialect source))) []) (sym further))

-- in the smaller dialect
pub none_given : (dialect : Dialect) (source : List ℕ) → has_further_directives dialect ≡ false → messages dialect source ≡ []
none_given dialect source smaller = ap (λ b. cond b (take 100 (messages_in dialect (faultless_of dialect source))) []) smaller

pub no_messages : (dialect : Dialect) (source : List ℕ) (all : List code_message.Message) → has_further_directives dialect ≡ false → all ≡ [] → map message_seen all ≡ messages dialect source
no_messages dialect source all smaller none = rw none (sym (none_given dialect source smaller))

-- messages that go on with what was opened
pub goes_next : (dialect : Dialect) (told : List Message) (all more : List code_message.Message) (left steps : ℕ) (rest after : Rest) (a b : Assembly) (ended e : Option ℕ) (st : Statement)
    → take 100 (map message_seen all ++ messages_in dialect (faultless left rest a ended)) ≡ told
    → opened left (names_in a.standing) rest ≡ Given st steps after
    → ((next : Following) → map message_seen all ++ messages_in dialect (stated_faultless (said_at (at st.number after.read) st.text) a ended next) ≡ map message_seen more ++ messages_in dialect (next b e))
    → take 100 (map message_seen more ++ messages_in dialect (faultless steps after b e)) ≡ told
goes_next dialect told all more left steps rest after a b ended e st is o g =
    ap (take 100) (sym (g (faultless steps after)))
    ∙ sym (ap (λ l. take 100 (map message_seen all ++ messages_in dialect l)) (faultless_opened left rest a ended ∙ ap (λ (x : Opened). resumed x a ended) o))
    ∙ is

-- nothing more is opened
abbrev pub IsEnd : Opened → Type 0
IsEnd (Given st left rest) = ⊥
IsEnd (Faulty line place kind) = Unit {0}
IsEnd (AtEnd begin) = Unit {0}
IsEnd Later = Unit {0}

-- the end of a source, and a fault of what is opened
pub nothing_ends : (o : Opened) → o ≡ AtEnd None → IsEnd o
nothing_ends o e = subst IsEnd (sym e) tt

pub fault_ends : (u : Option Opening) (read line : ℕ) (kind : FaultKind) (o p : Opened) → p ≡ o → FaultIs u read line kind o → IsEnd p
fault_ends None read line kind o p e is = subst IsEnd (sym (e ∙ is)) tt
fault_ends (Some begin) read line kind o p e is = subst IsEnd (sym (e ∙ is.0)) tt

none_resumed : (o : Opened) (a : Assembly) (ended : Option ℕ) → IsEnd o → resumed o a ended ≡ []
none_resumed (Given st left rest) a ended h = absurd h
none_resumed (Faulty line place kind) a ended h = refl
none_resumed (AtEnd begin) a ended h = refl
none_resumed Later a ended h = refl

pub all_told : (dialect : Dialect) (told : List Message) (all : List code_message.Message) (left : ℕ) (rest : Rest) (a : Assembly) (ended : Option ℕ) → length all ≤ 100
    → take 100 (map message_seen all ++ messages_in dialect (faultless left rest a ended)) ≡ told
    → IsEnd (opened left (names_in a.standing) rest) → map message_seen all ≡ told
all_told dialect told all left rest a ended few is end =
    let few_seen : length (map message_seen all) ≤ 100 = let e = length-map all message_seen in omega (arith, e, few) in
    sym (take_all 100 (map message_seen all) few_seen)
    ∙ ap (take 100) (sym (append-nil (map message_seen all)))
    ∙ sym (ap (λ l. take 100 (map message_seen all ++ messages_in dialect l)) (faultless_opened left rest a ended ∙ none_resumed (opened left (names_in a.standing) rest) a ended end))
    ∙ is

-- a hundred are all that are told
pub enough_told : (told more : List Message) (all : List code_message.Message) → length all ≤ 100 → 100 ≤ length all → take 100 (map message_seen all ++ more) ≡ told → map message_seen all ≡ told
enough_told told more all few many is =
    let e = length-map all message_seen in
    sym (take_all 100 (map message_seen all) (omega (arith, e, few)))
    ∙ sym (take-append-le 100 (map message_seen all) more (omega (arith, e, many)))
    ∙ is

-- Names that are defined one after the other, and where they lead.
use Rattle.std.proofs.Common.{◌≡◌, ℕ, zero, suc, ◌+◌, ◌<◌, ◌≤◌, Bool, true, false, cond, List, [], ◌∷◌, ◌++◌, length, take, drop, get_or, Option, Some, None, refl, sym, ap, subst, ◌∙◌, append_assoc, add-zero, arith, ◌⊎◌, inl, inr}
use Rattle.std.specs.Prelude.{ℤ, ◌||◌, is_some, option_map, slice_get}
use Rattle.std.specs.Option.{option_or}
use Rattle.std.specs.List.{find, flat_map}
use Rattle.std.specs.HashMap.{get_by}
use Rattle.std.specs.Str.{bytes_eq}
use Rattle.std.proofs.lemmas.List.{append-nil, length_push, length-take-le, map-append, take_all, take-append-drop, take_more}
use Rattle.std.proofs.lemmas.List.Concat.{flat_map-append}
use Rattle.std.proofs.lemmas.List.Elements.{filter_map-append}
use Rattle.std.proofs.lemmas.List.Folds.{find-append}
use Rattle.std.proofs.lemmas.Slice.Eq.{bytes_eq-Decides}
use Rattle.vax_lex.specs.declared.value.Value.{Value}
use Rattle.vax_lex.specs.declared.value.Value.TheVariants.{Absolute, Section as InSection, External}
use Rattle.vax_module.specs.declared.Symbol.{Symbol}
use Rattle.vax_module.specs.declared.Module.{Module}
use Rattle.vax_link.specs.declared.names.Definition.{Definition}
use Rattle.vax_link.specs.declared.names.Names.{Names}
use Rattle.vax_link.specs.declared.names.Chased.{Chased}
use Rattle.vax_link.specs.declared.names.Chased.TheVariants.{Ends, Unknown, Circles}
use Rattle.vax_link.specs.Names.{Name, Entries, definition_of, is_defined, repeated, or_else, entries_of, entries_from, transfers, second_transfer, duplicate, led, leads, is_met, chased, chase, external_name, low_longword, plus}
use Rattle.vax_link.specs.Leads.{stepped}
use Rattle.vax_link.specs.Tables.{IsTable}

same_bool : (x y : Bool) → (x ≡ true → y ≡ true) → (y ≡ true → x ≡ true) → x ≡ y
same_bool true true f g = refl
same_bool true false f g = sym (f refl)
same_bool false true f g = g refl
same_bool false false f g = refl

pub bytes_eq_comm : (a b : Name) → bytes_eq a b ≡ bytes_eq b a
bytes_eq_comm a b = same_bool (bytes_eq a b) (bytes_eq b a) (λ h. (bytes_eq-Decides b a).1 (sym ((bytes_eq-Decides a b).0 h))) (λ h. (bytes_eq-Decides a b).1 (sym ((bytes_eq-Decides b a).0 h)))

or_else_cond : (b : Bool) (d : Definition) (rest other : Option Definition) → or_else (cond b (Some d) rest) other ≡ cond b (Some d) (or_else rest other)
or_else_cond true d rest other = refl
or_else_cond false d rest other = refl

pub definition-append : (name : Name) (xs ys : Entries) → definition_of name (xs ++ ys) ≡ or_else (definition_of name xs) (definition_of name ys)
definition-append name [] ys = refl
definition-append name (x ∷ xs) ys = ap (cond (bytes_eq name x.0) (Some x.1)) (definition-append name xs ys) ∙ sym (or_else_cond (bytes_eq name x.0) x.1 (definition_of name xs) (definition_of name ys))

or_none : (a : Option Definition) → or_else a None ≡ a
or_none None = refl
or_none (Some a) = refl

undefined_none : (o : Option Definition) → is_some o ≡ false → o ≡ None
undefined_none None e = refl
undefined_none (Some d) e = absurd cc

chosen : (b : Bool) (d : Definition) (old : Option Definition) → (b ≡ true → old ≡ None) → cond b (Some d) old ≡ or_else old (cond b (Some d) None)
chosen true d old none = rw (none refl) refl
chosen false d old none = sym (or_none old)

pub table_more : (old new : Names) (entries : Entries) (name : Name) (d : Definition) → IsTable old entries → is_defined name entries ≡ false
    → ((q : Name) → get_by (λ k. bytes_eq q k.now) new.defined ≡ cond (bytes_eq name q) (Some d) (get_by (λ k. bytes_eq q k.now) old.defined)) → new.steps ≡ old.steps + 1 → IsTable new (entries ++ (name, d) ∷ [])
table_more old new entries name d table unknown updates steps = record {
  defined = λ q.
      let none : bytes_eq name q ≡ true → definition_of q entries ≡ None = λ h. ap (λ n. definition_of n entries) (sym ((bytes_eq-Decides name q).0 h)) ∙ undefined_none (definition_of name entries) unknown in
      updates q ∙ ap (cond (bytes_eq name q) (Some d)) (table.defined q) ∙ chosen (bytes_eq name q) d (definition_of q entries) none
      ∙ ap (λ b. or_else (definition_of q entries) (cond b (Some d) None)) (bytes_eq_comm name q) ∙ sym (definition-append q entries ((name, d) ∷ []));
  steps = steps ∙ ap (λ n. n + 1) table.steps ∙ ap (λ n. n + 1) (sym (length_push entries (name, d)));
}

-- ---- the first that is defined already

pub repeated_more : (before : Entries) (e : Name × Definition) (rest : Entries) → is_defined e.0 before ≡ false → repeated before (e ∷ rest) ≡ repeated (before ++ e ∷ []) rest
unfolding repeated
repeated_more before e rest unknown = rw unknown refl

pub repeated_here : (before : Entries) (e : Name × Definition) (rest : Entries) → is_defined e.0 before ≡ true → repeated before (e ∷ rest) ≡ Some e.0
unfolding repeated
repeated_here before e rest known = rw known refl

repeated_step : (b : Bool) (before : Entries) (x : Name × Definition) (xs ys : Entries) → (repeated (before ++ x ∷ []) xs ≡ None → repeated (before ++ x ∷ []) (xs ++ ys) ≡ repeated ((before ++ x ∷ []) ++ xs) ys)
    → cond b (Some x.0) (repeated (before ++ x ∷ []) xs) ≡ None → cond b (Some x.0) (repeated (before ++ x ∷ []) (xs ++ ys)) ≡ repeated (before ++ x ∷ xs) ys
repeated_step true before x xs ys rest none = absurd cc
repeated_step false before x xs ys rest none = rest none ∙ ap (λ b. repeated b ys) (append_assoc before (x ∷ []) xs)

pub repeated-append : (before xs ys : Entries) → repeated before xs ≡ None → repeated before (xs ++ ys) ≡ repeated (before ++ xs) ys
unfolding repeated
repeated-append before [] ys none = ap (λ b. repeated b ys) (sym (append-nil before))
repeated-append before (x ∷ xs) ys none = repeated_step (is_defined x.0 before) before x xs ys (repeated-append (before ++ x ∷ []) xs ys) none

found_step : (b : Bool) (before : Entries) (x : Name × Definition) (xs ys : Entries) (name : Name) → (repeated (before ++ x ∷ []) xs ≡ Some name → repeated (before ++ x ∷ []) (xs ++ ys) ≡ Some name)
    → cond b (Some x.0) (repeated (before ++ x ∷ []) xs) ≡ Some name → cond b (Some x.0) (repeated (before ++ x ∷ []) (xs ++ ys)) ≡ Some name
found_step true before x xs ys name rest found = found
found_step false before x xs ys name rest found = rest found

pub repeated-found : (before xs ys : Entries) (name : Name) → repeated before xs ≡ Some name → repeated before (xs ++ ys) ≡ Some name
unfolding repeated
repeated-found before [] ys name found = absurd cc
repeated-found before (x ∷ xs) ys name found = found_step (is_defined x.0 before) before x xs ys name (repeated-found (before ++ x ∷ []) xs ys name) found

-- ---- the item at which a loop stands

pub one_more : {X : Type 0} (xs : List X) (i : ℕ) (x : X) → i < length xs → x ≡ get_or xs i x → take (i + 1) xs ≡ take i xs ++ x ∷ []
one_more xs i x h is = take_more xs i x h ∙ ap (λ y. take i xs ++ y ∷ []) (sym is)

pub parted : {X : Type 0} (xs : List X) (i : ℕ) (x : X) → i < length xs → x ≡ get_or xs i x → (take i xs ++ x ∷ []) ++ drop (i + 1) xs ≡ xs
parted xs i x h is = ap (λ ys. ys ++ drop (i + 1) xs) (sym (one_more xs i x h is)) ∙ take-append-drop (i + 1) xs

-- ---- the global names of a module

abbrev pub entry : ℕ → Symbol → Name × Definition
entry owner symbol = (symbol.name, record { owner = owner; value = symbol.value })

of_append : (owner : ℕ) (xs ys : List Symbol) → entries_of owner (xs ++ ys) ≡ entries_of owner xs ++ entries_of owner ys
of_append owner xs ys = map-append (entry owner) xs ys

of_more : (owner : ℕ) (globals : List Symbol) (i : ℕ) (x : Symbol) → i < length globals → x ≡ get_or globals i x → entries_of owner (take (i + 1) globals) ≡ entries_of owner (take i globals) ++ entry owner x ∷ []
of_more owner globals i x h is = ap (entries_of owner) (one_more globals i x h is) ∙ of_append owner (take i globals) (x ∷ [])

pub entries_push : (before : Entries) (owner : ℕ) (globals : List Symbol) (i : ℕ) (x : Symbol) (name : Name) → i < length globals → x ≡ get_or globals i x → name ≡ x.name
    → (before ++ entries_of owner (take i globals)) ++ (name, record { owner = owner; value = x.value }) ∷ [] ≡ before ++ entries_of owner (take (i + 1) globals)
entries_push before owner globals i x name h is named =
    let front = entries_of owner (take i globals) in
    let one : Name → Name × Definition = λ n. (n, record { owner = owner; value = x.value }) in
    ap (λ n. (before ++ front) ++ one n ∷ []) named ∙ append_assoc before front (entry owner x ∷ []) ∙ ap (λ es. before ++ es) (sym (of_more owner globals i x h is))

last_none : (before : Entries) (e : Name × Definition) → is_defined e.0 before ≡ false → repeated before (e ∷ []) ≡ None
unfolding repeated
last_none before e unknown = rw unknown refl

pub repeated_none_more : (before : Entries) (owner : ℕ) (globals : List Symbol) (i : ℕ) (x : Symbol) (name : Name) → i < length globals → x ≡ get_or globals i x → name ≡ x.name
    → repeated before (entries_of owner (take i globals)) ≡ None → is_defined name (before ++ entries_of owner (take i globals)) ≡ false → repeated before (entries_of owner (take (i + 1) globals)) ≡ None
repeated_none_more before owner globals i x name h is named none unknown =
    let front = entries_of owner (take i globals) in
    let here : is_defined x.name (before ++ front) ≡ false = ap (λ n. is_defined n (before ++ front)) (sym named) ∙ unknown in
    ap (repeated before) (of_more owner globals i x h is) ∙ repeated-append before front (entry owner x ∷ []) none ∙ last_none (before ++ front) (entry owner x) here

pub repeated_at : (before : Entries) (owner : ℕ) (globals : List Symbol) (i : ℕ) (x : Symbol) (name : Name) → i < length globals → x ≡ get_or globals i x → name ≡ x.name
    → repeated before (entries_of owner (take i globals)) ≡ None → is_defined name (before ++ entries_of owner (take i globals)) ≡ true → repeated before (entries_of owner globals) ≡ Some name
repeated_at before owner globals i x name h is named none known =
    let front = entries_of owner (take i globals) in
    let back = entries_of owner (drop (i + 1) globals) in
    let here : is_defined x.name (before ++ front) ≡ true = ap (λ n. is_defined n (before ++ front)) (sym named) ∙ known in
    let first : repeated before (front ++ entry owner x ∷ []) ≡ Some x.name = repeated-append before front (entry owner x ∷ []) none ∙ repeated_here (before ++ front) (entry owner x) [] here in
    let whole : entries_of owner globals ≡ (front ++ entry owner x ∷ []) ++ back =
    ap (entries_of owner) (sym (parted globals i x h is)) ∙ of_append owner (take i globals ++ x ∷ []) (drop (i + 1) globals) ∙ ap (λ es. es ++ back) (of_append owner (take i globals) (x ∷ [])) in
    ap (repeated before) whole ∙ repeated-found before (front ++ entry owner x ∷ []) back x.name first ∙ ap Some (sym named)

-- ---- the names of more modules

pub entries-append : (owner : ℕ) (xs ys : List Module) → entries_from owner (xs ++ ys) ≡ entries_from owner xs ++ entries_from (owner + length xs) ys
unfolding entries_from
entries-append owner [] ys = ap (λ n. entries_from n ys) (sym (add-zero owner))
entries-append owner (m ∷ xs) ys =
    let next : entries_from (suc owner) (xs ++ ys) ≡ entries_from (suc owner) xs ++ entries_from (suc owner + length xs) ys = entries-append (suc owner) xs ys in
    let same : suc owner + length xs ≡ owner + suc (length xs) = omega arith in
    ap (λ es. entries_of owner m.globals ++ es) next ∙ sym (append_assoc (entries_of owner m.globals) (entries_from (suc owner) xs) (entries_from (suc owner + length xs) ys))
    ∙ ap (λ n. (entries_of owner m.globals ++ entries_from (suc owner) xs) ++ entries_from n ys) same

pub entries_one : (owner : ℕ) (m : Module) → entries_from owner (m ∷ []) ≡ entries_of owner m.globals
unfolding entries_from
entries_one owner m = append-nil (entries_of owner m.globals)

pub entries_more : (modules : List Module) (i : ℕ) (m : Module) → i < length modules → m ≡ get_or modules i m → entries_from 0 (take (i + 1) modules) ≡ entries_from 0 (take i modules) ++ entries_of i m.globals
entries_more modules i m h is =
    let long : 0 + length (take i modules) ≡ i = omega (arith, length-take-le i modules (omega arith)) in
    ap (entries_from 0) (one_more modules i m h is) ∙ entries-append 0 (take i modules) (m ∷ [])
    ∙ ap (λ es. entries_from 0 (take i modules) ++ es) (entries_one (0 + length (take i modules)) m ∙ ap (λ n. entries_of n m.globals) long)

-- ---- where names lead

pub stepped_unknown : (modules : List Module) (entries : Entries) (left : ℕ) (name : Name) (offset : ℕ) → definition_of name entries ≡ None → stepped modules entries (suc left) name offset ≡ Unknown offset
unfolding stepped
stepped_unknown modules entries left name offset none = rw none refl

pub stepped_next : (modules : List Module) (entries : Entries) (left : ℕ) (name : Name) (offset : ℕ) (d : Definition) (index : ℕ) (more : ℤ) → definition_of name entries ≡ Some d → d.value ≡ External index more
    → stepped modules entries (suc left) name offset ≡ stepped modules entries left (external_name modules d.owner index) (plus offset (low_longword more))
unfolding stepped
stepped_next modules entries left name offset d index more found value = rw (found, value) refl

pub stepped_on : (modules : List Module) (entries : Entries) (left : ℕ) (name : Name) (offset : ℕ) (d : Definition) (index : ℕ) (more : ℤ) (next : Name) (low : ℕ) → definition_of name entries ≡ Some d → d.value ≡ External index more
    → next ≡ external_name modules d.owner index → low ≡ low_longword more → stepped modules entries (suc left) name offset ≡ stepped modules entries left next (plus offset low)
stepped_on modules entries left name offset d index more next low found value same lower =
    stepped_next modules entries left name offset d index more found value
    ∙ ap (λ n. stepped modules entries left n (plus offset (low_longword more))) (sym same)
    ∙ ap (λ k. stepped modules entries left next (plus offset k)) (sym lower)

led_elsewhere : (value : Value) (owner offset : ℕ) (next : ℕ → ℕ → ℕ → Chased) → ((index : ℕ) (more : ℤ) → value ≡ External index more → ⊥) → led owner value offset next ≡ Ends owner value offset
led_elsewhere (Absolute n) owner offset next other = refl
led_elsewhere (InSection section place) owner offset next other = refl
led_elsewhere (External index more) owner offset next other = absurd (other index more refl)

pub stepped_end : (modules : List Module) (entries : Entries) (left : ℕ) (name : Name) (offset : ℕ) (d : Definition) → definition_of name entries ≡ Some d → ((index : ℕ) (more : ℤ) → d.value ≡ External index more → ⊥)
    → stepped modules entries (suc left) name offset ≡ Ends d.owner d.value offset
unfolding stepped
stepped_end modules entries left name offset d found other =
    rw found (led_elsewhere d.value d.owner offset (λ owner index more. stepped modules entries left (external_name modules owner index) (plus offset more)) other)

pub stepped_back : (modules : List Module) (entries : Entries) (name : Name) (offset : ℕ) → stepped modules entries 0 name offset ≡ Circles
unfolding stepped
stepped_back modules entries name offset = refl

-- the name stands for a place beside an external name: one that has been met, or the present one
record LeadsOn (modules : List Module) (entries : Entries) (met : List Name) (name x : Name) : Type 0 where
  definition : Definition
  index : ℕ
  more : ℤ
  defined : definition_of x entries ≡ Some definition
  value : definition.value ≡ External index more
  next : (is_met (external_name modules definition.owner index) met ≡ true) ⊎ (external_name modules definition.owner index ≡ name)

-- each name that has been met leads on
abbrev AreMet : List Module → Entries → List Name → Name → Type 0
AreMet modules entries met name = (x : Name) → is_met x met ≡ true → LeadsOn modules entries met name x

goes_round : (modules : List Module) (entries : Entries) (met : List Name) (name : Name) → AreMet modules entries met name → is_met name met ≡ true
    → (left : ℕ) (x : Name) (offset : ℕ) → is_met x met ≡ true → stepped modules entries left x offset ≡ Circles
goes_round modules entries met name all back zero x offset there = stepped_back modules entries x offset
goes_round modules entries met name all back (suc left) x offset there =
    let on = all x there in
    let next = external_name modules on.definition.owner on.index in
    let met_too : is_met next met ≡ true = elim on.next [
      | inl m ↦ m
      | inr e ↦ ap (λ (n : Name). is_met n met) e ∙ back
    ] in
    stepped_next modules entries left x offset on.definition on.index on.more on.defined on.value ∙ goes_round modules entries met name all back left next (plus offset (low_longword on.more)) met_too

either : (a b : Bool) → b ≡ true → (a || b) ≡ true
either true b h = refl
either false b h = h

met_more : (b : Bool) (modules : List Module) (entries : Entries) (met : List Name) (name x : Name) (d : Definition) (index : ℕ) (more : ℤ) → AreMet modules entries met name → definition_of name entries ≡ Some d → d.value ≡ External index more
    → bytes_eq x name ≡ b → (b || is_met x met) ≡ true → LeadsOn modules entries (name ∷ met) (external_name modules d.owner index) x
met_more true modules entries met name x d index more all found value same there =
    record {
      definition = d;
      index = index;
      more = more;
      defined = ap (λ (n : Name). definition_of n entries) ((bytes_eq-Decides x name).0 same) ∙ found;
      value = value;
      next = inr refl;
    }
met_more false modules entries met name x d index more all found value same there =
    let on = all x there in
    let next = external_name modules on.definition.owner on.index in
    record {
      definition = on.definition;
      index = on.index;
      more = on.more;
      defined = on.defined;
      value = on.value;
      next = elim on.next [
        | inl m ↦ inl (either (bytes_eq next name) (is_met next met) m)
        | inr e ↦ inl (ap (λ b. b || is_met next met) ((bytes_eq-Decides next name).1 e))
      ];
    }

same_led : (value : Value) (owner offset : ℕ) (f g : ℕ → ℕ → ℕ → Chased) → ((index : ℕ) (more : ℤ) → value ≡ External index more → f owner index (low_longword more) ≡ g owner index (low_longword more))
    → led owner value offset f ≡ led owner value offset g
same_led (Absolute n) owner offset f g same = refl
same_led (InSection section place) owner offset f g same = refl
same_led (External index more) owner offset f g same = same index more refl

same_leads : (found : Option Definition) (offset : ℕ) (f g : ℕ → ℕ → ℕ → Chased)
    → ((d : Definition) → found ≡ Some d → (index : ℕ) (more : ℤ) → d.value ≡ External index more → f d.owner index (low_longword more) ≡ g d.owner index (low_longword more)) → leads found offset f ≡ leads found offset g
same_leads None offset f g same = refl
same_leads (Some d) offset f g same = same_led d.value d.owner offset f g (same d refl)

chased_at : (b : Bool) (modules : List Module) (entries : Entries) (left : ℕ) (met : List Name) (name : Name) (offset : ℕ) → is_met name met ≡ b → AreMet modules entries met name
    → ((more : List Name) (next : Name) (place : ℕ) → AreMet modules entries more next → chased modules entries left more next place ≡ stepped modules entries left next place)
    → cond b Circles (leads (definition_of name entries) offset (λ owner index more. chased modules entries left (name ∷ met) (external_name modules owner index) (plus offset more))) ≡ stepped modules entries (suc left) name offset
unfolding stepped
chased_at true modules entries left met name offset is all next = sym (goes_round modules entries met name all is (suc left) name offset is)
chased_at false modules entries left met name offset is all next =
    same_leads (definition_of name entries) offset (λ owner index more. chased modules entries left (name ∷ met) (external_name modules owner index) (plus offset more))
    (λ owner index more. stepped modules entries left (external_name modules owner index) (plus offset more))
    (λ d found index more value. next (name ∷ met) (external_name modules d.owner index) (plus offset (low_longword more)) (λ x there. met_more (bytes_eq x name) modules entries met name x d index more all found value refl there))

chased_is : (modules : List Module) (entries : Entries) (left : ℕ) (met : List Name) (name : Name) (offset : ℕ) → AreMet modules entries met name → chased modules entries left met name offset ≡ stepped modules entries left name offset
unfolding chased stepped
chased_is modules entries zero met name offset all = refl
chased_is modules entries (suc left) met name offset all =
    chased_at (is_met name met) modules entries left met name offset refl all (λ more next place each. chased_is modules entries left more next place each)

-- as many steps as there are definitions, and one more, lead where a name leads
pub chase_is : (modules : List Module) (entries : Entries) (name : Name) → chase modules entries name ≡ stepped modules entries (suc (length entries)) name 0
chase_is modules entries name = chased_is modules entries (suc (length entries)) [] name 0 (λ x there. absurd cc)

-- ---- the first at fault among lists that stand one after the other

pub find_here : {X : Type 0} (p : X → Bool) (xs : List X) (i : ℕ) (x : X) → i < length xs → x ≡ get_or xs i x → find p (take i xs) ≡ None → p x ≡ true → find p xs ≡ Some x
find_here p xs i x h is none holds =
    let front : find p (take i xs ++ x ∷ []) ≡ Some x = find-append p (take i xs) (x ∷ []) ∙ ap (λ o. option_or o (find p (x ∷ []))) none ∙ ap (λ b. cond b (Some x) None) holds in
    ap (find p) (sym (parted xs i x h is)) ∙ find-append p (take i xs ++ x ∷ []) (drop (i + 1) xs) ∙ ap (λ o. option_or o (find p (drop (i + 1) xs))) front

pub find_none_more : {X : Type 0} (p : X → Bool) (xs : List X) (i : ℕ) (x : X) → i < length xs → x ≡ get_or xs i x → find p (take i xs) ≡ None → p x ≡ false → find p (take (i + 1) xs) ≡ None
find_none_more p xs i x h is none fails =
    ap (find p) (one_more xs i x h is) ∙ find-append p (take i xs) (x ∷ []) ∙ ap (λ o. option_or o (find p (x ∷ []))) none ∙ ap (λ b. cond b (Some x) None) fails

-- the same where each element has a list of its own
pub find_among : {X Y : Type 0} (f : X → List Y) (p : Y → Bool) (xs : List X) (i : ℕ) (x : X) (y : Y) → i < length xs → x ≡ get_or xs i x → find p (flat_map f (take i xs)) ≡ None → find p (f x) ≡ Some y → find p (flat_map f xs) ≡ Some y
find_among f p xs i x y h is none found =
    let one : flat_map f (x ∷ []) ≡ f x = append-nil (f x) in
    let part : flat_map f (take i xs ++ x ∷ []) ≡ flat_map f (take i xs) ++ f x = flat_map-append f (take i xs) (x ∷ []) ∙ ap (λ ys. flat_map f (take i xs) ++ ys) one in
    let front : find p (flat_map f (take i xs ++ x ∷ [])) ≡ Some y =
    ap (find p) part ∙ find-append p (flat_map f (take i xs)) (f x) ∙ ap (λ o. option_or o (find p (f x))) none ∙ found in
    let back = flat_map f (drop (i + 1) xs) in
    ap (λ ys. find p (flat_map f ys)) (sym (parted xs i x h is)) ∙ ap (find p) (flat_map-append f (take i xs ++ x ∷ []) (drop (i + 1) xs))
    ∙ find-append p (flat_map f (take i xs ++ x ∷ [])) back ∙ ap (λ o. option_or o (find p back)) front

pub none_among : {X Y : Type 0} (f : X → List Y) (p : Y → Bool) (xs : List X) (i : ℕ) (x : X) → i < length xs → x ≡ get_or xs i x → find p (flat_map f (take i xs)) ≡ None → find p (f x) ≡ None → find p (flat_map f (take (i + 1) xs)) ≡ None
none_among f p xs i x h is none fails =
    let one : flat_map f (x ∷ []) ≡ f x = append-nil (f x) in
    ap (λ ys. find p (flat_map f ys)) (one_more xs i x h is) ∙ ap (find p) (flat_map-append f (take i xs) (x ∷ []) ∙ ap (λ ys. flat_map f (take i xs) ++ ys) one)
    ∙ find-append p (flat_map f (take i xs)) (f x) ∙ ap (λ o. option_or o (find p (f x))) none ∙ fails

-- ---- the second transfer address

second_in : (front : List Symbol) (s : Symbol) (rest : List Symbol) → length front ≡ 1 → slice_get ((front ++ s ∷ []) ++ rest) 1 ≡ Some s
second_in [] s rest one = absurd (omega (arith, one))
second_in (a ∷ []) s rest one = refl
second_in (a ∷ (b ∷ front)) s rest one = absurd (omega (arith, one))

pub second_at : (modules : List Module) (i : ℕ) (m : Module) (s : Symbol) (name : Name) → i < length modules → m ≡ get_or modules i m → length (transfers (take i modules)) ≡ 1 → m.transfer ≡ Some s → name ≡ s.name
    → Some name ≡ second_transfer modules
second_at modules i m s name h is one begins named =
    let given : Module → Option Symbol = λ n. n.transfer in
    let here : transfers (m ∷ []) ≡ s ∷ [] = rw begins refl in
    let whole : transfers modules ≡ (transfers (take i modules) ++ s ∷ []) ++ transfers (drop (i + 1) modules) =
    ap transfers (sym (parted modules i m h is)) ∙ filter_map-append given (take i modules ++ m ∷ []) (drop (i + 1) modules)
    ∙ ap (λ ys. ys ++ transfers (drop (i + 1) modules)) (filter_map-append given (take i modules) (m ∷ []) ∙ ap (λ ys. transfers (take i modules) ++ ys) here) in
    let second : slice_get (transfers modules) 1 ≡ Some s = ap (λ ys. slice_get ys 1) whole ∙ second_in (transfers (take i modules)) s (transfers (drop (i + 1) modules)) one in
    ap Some named ∙ sym (ap (option_map (λ symbol. symbol.name)) second)

none_second : (xs : List Symbol) → length xs ≤ 1 → slice_get xs 1 ≡ None
none_second [] few = refl
none_second (a ∷ []) few = refl
none_second (a ∷ (b ∷ xs)) few = absurd (omega (arith, few))

pub no_second : (modules : List Module) → length (transfers modules) ≤ 1 → None ≡ second_transfer modules
no_second modules few = sym (ap (option_map (λ symbol. symbol.name)) (none_second (transfers modules) few))

-- ---- the names of all modules

pub none_more : (modules : List Module) (i : ℕ) (m : Module) → i < length modules → m ≡ get_or modules i m → repeated [] (entries_from 0 (take i modules)) ≡ None
    → repeated (entries_from 0 (take i modules)) (entries_of i m.globals) ≡ None → repeated [] (entries_from 0 (take (i + 1) modules)) ≡ None
none_more modules i m h is none more =
    ap (repeated []) (entries_more modules i m h is) ∙ repeated-append [] (entries_from 0 (take i modules)) (entries_of i m.globals) none ∙ more

pub duplicate_at : (modules : List Module) (i : ℕ) (m : Module) (name : Name) → i < length modules → m ≡ get_or modules i m → repeated [] (entries_from 0 (take i modules)) ≡ None
    → repeated (entries_from 0 (take i modules)) (entries_of i m.globals) ≡ Some name → duplicate modules ≡ Some name
unfolding duplicate
duplicate_at modules i m name h is none found =
    let front = entries_from 0 (take i modules) in
    let here = entries_of i m.globals in
    let back = entries_from (0 + length (take i modules ++ m ∷ [])) (drop (i + 1) modules) in
    let part : repeated [] (front ++ here) ≡ Some name = repeated-append [] front here none ∙ found in
    let some : entries_from 0 (take i modules ++ m ∷ []) ≡ front ++ here = ap (entries_from 0) (sym (one_more modules i m h is)) ∙ entries_more modules i m h is in
    let whole : entries_from 0 modules ≡ (front ++ here) ++ back =
    ap (entries_from 0) (sym (parted modules i m h is)) ∙ entries-append 0 (take i modules ++ m ∷ []) (drop (i + 1) modules) ∙ ap (λ es. es ++ back) some in
    ap (λ o. or_else o (second_transfer modules)) (ap (repeated []) whole ∙ repeated-found [] (front ++ here) back name part)

pub duplicate_behind : (modules : List Module) (i : ℕ) → length modules ≤ i → repeated [] (entries_from 0 (take i modules)) ≡ None → duplicate modules ≡ second_transfer modules
unfolding duplicate
duplicate_behind modules i all none =
    let whole : repeated [] (entries_from 0 modules) ≡ None = ap (λ ms. repeated [] (entries_from 0 ms)) (sym (take_all i modules all)) ∙ none in
    ap (λ o. or_else o (second_transfer modules)) whole

pub table_behind : (names : Names) (modules : List Module) (i : ℕ) → length modules ≤ i → IsTable names (entries_from 0 (take i modules)) → IsTable names (entries_from 0 modules)
table_behind names modules i all table = let P : List Module → Type 0 = λ ms. IsTable names (entries_from 0 ms) in subst P (take_all i modules all) table

-- ---- whether a transfer address was found

pub transfers_kept : (modules : List Module) (i : ℕ) (m : Module) → i < length modules → m ≡ get_or modules i m → m.transfer ≡ None → transfers (take (i + 1) modules) ≡ transfers (take i modules)
transfers_kept modules i m h is none =
    let given : Module → Option Symbol = λ n. n.transfer in
    let here : transfers (m ∷ []) ≡ [] = rw none refl in
    ap transfers (one_more modules i m h is) ∙ filter_map-append given (take i modules) (m ∷ []) ∙ ap (λ ys. transfers (take i modules) ++ ys) here ∙ append-nil (transfers (take i modules))

pub transfers_more : (modules : List Module) (i : ℕ) (m : Module) (s : Symbol) → i < length modules → m ≡ get_or modules i m → m.transfer ≡ Some s → transfers (take (i + 1) modules) ≡ transfers (take i modules) ++ s ∷ []
transfers_more modules i m s h is begins =
    let given : Module → Option Symbol = λ n. n.transfer in
    let here : transfers (m ∷ []) ≡ s ∷ [] = rw begins refl in
    ap transfers (one_more modules i m h is) ∙ filter_map-append given (take i modules) (m ∷ []) ∙ ap (λ ys. transfers (take i modules) ++ ys) here

few_of : (found : Bool) (xs : List Symbol) → (found ≡ false → xs ≡ []) → (found ≡ true → length xs ≡ 1) → length xs ≤ 1
few_of true xs none one = omega (arith, one refl)
few_of false xs none one = omega (arith, ap length (none refl))

pub few_transfers : (found : Bool) (modules : List Module) (i : ℕ) → length modules ≤ i → (found ≡ false → transfers (take i modules) ≡ []) → (found ≡ true → length (transfers (take i modules)) ≡ 1) → length (transfers modules) ≤ 1
few_transfers found modules i all none one =
    let P : List Module → Type 0 = λ ms. length (transfers ms) ≤ 1 in subst P (take_all i modules all) (few_of found (transfers (take i modules)) none one)

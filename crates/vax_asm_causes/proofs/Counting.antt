-- How often names stand, one more at a time.
use Rattle.std.proofs.Common.{◌≡◌, ℕ, zero, suc, Bool, true, false, cond, List, [], ◌∷◌, ◌++◌, length, Option, None, Some, refl, sym, ap, ◌∙◌, ⊎_elim, arith}
use Rattle.std.specs.Prelude.{◌==◌, ◌||◌, is_some, OnOk, Result, Ok, Err}
use Rattle.std.proofs.lemmas.Bool.{cases_Bool, cond-true, cond-false}
use Rattle.std.proofs.lemmas.Bool.Decides.{nat_tests}
use Rattle.std.specs.BTreeMap.{BTreeMap}
use Rattle.std.specs.BTreeMap as tree
use Rattle.std.specs.Cmp.Lexicographic.{bytes_decides, slice_cmp}
use Rattle.std.specs.Global.{Vec}
use Rattle.std.specs.List.{filter, flat_map, list_any}
use Rattle.std.specs.Ordering.{nat_cmp}
use Rattle.std.specs.Str.{bytes_eq, str_to_ascii_lowercase}
use Rattle.vax_asm_causes.specs.Counts.{is_once, never, often_in, once_more, with_names, with_one}
use Rattle.vax_asm_causes.specs.Places.{are_same}
use Rattle.vax_asm_causes.specs.Remarks as remarks
use Rattle.vax_asm_causes.specs.declared.counts.Often.{Often}
use Rattle.vax_asm_causes.specs.declared.counts.Often.TheVariants.{Again}
use Rattle.vax_dialect.specs.declared.Dialect.{Dialect}
use Rattle.vax_asm_names.proofs.Maps.{name_updates}
use Rattle.vax_asm_names.specs.ByName.{by_name, with_entry}

abbrev Text : Type 0
Text = List ℕ

same_function : {X : Type 0} (f g : Text → X) → ((n : Text) → f n ≡ g n) → f ≡ g
same_function f g h = λ i. λ n. h n i

-- ---- one name

-- a test on an entry, and on the name's own
counted_at : (key other : Text) (before : Text → Option Often) (w : Option Often) → w ≡ once_more (before key)
    → cond (bytes_eq key other) w (before other) ≡ cond (bytes_eq key other) (once_more (before other)) (before other)
counted_at key other before w e =
    ⊎_elim
    (λ y. cond-true (bytes_eq key other) w (before other) y ∙ e ∙ ap (λ (l : Text). once_more (before l)) ((bytes_decides key other).0 y)
    ∙ sym (cond-true (bytes_eq key other) (once_more (before other)) (before other) y))
    (λ n. cond-false (bytes_eq key other) w (before other) n ∙ sym (cond-false (bytes_eq key other) (once_more (before other)) (before other) n))
    (cases_Bool (bytes_eq key other))

pub one_counted : (name key : Text) (old new : BTreeMap (Vec ℕ) Often) (often : Often) → key ≡ str_to_ascii_lowercase name → Some often ≡ once_more (by_name old key)
    → by_name new ≡ with_entry key (Some often) (by_name old) → often_in new ≡ with_one name (often_in old)
one_counted name key old new often k o e =
    same_function _ _ (λ other. ap (λ (f : Text → Option Often). f (str_to_ascii_lowercase other)) e
    ∙ counted_at key (str_to_ascii_lowercase other) (by_name old) (Some often) o
    ∙ ap (λ (l : Text). cond (bytes_eq l (str_to_ascii_lowercase other)) (once_more (by_name old (str_to_ascii_lowercase other))) (by_name old (str_to_ascii_lowercase other))) k)

pub on_counted : {A E : Type 0} (r : Result A E) (name key : Text) (old new : BTreeMap (Vec ℕ) Often) (often : Often) → key ≡ str_to_ascii_lowercase name → Some often ≡ once_more (by_name old key)
    → OnOk r (by_name new ≡ with_entry key (Some often) (by_name old)) → OnOk r (often_in new ≡ with_one name (often_in old))
on_counted (Ok x) name key old new often k o e = one_counted name key old new often k o e
on_counted (Err x) name key old new often k o e = tt

-- what a change at a key leaves
pub key_put : (key : Text) (old new : BTreeMap (Vec ℕ) Often) (w : Option Often) → tree.UpdatesBy (λ (x y : Vec ℕ). slice_cmp nat_cmp x.items y.items) (λ (k : Vec ℕ). slice_cmp nat_cmp key k.items) old new w
    → by_name new ≡ with_entry key w (by_name old)
key_put key old new w h = name_updates key old new w h

-- ---- more names

pub with_names_behind : (names more : List Text) (before : Text → Option Often) → with_names (names ++ more) before ≡ with_names more (with_names names before)
unfolding with_names
with_names_behind [] more before = refl
with_names_behind (name ∷ names) more before = with_names_behind names more (with_one name before)

-- the names of one more line, and of no more
pub line_counted : (dialect : Dialect) (line : Text) (more : List Text) (before : Text → Option Often)
    → with_names (remarks.line_names dialect line ++ flat_map (remarks.line_names dialect) more) before ≡ with_names (flat_map (remarks.line_names dialect) more) (with_names (remarks.line_names dialect line) before)
line_counted dialect line more before = with_names_behind (remarks.line_names dialect line) (flat_map (remarks.line_names dialect) more) before

-- ---- a name that stands once

-- so many times more
unfoldable times_more : ℕ → Option Often → Option Often
times_more zero before = before
times_more (suc n) before = times_more n (once_more before)

again : (n : ℕ) → times_more n (Some Again) ≡ Some Again
unfolding times_more
again zero = refl
again (suc n) = again n

not_one : (n : ℕ) → (suc (suc n) == 1) ≡ false
not_one n = grind (arith, nat_tests)

once_by : (n : ℕ) → is_once (times_more n None) ≡ (n == 1)
unfolding times_more
once_by zero = refl
once_by (suc zero) = refl
once_by (suc (suc n)) = ap is_once (again n) ∙ sym (not_one n)

abbrev is_same : (name : Text) → Text → Bool
is_same name other = are_same other name

-- a test on how often a name stands, and on the list of its places
counted_once : (b : Bool) (other : Text) (same : List Text) (before : Option Often) → times_more (length same) (cond b (once_more before) before) ≡ times_more (length (cond b (other ∷ same) same)) before
unfolding times_more
counted_once true other same before = refl
counted_once false other same before = refl

counted : (name : Text) (names : List Text) (before : Text → Option Often) → with_names names before name ≡ times_more (length (filter (is_same name) names)) (before name)
unfolding with_names times_more
counted name [] before = refl
counted name (other ∷ names) before = counted name names (with_one other before) ∙ counted_once (is_same name other) other (filter (is_same name) names) (before name)

pub stands_once : (dialect : Dialect) (source name : Text) (f : Text → Option Often) → f ≡ with_names (remarks.names_in dialect source) never → is_once (f name) ≡ remarks.stands_once dialect source name
stands_once dialect source name f e = ap (λ (g : Text → Option Often). is_once (g name)) e ∙ ap is_once (counted name (remarks.names_in dialect source) never) ∙ once_by (length (filter (is_same name) (remarks.names_in dialect source)))

-- ---- a name that stands

-- a test on one more name, and on those before
one_stands : (b : Bool) (before : Option Often) (more : Bool) → (is_some (cond b (once_more before) before) || more) ≡ (is_some before || (b || more))
one_stands true None more = refl
one_stands true (Some often) more = refl
one_stands false before more = refl

or_none : (b : Bool) → b ≡ (b || false)
or_none true = refl
or_none false = refl

stood : (name : Text) (names : List Text) (before : Text → Option Often) → is_some (with_names names before name) ≡ (is_some (before name) || list_any (is_same name) names)
unfolding with_names
stood name [] before = or_none (is_some (before name))
stood name (other ∷ names) before = stood name names (with_one other before) ∙ one_stands (is_same name other) (before name) (list_any (is_same name) names)

pub stands : (dialect : Dialect) (source : Text) (f : Text → Option Often) → f ≡ with_names (remarks.names_in dialect source) never → (λ (name : Text). is_some (f name)) ≡ remarks.stands dialect source
stands dialect source f e = λ i. λ name. (ap (λ (g : Text → Option Often). is_some (g name)) e ∙ stood name (remarks.names_in dialect source) never) i

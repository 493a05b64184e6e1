-- The rules of a schedule have no fault where they are printed and read again.
use Rattle.std.proofs.Common.{◌≡◌, ◌<◌, ◌≤◌, ℕ, ◌+◌, true, false, Bool, List, [], ◌∷◌, ◌++◌, None, length, map, take, drop, get_or, zero, suc, refl, sym, ap, ◌∙◌, arith, nat_lt, length-append, subst}
use Rattle.std.specs.List.{list_any, filter_map}
use Rattle.std.proofs.lemmas.Bool.Decides.{nat_tests}
use Rattle.std.proofs.lemmas.List.{take-map, get_or-map, length-map, take-append-drop}
use Rattle.std.proofs.lemmas.List.Folds.{list_any_none}
use Rattle.std.proofs.lemmas.List.Elements.{filter_map-append}
use Rattle.std.proofs.Math.Seq.{drop-cons}
use Rattle.vax_space.specs.declared.Area.{Area}
use Rattle.vax_sched.specs.Rules.{Reading, silent, says, readings, rules}
use Rattle.vax_sched.specs.Faults.{fault_at, is_placed, is_late, IsRead, ArePlaced}
use Rattle.vax_sched.specs.Printed.{printed}
use Rattle.vax_sched.specs.Kept.{IsKept, Ascends, fixed_in}
use Rattle.vax_sched.specs.declared.rule.Fixed.{Fixed}
use Rattle.vax_sched.specs.declared.rule.Repeated.{Repeated}
use Rattle.vax_sched.specs.declared.rule.Rule.{Rule}
use Rattle.vax_sched.specs.declared.rule.Rule.TheVariants.{At, Each}
use Rattle.vax_sched.proofs.KeptLaws.{after_fixed, is_above}
use Rattle.vax_sched.proofs.PrintLaws.{readings-printed}
use Rattle.vax_sched.proofs.ReadLaws.{verdict}

rules-says : (rs : List Rule) → rules (map says rs) ≡ rs
rules-says [] = refl
rules-says (r ∷ rs) = ap (λ l. r ∷ l) (rules-says rs)

some : {A : Type 0} (x : A) (xs : List A) → length (x ∷ xs) ≡ suc (length xs)
some x xs = grind arith

in_front : {A : Type 0} (xs ys : List A) (i : ℕ) (d : A) → i < length xs → get_or (xs ++ ys) i d ≡ get_or xs i d
in_front [] ys i d l = absurd (omega arith)
in_front (x ∷ xs) ys zero d l = refl
in_front (x ∷ xs) ys (suc i) d l = in_front xs ys i d (omega (arith, some x xs))

at_middle : {A : Type 0} (xs : List A) (y : A) (ys : List A) (d : A) → get_or (xs ++ y ∷ ys) (length xs) d ≡ y
at_middle [] y ys d = refl
at_middle (x ∷ xs) y ys d = ap (λ k. get_or (x ∷ (xs ++ y ∷ ys)) k d) (some x xs) ∙ at_middle xs y ys d

low : (a b : ℕ) → b ≤ a → nat_lt a b ≡ false
low a b l = grind (arith, nat_tests)

-- what stands before a rule is not above it
none_above : (xs ys : List Fixed) (r : Fixed) → Ascends (xs ++ r ∷ ys) → list_any (is_above r.turn) xs ≡ false
none_above xs ys r up =
    list_any_none (is_above r.turn) xs (λ k d l.
    let le : (get_or (xs ++ r ∷ ys) k d).turn ≤ (get_or (xs ++ r ∷ ys) (length xs) d).turn = up k (length xs) d (omega arith) (omega (arith, length-append xs (r ∷ ys), some r ys)) in
    let here : (get_or (xs ++ r ∷ ys) (length xs) d).turn ≡ r.turn = ap (λ x. x.turn) (at_middle xs r ys d) in
    let there : (get_or (xs ++ r ∷ ys) k d).turn ≡ (get_or xs k d).turn = ap (λ x. x.turn) (in_front xs (r ∷ ys) k d l) in
    low r.turn (get_or xs k d).turn (omega arith))

not_late : (front behind : List Rule) (rule : Rule) (fixed : List Fixed) → fixed ≡ filter_map fixed_in (front ++ rule ∷ behind) → Ascends fixed → is_late front rule ≡ false
not_late front behind (At r) fixed e up =
    let split : fixed ≡ filter_map fixed_in front ++ r ∷ filter_map fixed_in behind = e ∙ filter_map-append fixed_in front (At r ∷ behind) in
    let P : List Fixed → Type 0 = λ l. Ascends l in
    after_fixed r.turn front ∙ none_above (filter_map fixed_in front) (filter_map fixed_in behind) r (subst P split up)
not_late front behind (Each r) fixed e up = refl

passes : (a b : Bool) → a ≡ true → b ≡ false → verdict a b ≡ None
passes a b e f = rw (e, f) refl

-- no printed rule has a fault
no_fault : (areas : List Area) (rs : List Rule) (fixed : List Fixed) (repeated : List Repeated) → IsKept rs fixed repeated → ArePlaced areas rs → (k : ℕ) → k < length rs → fault_at areas (map says rs) k ≡ None
no_fault areas [] fixed repeated kept placed k l = absurd (omega arith)
no_fault areas (r ∷ rs) fixed repeated kept placed k l =
    let all = r ∷ rs in
    let here : get_or (map says all) k silent ≡ says (get_or all k r) = get_or-map says all k r silent l in
    let before : rules (take k (map says all)) ≡ take k all = ap rules (take-map says k all) ∙ rules-says (take k all) in
    let split : all ≡ take k all ++ get_or all k r ∷ drop (suc k) all = sym (take-append-drop k all) ∙ ap (λ d. take k all ++ d) (drop-cons all k r l) in
    let late : is_late (take k all) (get_or all k r) ≡ false = not_late (take k all) (drop (suc k) all) (get_or all k r) fixed (kept.fixed_are ∙ ap (filter_map fixed_in) split) kept.ordered in
    rw (here, before) (passes (is_placed areas (get_or all k r)) (is_late (take k all) (get_or all k r)) (placed k r l) late)

-- read again, a printed schedule is the same
pub same-printed : (areas : List Area) (text : List ℕ) (rs : List Rule) (fixed : List Fixed) (repeated : List Repeated) → IsKept rs fixed repeated → ArePlaced areas rs → text ≡ printed rs → IsRead areas (readings text) rs
same-printed areas text rs fixed repeated kept placed e =
    let lines_are : readings text ≡ map says rs = ap readings e ∙ readings-printed rs kept.proper in
    let P : List Reading → Type 0 = λ read. IsRead areas read rs in
    subst P (sym lines_are) (record {
      sound = λ j l. no_fault areas rs fixed repeated kept placed j (omega (arith, length-map rs says));
      rules_are = sym (rules-says rs);
    })

-- the same where the lists are equal
pub same-text : (areas : List Area) (text : List ℕ) (now rs shown : List Rule) (fixed : List Fixed) (repeated : List Repeated) → IsKept rs fixed repeated → now ≡ rs → shown ≡ rs → text ≡ printed shown → ArePlaced areas now → IsRead areas (readings text) now
same-text areas text now rs shown fixed repeated kept n s e placed =
    let P : List Rule → Type 0 = λ l. ArePlaced areas l in
    let Q : List Rule → Type 0 = λ l. IsRead areas (readings text) l in
    subst Q (sym n) (same-printed areas text rs fixed repeated kept (subst P n placed) (e ∙ ap printed s))

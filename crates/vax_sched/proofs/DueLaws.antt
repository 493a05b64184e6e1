-- What a turn takes of a schedule, by its two kinds of lines.
use Rattle.std.proofs.Common.{◌≡◌, ◌<◌, ◌≤◌, ℕ, ◌+◌, ◌-◌, ◌%◌, ◌^◌, ◌==◌, Bool, true, false, List, [], ◌∷◌, ◌++◌, map, length, take, drop, get_or, min, zero, suc, Option, Some, None, refl, sym, ap, ◌∙◌, arith, length-append, nat_lt, nat_le, subst}
use Rattle.std.proofs.lemmas.Bool.Decides.{nat_tests}
use Rattle.std.proofs.lemmas.List.{length-map, length-drop, get_or-drop}
use Rattle.std.specs.List.{filter, filter_map}
use Rattle.std.specs.Prelude.{slice_get}
use Rattle.std.specs.List.Sorted.{IsPartitionPoint}
use Rattle.vax_sched.specs.Due.{IsGap, due, fixed_now, fixed_target, repeated_now, repeated_target, targets_of}
use Rattle.vax_sched.specs.Kept.{IsKept, fixed_in, repeated_in, Ascends}
use Rattle.vax_sched.specs.declared.rule.Target.{Target}
use Rattle.vax_sched.specs.declared.rule.Target.TheVariants.{Page}
use Rattle.vax_sched.specs.declared.rule.Fixed.{Fixed}
use Rattle.vax_sched.specs.declared.rule.Repeated.{Repeated}
use Rattle.vax_sched.specs.declared.rule.Rule.{Rule}
use Rattle.vax_sched.specs.declared.rule.Rule.TheVariants.{At, Each}

-- the targets of the `at` lines for a turn, and of the `each` lines
abbrev pub fixed_targets : ℕ → List Fixed → List Target
fixed_targets t fixed = map (λ rule. Page rule.page) (fixed_now t fixed)

abbrev pub repeated_targets : ℕ → List Repeated → List Target
repeated_targets t repeated = map (λ rule. rule.target) (repeated_now t repeated)

fixed_step : (t : ℕ) (r : Fixed) (rs : List Rule) (b : Bool) → (r.turn == t) ≡ b → filter_map (fixed_target t) rs ≡ fixed_targets t (filter_map fixed_in rs) → filter_map (fixed_target t) (At r ∷ rs) ≡ fixed_targets t (filter_map fixed_in (At r ∷ rs))
fixed_step t r rs true e ih = rw e (ap (λ xs. Page r.page ∷ xs) ih)
fixed_step t r rs false e ih = rw e ih

fixed_are : (t : ℕ) (rs : List Rule) → filter_map (fixed_target t) rs ≡ fixed_targets t (filter_map fixed_in rs)
fixed_are t [] = refl
fixed_are t (At r ∷ rs) = fixed_step t r rs (r.turn == t) refl (fixed_are t rs)
fixed_are t (Each r ∷ rs) = fixed_are t rs

repeated_step : (t : ℕ) (r : Repeated) (rs : List Rule) (b : Bool) → (t % r.turns == 0) ≡ b → filter_map (repeated_target t) rs ≡ repeated_targets t (filter_map repeated_in rs) → filter_map (repeated_target t) (Each r ∷ rs) ≡ repeated_targets t (filter_map repeated_in (Each r ∷ rs))
repeated_step t r rs true e ih = rw e (ap (λ xs. r.target ∷ xs) ih)
repeated_step t r rs false e ih = rw e ih

repeated_are : (t : ℕ) (rs : List Rule) → filter_map (repeated_target t) rs ≡ repeated_targets t (filter_map repeated_in rs)
repeated_are t [] = refl
repeated_are t (At r ∷ rs) = repeated_are t rs
repeated_are t (Each r ∷ rs) = repeated_step t r rs (t % r.turns == 0) refl (repeated_are t rs)

-- the list of a turn, by what a schedule keeps
pub due-kept : (rs : List Rule) (fixed : List Fixed) (repeated : List Repeated) (t : ℕ) → IsKept rs fixed repeated → due rs t ≡ fixed_targets t fixed ++ repeated_targets t repeated
unfolding due
due-kept rs fixed repeated t kept = rw (kept.fixed_are, kept.repeated_are, fixed_are t rs, repeated_are t rs) refl

some : {A : Type 0} (x : A) (xs : List A) → length (x ∷ xs) ≡ suc (length xs)
some x xs = grind arith

-- the place of a target in a list of two parts
pub get_first : (xs ys : List Target) (i : ℕ) (x : Target) → slice_get xs i ≡ Some x → slice_get (xs ++ ys) i ≡ Some x
get_first [] ys i x e = cc
get_first (a ∷ xs) ys zero x e = e
get_first (a ∷ xs) ys (suc i) x e = get_first xs ys i x e

pub get_second : (xs ys : List Target) (i : ℕ) → length xs ≤ i → slice_get (xs ++ ys) i ≡ slice_get ys (i - length xs)
get_second [] ys i l = ap (slice_get ys) (omega arith)
get_second (a ∷ xs) ys zero l = absurd (omega (arith, some a xs))
get_second (a ∷ xs) ys (suc i) l = get_second xs ys i (omega (arith, some a xs)) ∙ ap (slice_get ys) (omega (arith, some a xs))

-- how many are due
count_due : (rs : List Rule) (fixed : List Fixed) (repeated : List Repeated) (t : ℕ) → IsKept rs fixed repeated → length (due rs t) ≡ length (fixed_now t fixed) + length (repeated_now t repeated)
count_due rs fixed repeated t kept =
    rw (due-kept rs fixed repeated t kept) (length-append (fixed_targets t fixed) (repeated_targets t repeated) ∙ rw (length-map (fixed_now t fixed) (λ rule. Page rule.page), length-map (repeated_now t repeated) (λ rule. rule.target)) refl)

both_next : (rs : List Rule) (fixed : List Fixed) (repeated : List Repeated) (turn a b : ℕ) (c : Bool) → nat_le a b ≡ c → IsKept rs fixed repeated → IsGap (λ t. fixed_now t fixed) turn a → IsGap (λ t. repeated_now t repeated) turn b → turn + min a b + 1 < 2 ^ 64 → 0 < length (due rs (turn + min a b))
both_next rs fixed repeated turn a b true e kept f r l =
    let least : min a b ≡ a = grind (arith, nat_tests) in
    let here : 0 < length (fixed_now (turn + a) fixed) = f.next (omega arith) in
    rw least (omega (arith, count_due rs fixed repeated (turn + a) kept))
both_next rs fixed repeated turn a b false e kept f r l =
    let least : min a b ≡ b = grind (arith, nat_tests) in
    let here : 0 < length (repeated_now (turn + b) repeated) = r.next (omega arith) in
    rw least (omega (arith, count_due rs fixed repeated (turn + b) kept))

-- a gap of the lines of both kinds
pub gap_both : (rs : List Rule) (fixed : List Fixed) (repeated : List Repeated) (turn a b : ℕ) → IsKept rs fixed repeated → IsGap (λ t. fixed_now t fixed) turn a → IsGap (λ t. repeated_now t repeated) turn b → IsGap (due rs) turn (min a b)
gap_both rs fixed repeated turn a b kept f r = record {
  quiet = λ k l. rw (due-kept rs fixed repeated (turn + k) kept, f.quiet k (omega arith), r.quiet k (omega arith)) refl;
  next = λ l. both_next rs fixed repeated turn a b (nat_le a b) refl kept f r l;
}

filter_none : {A : Type 0} (p : A → Bool) (xs : List A) → ((k : ℕ) (d : A) → k < length xs → p (get_or xs k d) ≡ false) → filter p xs ≡ []
filter_none p [] h = refl
filter_none p (x ∷ xs) h =
    let here : p x ≡ false = h 0 x (omega (arith, some x xs)) in
    rw here (filter_none p xs (λ k d l. h (suc k) d (omega (arith, some x xs))))

filter_all : {A : Type 0} (p : A → Bool) (xs : List A) → ((k : ℕ) (d : A) → k < length xs → p (get_or xs k d) ≡ true) → filter p xs ≡ xs
filter_all p [] h = refl
filter_all p (x ∷ xs) h =
    let here : p x ≡ true = h 0 x (omega (arith, some x xs)) in
    rw here (ap (λ ys. x ∷ ys) (filter_all p xs (λ k d l. h (suc k) d (omega (arith, some x xs)))))

-- what passes stands behind what doesn't
filter_behind : {A : Type 0} (p : A → Bool) (xs : List A) (i : ℕ) → ((k : ℕ) (d : A) → k < i → p (get_or xs k d) ≡ false) → filter p xs ≡ filter p (drop i xs)
filter_behind p xs zero h = refl
filter_behind p [] (suc i) h = refl
filter_behind p (x ∷ xs) (suc i) h =
    let here : p x ≡ false = h 0 x (omega arith) in
    rw here (filter_behind p xs i (λ k d l. h (suc k) d (omega arith)))

-- what passes stands before what doesn't
filter_before : {A : Type 0} (p : A → Bool) (xs : List A) (n : ℕ) → ((k : ℕ) (d : A) → k < n → k < length xs → p (get_or xs k d) ≡ true) → ((k : ℕ) (d : A) → n ≤ k → k < length xs → p (get_or xs k d) ≡ false) → filter p xs ≡ take n xs
filter_before p [] zero h g = refl
filter_before p [] (suc n) h g = refl
filter_before p (x ∷ xs) zero h g = filter_none p (x ∷ xs) (λ k d l. g k d (omega arith) l)
filter_before p (x ∷ xs) (suc n) h g =
    let here : p x ≡ true = h 0 x (omega arith) (omega (arith, some x xs)) in
    rw here (ap (λ ys. x ∷ ys) (filter_before p xs n (λ k d l m. h (suc k) d (omega arith) (omega (arith, some x xs))) (λ k d l m. g (suc k) d (omega arith) (omega (arith, some x xs)))))

unlike : (a b : ℕ) → a < b → (a == b) ≡ false
unlike a b l = grind (arith, nat_tests)

unlike_above : (a b : ℕ) → b < a → (a == b) ≡ false
unlike_above a b l = grind (arith, nat_tests)

alike : (a b : ℕ) → a ≤ b → b ≤ a → (a == b) ≡ true
alike a b l m = grind (arith, nat_tests)

from_drop : (xs : List Fixed) (i k : ℕ) (d : Fixed) (t : ℕ) → ((k : ℕ) (d : Fixed) → i ≤ k → k < length xs → t ≤ (get_or xs k d).turn) → k < length (drop i xs) → t ≤ (get_or (drop i xs) k d).turn
from_drop xs i k d t from l = rw (get_or-drop i xs k d) (from (i + k) d (omega arith) (omega (arith, length-drop i xs)))

-- the rules for a turn stand together
pub fixed_window : (xs : List Fixed) (t i n : ℕ) → IsPartitionPoint (λ rule. rule.turn < t) (λ rule. t ≤ rule.turn) xs i → IsPartitionPoint (λ rule. rule.turn ≤ t) (λ rule. t < rule.turn) (drop i xs) n → take n (drop i xs) ≡ fixed_now t xs
fixed_window xs t i n first second =
    let front : fixed_now t xs ≡ fixed_now t (drop i xs) = filter_behind (λ rule. rule.turn == t) xs i (λ k d l. unlike (get_or xs k d).turn t (first.0 k d (omega arith) l)) in
    let back : fixed_now t (drop i xs) ≡ take n (drop i xs) =
    filter_before (λ rule. rule.turn == t) (drop i xs) n
    (λ k d l m. alike (get_or (drop i xs) k d).turn t (second.0 k d (omega arith) l) (from_drop xs i k d t first.1 m))
    (λ k d l m. unlike_above (get_or (drop i xs) k d).turn t (second.1 k d l m)) in
    sym (front ∙ back)

is_below : (a b : ℕ) → nat_lt a b ≡ true → a < b
is_below a b e = grind (arith, nat_tests)

is_from : (a b : ℕ) → nat_lt a b ≡ false → b ≤ a
is_from a b e = grind (arith, nat_tests)

is_up_to : (a b : ℕ) → nat_le a b ≡ true → a ≤ b
is_up_to a b e = grind (arith, nat_tests)

is_past : (a b : ℕ) → nat_le a b ≡ false → b < a
is_past a b e = grind (arith, nat_tests)

pub split_below : (xs : List Fixed) (t i : ℕ) → IsPartitionPoint (λ y. nat_lt y.turn t ≡ true) (λ y. nat_lt y.turn t ≡ false) xs i → IsPartitionPoint (λ y. y.turn < t) (λ y. t ≤ y.turn) xs i
split_below xs t i p = (λ k d a b. is_below (get_or xs k d).turn t (p.0 k d a b), λ k d a b. is_from (get_or xs k d).turn t (p.1 k d a b))

pub split_to : (xs : List Fixed) (t i : ℕ) → IsPartitionPoint (λ y. nat_le y.turn t ≡ true) (λ y. nat_le y.turn t ≡ false) xs i → IsPartitionPoint (λ y. y.turn ≤ t) (λ y. t < y.turn) xs i
split_to xs t i p = (λ k d a b. is_up_to (get_or xs k d).turn t (p.0 k d a b), λ k d a b. is_past (get_or xs k d).turn t (p.1 k d a b))

more_some : {A : Type 0} (p : A → Bool) (x : A) (xs : List A) (b : Bool) → p x ≡ b → 0 < length (filter p xs) → 0 < length (filter p (x ∷ xs))
more_some p x xs true e l = rw e (omega (arith, some x (filter p xs)))
more_some p x xs false e l = rw e l

filter_some : {A : Type 0} (p : A → Bool) (xs : List A) (i : ℕ) (d : A) → i < length xs → p (get_or xs i d) ≡ true → 0 < length (filter p xs)
filter_some p [] i d l e = absurd (omega arith)
filter_some p (x ∷ xs) zero d l e = rw e (omega (arith, some x (filter p xs)))
filter_some p (x ∷ xs) (suc i) d l e = more_some p x xs (p x) refl (filter_some p xs i d (omega (arith, some x xs)) e)

same_item : (xs : List Fixed) (i : ℕ) (d e : Fixed) → i < length xs → get_or xs i d ≡ get_or xs i e
same_item [] i d e l = absurd (omega arith)
same_item (x ∷ xs) zero d e l = refl
same_item (x ∷ xs) (suc i) d e l = same_item xs i d e (omega (arith, some x xs))

by_side : (xs : List Fixed) (t i : ℕ) (d : Fixed) → Ascends xs → IsPartitionPoint (λ rule. rule.turn < t) (λ rule. t ≤ rule.turn) xs i → (j : ℕ) (e : Fixed) (k : ℕ) (b : Bool) → nat_lt j i ≡ b → j < length xs → i < length xs → k < (get_or xs i d).turn - t → ((get_or xs j e).turn == t + k) ≡ false
by_side xs t i d up p j e k true f m l h =
    let before : (get_or xs j e).turn < t = p.0 j e (omega arith) (is_below j i f) in
    unlike (get_or xs j e).turn (t + k) (omega arith)
by_side xs t i d up p j e k false f m l h =
    let after : (get_or xs i e).turn ≤ (get_or xs j e).turn = up i j e (is_from j i f) m in
    let same : (get_or xs i d).turn ≡ (get_or xs i e).turn = ap (λ rule. rule.turn) (same_item xs i d e l) in
    unlike_above (get_or xs j e).turn (t + k) (omega arith)

-- no rule is for a turn of the gap
not_there : (xs : List Fixed) (t i : ℕ) (d : Fixed) → Ascends xs → IsPartitionPoint (λ rule. rule.turn < t) (λ rule. t ≤ rule.turn) xs i → (j : ℕ) (e : Fixed) (k : ℕ) → j < length xs → i < length xs → k < (get_or xs i d).turn - t → ((get_or xs j e).turn == t + k) ≡ false
not_there xs t i d up p j e k m l h = by_side xs t i d up p j e k (nat_lt j i) refl m l h

behind_all : (a t k : ℕ) → a < t → a < t + k
behind_all a t k l = omega arith

-- nothing is asked before the first rule that is not for an earlier turn
pub gap_at : (xs : List Fixed) (t i : ℕ) (d : Fixed) → Ascends xs → IsPartitionPoint (λ rule. rule.turn < t) (λ rule. t ≤ rule.turn) xs i → i < length xs → IsGap (λ u. fixed_now u xs) t ((get_or xs i d).turn - t)
gap_at xs t i d up p l =
    let next_turn = (get_or xs i d).turn in
    let from : t ≤ next_turn = p.1 i d (omega arith) l in
    record {
      quiet = λ k h. filter_none (λ rule. rule.turn == t + k) xs (λ j e m. not_there xs t i d up p j e k m l h);
      next = λ h.
          let at : t + (next_turn - t) ≡ next_turn = omega arith in
          let here : (next_turn == t + (next_turn - t)) ≡ true = alike next_turn (t + (next_turn - t)) (omega arith) (omega arith) in
          filter_some (λ rule. rule.turn == t + (next_turn - t)) xs i d l here;
    }

-- nothing is asked of any later turn
pub gap_none : (xs : List Fixed) (t i : ℕ) → IsPartitionPoint (λ rule. rule.turn < t) (λ rule. t ≤ rule.turn) xs i → length xs ≤ i → IsGap (λ u. fixed_now u xs) t (2 ^ 64 - 1 - t)
gap_none xs t i p l = record {
  quiet = λ k h. filter_none (λ rule. rule.turn == t + k) xs (λ j e m. unlike (get_or xs j e).turn (t + k) (behind_all (get_or xs j e).turn t k (p.0 j e (omega arith) (omega arith))));
  next = λ h. absurd (omega arith);
}

pub gap_next : (xs : List Fixed) (t i : ℕ) (r : Fixed) → Ascends xs → IsPartitionPoint (λ rule. rule.turn < t) (λ rule. t ≤ rule.turn) xs i → i < length xs → r ≡ get_or xs i r → IsGap (λ u. fixed_now u xs) t (r.turn - t)
gap_next xs t i r up p l e =
    let P : Fixed → Type 0 = λ y. IsGap (λ u. fixed_now u xs) t (y.turn - t) in
    subst P (sym e) (gap_at xs t i r up p l)

pub rules_for : (xs rest out : List Fixed) (t i n : ℕ) → rest ≡ drop i xs → out ≡ take n rest → IsPartitionPoint (λ rule. rule.turn < t) (λ rule. t ≤ rule.turn) xs i → IsPartitionPoint (λ rule. rule.turn ≤ t) (λ rule. t < rule.turn) rest n → out ≡ fixed_now t xs
rules_for xs rest out t i n e f first second =
    let P : List Fixed → Type 0 = λ l. IsPartitionPoint (λ rule. rule.turn ≤ t) (λ rule. t < rule.turn) l n in
    f ∙ ap (take n) e ∙ fixed_window xs t i n first (subst P e second)

map_get : {A B : Type 0} (f : A → B) (xs : List A) (i : ℕ) (d : A) → i < length xs → slice_get (map f xs) i ≡ Some (f (get_or xs i d))
map_get f [] i d l = absurd (omega arith)
map_get f (x ∷ xs) zero d l = refl
map_get f (x ∷ xs) (suc i) d l = map_get f xs i d (omega (arith, some x xs))

-- a target among the `at` lines
pub due_first : (now rs : List Rule) (fixed fs ns : List Fixed) (repeated : List Repeated) (t i : ℕ) (d : Fixed) → IsKept rs fixed repeated → now ≡ rs → fs ≡ fixed → ns ≡ fixed_now t fs → i < length ns → Some (Page (get_or ns i d).page) ≡ slice_get (due now t) i
due_first now rs fixed fs ns repeated t i d kept n f s l =
    let is : ns ≡ fixed_now t fixed = s ∙ ap (fixed_now t) f in
    let here : slice_get (fixed_targets t fixed) i ≡ Some (Page (get_or (fixed_now t fixed) i d).page) =
    map_get (λ rule. Page rule.page) (fixed_now t fixed) i d (omega (arith, ap length is)) in
    ap (λ l. Some (Page (get_or l i d).page)) is
    ∙ sym (get_first (fixed_targets t fixed) (repeated_targets t repeated) i (Page (get_or (fixed_now t fixed) i d).page) here)
    ∙ ap (λ l. slice_get l i) (sym (due-kept rs fixed repeated t kept))
    ∙ ap (λ l. slice_get (due l t) i) (sym n)

pub due_at : (now rs : List Rule) (fixed fs ns : List Fixed) (repeated : List Repeated) (t i : ℕ) (r : Fixed) → IsKept rs fixed repeated → now ≡ rs → fs ≡ fixed → ns ≡ fixed_now t fs → i < length ns → r ≡ get_or ns i r → Some (Page r.page) ≡ slice_get (due now t) i
due_at now rs fixed fs ns repeated t i r kept n f s l e =
    ap (λ y. Some (Page y.page)) e ∙ due_first now rs fixed fs ns repeated t i r kept n f s l

-- a target among the `each` lines
pub due_second : (now rs : List Rule) (fixed fs ns : List Fixed) (repeated ps : List Repeated) (t i : ℕ) (r : Option Target) → IsKept rs fixed repeated → now ≡ rs → fs ≡ fixed → ns ≡ fixed_now t fs → ps ≡ repeated → length ns ≤ i → r ≡ slice_get (repeated_targets t ps) (i - length ns) → r ≡ slice_get (due now t) i
due_second now rs fixed fs ns repeated ps t i r kept n f s p l e =
    let is : ns ≡ fixed_now t fixed = s ∙ ap (fixed_now t) f in
    let count : length ns ≡ length (fixed_targets t fixed) = ap length is ∙ sym (length-map (fixed_now t fixed) (λ rule. Page rule.page)) in
    e ∙ ap (λ l. slice_get (repeated_targets t l) (i - length ns)) p
    ∙ ap (λ m. slice_get (repeated_targets t repeated) (i - m)) count
    ∙ sym (get_second (fixed_targets t fixed) (repeated_targets t repeated) i (omega (arith, count)))
    ∙ ap (λ l. slice_get l i) (sym (due-kept rs fixed repeated t kept))
    ∙ ap (λ l. slice_get (due l t) i) (sym n)

-- all targets, the lines for the turn first
pub due_all : (now rs : List Rule) (fixed fs ns : List Fixed) (repeated ps : List Repeated) (t : ℕ) (all : List Target) → IsKept rs fixed repeated → now ≡ rs → fs ≡ fixed → ns ≡ fixed_now t fs → ps ≡ repeated → all ≡ targets_of t ns ps → all ≡ due now t
due_all now rs fixed fs ns repeated ps t all kept n f s p e =
    e ∙ ap (λ l. map (λ rule. Page rule.page) l ++ repeated_targets t ps) (s ∙ ap (fixed_now t) f)
    ∙ ap (λ l. fixed_targets t fixed ++ repeated_targets t l) p
    ∙ sym (due-kept rs fixed repeated t kept)
    ∙ ap (λ l. due l t) (sym n)

-- a gap of both kinds where the lists are equal
pub gap_of : (now rs : List Rule) (fixed fs : List Fixed) (repeated ps : List Repeated) (turn a b g : ℕ) → IsKept rs fixed repeated → now ≡ rs → fs ≡ fixed → ps ≡ repeated → IsGap (λ t. fixed_now t fs) turn a → IsGap (λ t. repeated_now t ps) turn b → g ≡ min a b → IsGap (due now) turn g
gap_of now rs fixed fs repeated ps turn a b g kept n f p x y m =
    let P : List Fixed → Type 0 = λ l. IsGap (λ t. fixed_now t l) turn a in
    let Q : List Repeated → Type 0 = λ l. IsGap (λ t. repeated_now t l) turn b in
    let R : List Rule → Type 0 = λ l. IsGap (due l) turn g in
    let S : ℕ → Type 0 = λ k. IsGap (due rs) turn k in
    subst R (sym n) (subst S (sym m) (gap_both rs fixed repeated turn a b kept (subst P f x) (subst Q p y)))

-- the list of a turn has no more targets than twice the lines

picked_next : {X Y : Type 0} (h : X → Option Y) (x : X) (xs : List X) (o : Option Y) → h x ≡ o → length (filter_map h xs) ≤ length xs → length (filter_map h (x ∷ xs)) ≤ length (x ∷ xs)
picked_next h x xs (Some y) e few = rw e (omega (arith, few))
picked_next h x xs None e few = rw e (omega (arith, few))

pub picked : {X Y : Type 0} (h : X → Option Y) (xs : List X) → length (filter_map h xs) ≤ length xs
picked h [] = omega arith
picked h (x ∷ xs) = picked_next h x xs (h x) refl (picked h xs)

pub due_few : (now rs : List Rule) (fixed : List Fixed) (repeated : List Repeated) (turn : ℕ) → IsKept rs fixed repeated → now ≡ rs → length (due now turn) < 2 ^ 32
unfolding due
due_few now rs fixed repeated turn kept n =
    let a = picked (fixed_target turn) rs in
    let b = picked (repeated_target turn) rs in
    let most = kept.few in
    rw (n, length-append (filter_map (fixed_target turn) rs) (filter_map (repeated_target turn) rs)) (omega (arith, a, b, most))

-- What a schedule keeps after one more line.
use Rattle.std.proofs.Common.{◌≡◌, ◌<◌, ◌≤◌, ℕ, ◌+◌, ◌-◌, true, false, Bool, ◌||◌, ◌&&◌, List, [], ◌∷◌, ◌++◌, Some, None, length, length-append, get_or, zero, suc, refl, sym, ap, ◌∙◌, arith, nat_lt, nat_le, ◌^◌, subst}
use Rattle.std.specs.Prelude.{slice_get}
use Rattle.std.specs.List.{filter_map, list_all, list_any}
use Rattle.std.proofs.lemmas.Bool.Decides.{nat_tests}
use Rattle.std.proofs.lemmas.List.{append-nil}
use Rattle.std.proofs.lemmas.List.Elements.{filter_map-append}
use Rattle.std.proofs.lemmas.List.Folds.{list_all-append, list_any_at, list_any_none}
use Rattle.std.proofs.lemmas.List.Sorted.{IsNonDecreasingBy-push, IsNonDecreasingBy-short}
use Rattle.vax_sched.specs.Faults.{is_after, is_late}
use Rattle.vax_sched.specs.Kept.{IsKept, Ascends, fixed_in, repeated_in, is_proper, is_page, is_divisor, is_proper_reading, is_late_reading}
use Rattle.vax_sched.specs.Views.{reading}
use Rattle.vax_sched.specs.declared.line.Line.{Line}
use Rattle.vax_sched.specs.declared.line.Line.TheVariants.{Rule as Says}
use Rattle.vax_sched.specs.declared.rule.Fixed.{Fixed}
use Rattle.vax_sched.specs.declared.rule.Repeated.{Repeated}
use Rattle.vax_sched.specs.declared.rule.Rule.{Rule}
use Rattle.vax_sched.specs.declared.rule.Rule.TheVariants.{At, Each}

some : {A : Type 0} (x : A) (xs : List A) → length (x ∷ xs) ≡ suc (length xs)
some x xs = grind arith

pub kept_nothing : IsKept [] [] []
kept_nothing = record { fixed_are = refl; repeated_are = refl; proper = refl; ordered = IsNonDecreasingBy-short (λ r. r.turn) [] (omega arith); few = omega arith }

-- an `at` line with a greater turn than this
abbrev pub is_above : ℕ → Fixed → Bool
is_above t rule = nat_lt t rule.turn

pub after_fixed : (t : ℕ) (rs : List Rule) → list_any (is_after t) rs ≡ list_any (is_above t) (filter_map fixed_in rs)
after_fixed t [] = refl
after_fixed t (At r ∷ rs) = ap (λ b. nat_lt t r.turn || b) (after_fixed t rs)
after_fixed t (Each r ∷ rs) = after_fixed t rs

true≢false : {A : Type 0} (b : Bool) → b ≡ true → b ≡ false → A
true≢false b e f = absurd (cc)

not_above : (t : ℕ) (fixed : List Fixed) (i : ℕ) (d : Fixed) (b : Bool) → nat_lt t (get_or fixed i d).turn ≡ b → i < length fixed → list_any (is_above t) fixed ≡ false → (get_or fixed i d).turn ≤ t
not_above t fixed i d true e l none = true≢false _ (list_any_at (is_above t) fixed i d l e) none
not_above t fixed i d false e l none = grind (arith, nat_tests)

appended : (rs : List Rule) (rule : Rule) → is_proper rule ≡ true → list_all is_proper rs ≡ true → list_all is_proper (rs ++ rule ∷ []) ≡ true
appended rs rule p all = rw (list_all-append is_proper rs (rule ∷ []), all, p) refl

one_more : (rs : List Rule) (rule : Rule) → length rs + 1 < 2 ^ 31 → length (rs ++ rule ∷ []) < 2 ^ 31
one_more rs rule few = omega (arith, length-append rs (rule ∷ []), few)

pub kept_at : (rs : List Rule) (fixed : List Fixed) (repeated : List Repeated) (r : Fixed) → IsKept rs fixed repeated → is_proper (At r) ≡ true → is_late rs (At r) ≡ false → length rs + 1 < 2 ^ 31 → IsKept (rs ++ At r ∷ []) (fixed ++ r ∷ []) repeated
kept_at rs fixed repeated r kept p late few =
    let none : list_any (is_above r.turn) fixed ≡ false = ap (list_any (is_above r.turn)) kept.fixed_are ∙ sym (after_fixed r.turn rs) ∙ late in
    record {
      fixed_are = ap (λ xs. xs ++ r ∷ []) kept.fixed_are ∙ sym (filter_map-append fixed_in rs (At r ∷ []));
      repeated_are = kept.repeated_are ∙ sym (filter_map-append repeated_in rs (At r ∷ []) ∙ append-nil (filter_map repeated_in rs));
      proper = appended rs (At r) p kept.proper;
      ordered = IsNonDecreasingBy-push (λ x. x.turn) fixed r kept.ordered (λ d l. not_above r.turn fixed (length fixed - 1) d (nat_lt r.turn (get_or fixed (length fixed - 1) d).turn) refl (omega arith) none);
      few = one_more rs (At r) few;
    }

pub kept_each : (rs : List Rule) (fixed : List Fixed) (repeated : List Repeated) (r : Repeated) → IsKept rs fixed repeated → is_proper (Each r) ≡ true → length rs + 1 < 2 ^ 31 → IsKept (rs ++ Each r ∷ []) fixed (repeated ++ r ∷ [])
kept_each rs fixed repeated r kept p few = record {
  fixed_are = kept.fixed_are ∙ sym (filter_map-append fixed_in rs (Each r ∷ []) ∙ append-nil (filter_map fixed_in rs));
  repeated_are = ap (λ xs. xs ++ r ∷ []) kept.repeated_are ∙ sym (filter_map-append repeated_in rs (Each r ∷ []));
  proper = appended rs (Each r) p kept.proper;
  ordered = kept.ordered;
  few = one_more rs (Each r) few;
}

got : {A : Type 0} (xs : List A) (i : ℕ) (x d : A) → slice_get xs i ≡ Some x → (get_or xs i d ≡ x) × (i < length xs)
got [] i x d e = absurd (cc)
got (y ∷ ys) zero x d e = (cc, omega (arith, some y ys))
got (y ∷ ys) (suc i) x d e = let h = got ys i x d e in (h.0, omega (arith, h.1, some y ys))

never : {A : Type 0} (x : A) (xs : List A) (i : ℕ) → i < length (x ∷ xs) → slice_get (x ∷ xs) i ≡ None → ⊥
never {A} x xs zero l e = cc
never {A} x [] (suc i) l e =
    let nothing : List A = [] in
    omega (arith, some x nothing)
never {A} x (y ∷ ys) (suc i) l e = never y ys i (omega (arith, some x (y ∷ ys))) e

both_true : (a b : Bool) → (a && b) ≡ true → (a ≡ true) × (b ≡ true)
both_true true true e = (refl, refl)
both_true true false e = absurd (cc)
both_true false b e = absurd (cc)

any_default : {A : Type 0} (xs : List A) (i : ℕ) (d e : A) → i < length xs → get_or xs i d ≡ get_or xs i e
any_default [] i d e l = absurd (omega arith)
any_default (x ∷ xs) zero d e l = refl
any_default (x ∷ xs) (suc i) d e l = any_default xs i d e (omega (arith, some x xs))

none_above : (t : ℕ) (fixed : List Fixed) (last : Fixed) (k : ℕ) (d : Fixed) → get_or fixed (length fixed - 1) last ≡ last → length fixed - 1 < length fixed → nat_lt t last.turn ≡ false → Ascends fixed → k < length fixed → is_above t (get_or fixed k d) ≡ false
none_above t fixed last k d at within e up l =
    let le : (get_or fixed k d).turn ≤ (get_or fixed (length fixed - 1) d).turn = up k (length fixed - 1) d (omega arith) within in
    let same : get_or fixed (length fixed - 1) d ≡ get_or fixed (length fixed - 1) last = any_default fixed (length fixed - 1) d last within in
    let top : (get_or fixed (length fixed - 1) d).turn ≡ last.turn = ap (λ r. r.turn) (same ∙ at) in
    grind (arith, nat_tests)

-- the turns ascend, so the last is the greatest
below_last : (t : ℕ) (fixed : List Fixed) (last : Fixed) (b : Bool) → nat_lt t last.turn ≡ b → Ascends fixed → slice_get fixed (length fixed - 1) ≡ Some last → b ≡ list_any (is_above t) fixed
below_last t fixed last true e up g =
    let at = got fixed (length fixed - 1) last last g in
    let above : is_above t (get_or fixed (length fixed - 1) last) ≡ true = rw at.0 e in
    sym (list_any_at (is_above t) fixed (length fixed - 1) last at.1 above)
below_last t fixed last false e up g =
    let at = got fixed (length fixed - 1) last last g in
    sym (list_any_none (is_above t) fixed (λ k d l. none_above t fixed last k d at.0 at.1 e up l))

pub late-last : (rs : List Rule) (fixed : List Fixed) (repeated : List Repeated) (r last : Fixed) → IsKept rs fixed repeated → slice_get fixed (length fixed - 1) ≡ Some last → nat_lt r.turn last.turn ≡ is_late rs (At r)
late-last rs fixed repeated r last kept g =
    below_last r.turn fixed last (nat_lt r.turn last.turn) refl kept.ordered g ∙ ap (list_any (is_above r.turn)) kept.fixed_are ∙ sym (after_fixed r.turn rs)

pub late-none : (rs : List Rule) (fixed : List Fixed) (repeated : List Repeated) (r : Fixed) → IsKept rs fixed repeated → slice_get fixed (length fixed - 1) ≡ None → false ≡ is_late rs (At r)
late-none rs [] repeated r kept g = ap (list_any (is_above r.turn)) kept.fixed_are ∙ sym (after_fixed r.turn rs)
late-none rs (x ∷ xs) repeated r kept g = absurd (never x xs (length (x ∷ xs) - 1) (omega (arith, some x xs)) g)

-- the numbers of `each` lines divide
pub divisors : (rs : List Rule) → list_all is_proper rs ≡ true → list_all is_divisor (filter_map repeated_in rs) ≡ true
divisors [] e = refl
divisors (At r ∷ rs) e = divisors rs (both_true (is_proper (At r)) (list_all is_proper rs) e).1
divisors (Each r ∷ rs) e =
    let h = both_true (is_proper (Each r)) (list_all is_proper rs) e in
    let k = both_true (nat_lt 0 r.turns) (nat_le r.turns (10 ^ 9) && is_page r.target) h.0 in
    let here : is_divisor r ≡ true = k.0 in
    rw (here, divisors rs h.1) refl

pub divisors-kept : (rs : List Rule) (fixed : List Fixed) (repeated : List Repeated) → IsKept rs fixed repeated → list_all is_divisor repeated ≡ true
divisors-kept rs fixed repeated kept = ap (list_all is_divisor) kept.repeated_are ∙ divisors rs kept.proper

pub ruleset late_laws = (late-last, late-none)

-- an `at` line was taken in
pub with_at : (self rs : List Rule) (fixed : List Fixed) (repeated : List Repeated) (line : Line) (x : Rule) (r : Fixed) (rs' : List Rule) (fixed' : List Fixed) (repeated' : List Repeated) → IsKept rs fixed repeated → self ≡ rs → line ≡ Says x → x ≡ At r → is_proper_reading (reading line) ≡ true → is_late_reading self (reading line) ≡ false → length self + 1 < 2 ^ 31 → rs' ≡ rs ++ x ∷ [] → fixed' ≡ fixed ++ r ∷ [] → repeated' ≡ repeated → IsKept rs' fixed' repeated'
with_at self rs fixed repeated line x r rs' fixed' repeated' kept s l e p late few a b c =
    let is : line ≡ Says (At r) = l ∙ ap Says e in
    let proper : is_proper (At r) ≡ true = sym (ap (λ y. is_proper_reading (reading y)) is) ∙ p in
    let in_order : is_late rs (At r) ≡ false = sym (ap (λ y. is_late_reading self (reading y)) is ∙ ap (λ y. is_late y (At r)) s) ∙ late in
    let rules_are : rs' ≡ rs ++ At r ∷ [] = a ∙ ap (λ y. rs ++ y ∷ []) e in
    rw (rules_are, b, c) (kept_at rs fixed repeated r kept proper in_order (subst (λ y. length y + 1 < 2 ^ 31) s few))

-- an `each` line was taken in
pub with_each : (rs : List Rule) (fixed : List Fixed) (repeated : List Repeated) (line : Line) (x : Rule) (r : Repeated) (rs' : List Rule) (fixed' : List Fixed) (repeated' : List Repeated) → IsKept rs fixed repeated → line ≡ Says x → x ≡ Each r → is_proper_reading (reading line) ≡ true → length rs + 1 < 2 ^ 31 → rs' ≡ rs ++ x ∷ [] → fixed' ≡ fixed → repeated' ≡ repeated ++ r ∷ [] → IsKept rs' fixed' repeated'
with_each rs fixed repeated line x r rs' fixed' repeated' kept l e p few a b c =
    let is : line ≡ Says (Each r) = l ∙ ap Says e in
    let proper : is_proper (Each r) ≡ true = sym (ap (λ y. is_proper_reading (reading y)) is) ∙ p in
    let rules_are : rs' ≡ rs ++ Each r ∷ [] = a ∙ ap (λ y. rs ++ y ∷ []) e in
    rw (rules_are, b, c) (kept_each rs fixed repeated r kept proper few)

-- without an `at` line nothing is late
pub late_of_none : (now rs : List Rule) (fixed fs : List Fixed) (repeated : List Repeated) (rule : Rule) (r : Fixed) → IsKept rs fixed repeated → now ≡ rs → fs ≡ fixed → rule ≡ At r → None ≡ slice_get fs (length fs - 1) → false ≡ is_late now rule
late_of_none now rs fixed fs repeated rule r kept n f e g =
    let none : slice_get fixed (length fixed - 1) ≡ None = ap (λ l. slice_get l (length l - 1)) (sym f) ∙ sym g in
    late-none rs fixed repeated r kept none ∙ ap (λ l. is_late l (At r)) (sym n) ∙ ap (is_late now) (sym e)

-- Steps that are one more, or one fewer.
use Rattle.std.proofs.Common.{◌≡◌, ◌≤◌, ◌<◌, ◌+◌, ℕ, zero, suc, Bool, true, false, List, [], ◌∷◌, ◌++◌, length, Option, Some, None, refl, ap, sym, subst, ◌∙◌, arith, ⊎_elim, append-nil, append_assoc}
use Rattle.std.proofs.lemmas.Bool.{or_cases, or_left, or_right, eqb-true, eq-eqb, false≢true, false_from_ne_true}
use Rattle.std.proofs.lemmas.Bool.Decides.{nat_tests}
use Rattle.std.proofs.lemmas.List.Folds.{list_any-append}
use Rattle.std.specs.HashMap.{get}
use Rattle.std.specs.Prelude.{Result, Ok, Err, OnOk, ◌||◌, ◌==◌, if◌then◌else◌, nat_eq, nat_lt, unwrap_or}
use Rattle.std.specs.List.{IsDistinct, list_any}
use Rattle.vax_asm_circles.specs.Circles.{Step, among, comes_back, leads, size, waits}
use Rattle.vax_asm_circles.specs.Growing.{IsIndexed, all_awaited, steps_in, without}
use Rattle.vax_asm_circles.specs.Places.{first_below, kept_below, place}
use Rattle.vax_asm_circles.specs.declared.growing.Steps.{Steps}
use Rattle.vax_asm_circles.proofs.Leading.{any_found}
use Rattle.vax_asm_circles.proofs.Placing.{kept-first_below, place_within}
use Rattle.vax_asm_circles.proofs.Walking.{awaited_within}

-- ---- Places

-- the place of a definition, behind so many steps with one more
abbrev one_behind : (here : Bool) → (p n : ℕ) → ℕ
one_behind here p n = if nat_lt p n then p else (if here then n else suc n)

behind_suc : (here : Bool) (p n : ℕ) → suc (one_behind here p n) ≡ one_behind here (suc p) (suc n)
behind_suc true p n = grind arith
behind_suc false p n = grind arith

zero_behind : (here : Bool) (n : ℕ) → 0 ≡ one_behind here 0 (suc n)
zero_behind true n = grind arith
zero_behind false n = grind arith

choice_behind : (b here : Bool) (p q n : ℕ) → q ≡ one_behind here p n → (if b then 0 else suc q) ≡ one_behind here (if b then 0 else suc p) (suc n)
choice_behind true here p q n e = zero_behind here n
choice_behind false here p q n e = ap suc e ∙ behind_suc here p n

none_behind : (b : Bool) → (if b then 0 else 1) ≡ one_behind b 0 0
none_behind true = refl
none_behind false = refl

pub place-one : (steps : List Step) (s : Step) (i : ℕ) → place (steps ++ s ∷ []) i ≡ one_behind (s.from == i) (place steps i) (length steps)
unfolding place
place-one [] s i = none_behind (s.from == i)
place-one (t ∷ steps) s i = choice_behind (t.from == i) (s.from == i) (place steps i) (place (steps ++ s ∷ []) i) (length steps) (place-one steps s i)

length-one : (steps : List Step) (s : Step) → length (steps ++ s ∷ []) ≡ suc (length steps)
length-one [] s = refl
length-one (t ∷ steps) s = ap suc (length-one steps s)

kept_choice : (here : Bool) (p n : ℕ) → (if here then Some (unwrap_or (first_below n p) n) else first_below n p) ≡ first_below (suc n) (one_behind here p n)
kept_choice true p n = grind arith
kept_choice false p n = grind arith

-- what is kept once there is one more step
pub kept_more : (steps : List Step) (s : Step) (i : ℕ) (old new : Option ℕ) → old ≡ first_below (length steps) (place steps i)
    → new ≡ (if s.from == i then Some (unwrap_or old (length steps)) else old) → new ≡ first_below (length (steps ++ s ∷ [])) (place (steps ++ s ∷ []) i)
kept_more steps s i old new was is =
    is
    ∙ ap (λ (o : Option ℕ). if s.from == i then Some (unwrap_or o (length steps)) else o) was
    ∙ kept_choice (s.from == i) (place steps i) (length steps)
    ∙ ap (λ (p : ℕ). first_below (suc (length steps)) p) (sym (place-one steps s i))
    ∙ ap (λ (n : ℕ). first_below n (place (steps ++ s ∷ []) i)) (sym (length-one steps s))

fewer_choice : (here : Bool) (p n : ℕ) → (if here then without n (first_below (suc n) (one_behind here p n)) else first_below (suc n) (one_behind here p n)) ≡ first_below n p
fewer_choice true p n = grind arith
fewer_choice false p n = grind arith

-- and once the last is taken back
pub kept_fewer : (steps : List Step) (s : Step) (i : ℕ) (old new : Option ℕ) → old ≡ first_below (length (steps ++ s ∷ [])) (place (steps ++ s ∷ []) i)
    → new ≡ (if s.from == i then without (length steps) old else old) → new ≡ first_below (length steps) (place steps i)
kept_fewer steps s i old new was is =
    let here : old ≡ first_below (suc (length steps)) (one_behind (s.from == i) (place steps i) (length steps)) =
    was
    ∙ ap (λ (n : ℕ). first_below n (place (steps ++ s ∷ []) i)) (length-one steps s)
    ∙ ap (λ (p : ℕ). first_below (suc (length steps)) p) (place-one steps s i) in
    is
    ∙ ap (λ (o : Option ℕ). if s.from == i then without (length steps) o else o) here
    ∙ fewer_choice (s.from == i) (place steps i) (length steps)

-- the places that are kept are those of the first steps
pub firsts_kept : (steps : List Step) (i : ℕ) (o : Option ℕ) → o ≡ first_below (length steps) (place steps i) → place steps i ≡ kept_below (length steps) o
firsts_kept steps i o is = within (place steps i) (length steps) (place_within steps i) ∙ ap (kept_below (length steps)) (sym is)
  where
    within : (p n : ℕ) → p ≤ n → p ≡ kept_below n (first_below n p)
    within p n h = grind arith

-- ---- What is awaited

pub awaited-one : (steps : List Step) (s : Step) → all_awaited (steps ++ s ∷ []) ≡ all_awaited steps ++ s.to
unfolding all_awaited
awaited-one [] s = append-nil s.to
awaited-one (t ∷ steps) s = ap (λ l. t.to ++ l) (awaited-one steps s) ∙ sym (append_assoc t.to (all_awaited steps) s.to)

pub have_more : (steps : List Step) (s : Step) (old new : List ℕ) → ((k : ℕ) → among k (all_awaited steps) ≡ true → among k old ≡ true)
    → ((k : ℕ) → among k old ≡ true → among k new ≡ true) → ((k : ℕ) → among k s.to ≡ true → among k new ≡ true)
    → (k : ℕ) → among k (all_awaited (steps ++ s ∷ [])) ≡ true → among k new ≡ true
have_more steps s old new had more all k e =
    ⊎_elim (λ before. more k (had k before)) (λ here. all k here)
    (or_cases (among k (all_awaited steps)) (among k s.to) (sym (list_any-append (nat_eq k) (all_awaited steps) s.to) ∙ sym (ap (among k) (awaited-one steps s)) ∙ e))

pub have_fewer : (steps : List Step) (s : Step) (all : List ℕ) → ((k : ℕ) → among k (all_awaited (steps ++ s ∷ [])) ≡ true → among k all ≡ true)
    → (k : ℕ) → among k (all_awaited steps) ≡ true → among k all ≡ true
have_fewer steps s all have k e =
    have k (ap (among k) (awaited-one steps s) ∙ list_any-append (nat_eq k) (all_awaited steps) s.to ∙ or_left (among k (all_awaited steps)) (among k s.to) e)

-- what is led to is awaited
leads_awaited : (steps : List Step) (n k i : ℕ) → leads n (waits steps) k i ≡ true → among k (all_awaited steps) ≡ true
unfolding leads
leads_awaited steps zero k i e = absurd (false≢true e)
leads_awaited steps (suc n) k i e =
    ⊎_elim (awaited_within steps i k)
    (λ more. let f = any_found (leads n (waits steps) k) (waits steps i) more in leads_awaited steps n k f.0 f.2)
    (or_cases (among k (waits steps i)) (list_any (leads n (waits steps) k) (waits steps i)) e)

-- a definition for which none waits doesn't come back
pub none_back : (steps : List Step) (all : List ℕ) (i : ℕ) → ((k : ℕ) → among k (all_awaited steps) ≡ true → among k all ≡ true) → among i all ≡ false → comes_back steps i ≡ false
none_back steps all i have none = false_from_ne_true (comes_back steps i) (λ e. false≢true (sym none ∙ have i (leads_awaited steps (size steps) i i e)))

pub turned : (k : ℕ) (ks : List ℕ) → list_any (λ y. nat_eq y k) ks ≡ among k ks
turned k [] = refl
turned k (x ∷ ks) = let same : nat_eq x k ≡ nat_eq k x = grind (arith, nat_tests) in rw (same, turned k ks) refl

-- nor does one for which neither those before it nor it waits
pub apart_back : (steps : List Step) (s : Step) (all : List ℕ) → ((k : ℕ) → among k (all_awaited steps) ≡ true → among k all ≡ true) → among s.from all ≡ false → among s.from s.to ≡ false
    → comes_back (steps ++ s ∷ []) s.from ≡ false
apart_back steps s all have none own = false_from_ne_true (comes_back (steps ++ s ∷ []) s.from) (λ e.
    ⊎_elim (λ before. false≢true (sym none ∙ have s.from before)) (λ here. false≢true (sym own ∙ here))
    (or_cases (among s.from (all_awaited steps)) (among s.from s.to) (sym (list_any-append (nat_eq s.from) (all_awaited steps) s.to) ∙ sym (ap (among s.from) (awaited-one steps s))
    ∙ leads_awaited (steps ++ s ∷ []) (size (steps ++ s ∷ [])) s.from s.from e)))

-- ---- All together

pub none_indexed : (s : Steps) → steps_in s ≡ [] → ((i : ℕ) → get nat_eq s.places i ≡ None) → IsDistinct nat_eq s.awaited.keys → IsIndexed s
unfolding place all_awaited
none_indexed s none places distinct = record {
  places = λ i. places i ∙ ap (λ l. first_below (length l) (place l i)) (sym none);
  awaited = λ k e. absurd (false≢true (ap (λ l. among k (all_awaited l)) (sym none) ∙ e));
  distinct = distinct;
}

pub more_indexed : (old new : Steps) (s : Step) → IsIndexed old → steps_in new ≡ steps_in old ++ s ∷ []
    → ((i : ℕ) → get nat_eq new.places i ≡ (if s.from == i then Some (unwrap_or (get nat_eq old.places i) (length (steps_in old))) else get nat_eq old.places i))
    → ((k : ℕ) → among k old.awaited.keys ≡ true → among k new.awaited.keys ≡ true) → ((k : ℕ) → among k s.to ≡ true → among k new.awaited.keys ≡ true)
    → IsDistinct nat_eq new.awaited.keys → IsIndexed new
more_indexed old new s was is places more all distinct = record {
  places = λ i. kept_more (steps_in old) s i (get nat_eq old.places i) (get nat_eq new.places i) (was.places i) (places i) ∙ ap (λ l. first_below (length l) (place l i)) (sym is);
  awaited = λ k e. have_more (steps_in old) s old.awaited.keys new.awaited.keys was.awaited more all k (ap (λ l. among k (all_awaited l)) (sym is) ∙ e);
  distinct = distinct;
}

pub fewer_indexed : (old new : Steps) (before : List Step) (s : Step) → IsIndexed old → steps_in old ≡ before ++ s ∷ [] → steps_in new ≡ before
    → ((i : ℕ) → get nat_eq new.places i ≡ (if s.from == i then without (length before) (get nat_eq old.places i) else get nat_eq old.places i))
    → new.awaited.keys ≡ old.awaited.keys → IsIndexed new
fewer_indexed old new before s was is after places same = record {
  places = λ i. kept_fewer before s i (get nat_eq old.places i) (get nat_eq new.places i) (was.places i ∙ ap (λ l. first_below (length l) (place l i)) is) (places i) ∙ ap (λ l. first_below (length l) (place l i)) (sym after);
  awaited = λ k e.
      ap (among k) same ∙ have_fewer before s old.awaited.keys (λ j f. was.awaited j (ap (λ l. among j (all_awaited l)) is ∙ f)) k (ap (λ l. among k (all_awaited l)) (sym after) ∙ e);
  distinct = subst (λ l. IsDistinct nat_eq l) (sym same) was.distinct;
}

pub whenever : {A E P : Type 0} (r : Result A E) → P → OnOk r P
whenever (Ok x) p = p
whenever (Err e) p = tt

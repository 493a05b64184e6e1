-- Where the steps of definitions stand.
use Rattle.std.proofs.Common.{◌≡◌, ◌≤◌, ◌<◌, ℕ, zero, suc, Bool, true, false, List, [], ◌∷◌, length, take, get_or, Option, Some, None, refl, ap, ◌∙◌, arith, subst, ◌+◌, ◌≢◌}
use Rattle.std.proofs.lemmas.Bool.{eqb-true, eq-eqb, false≢true}
use Rattle.std.specs.Prelude.{◌==◌, if◌then◌else◌, nat_lt, unwrap_or}
use Rattle.vax_asm_circles.specs.Circles.{Step, waits}
use Rattle.vax_asm_circles.specs.Places.{place, kept_below, first_below}

choice_within : (b : Bool) (p n : ℕ) → p ≤ n → (if b then 0 else suc p) ≤ suc n
choice_within true p n h = omega arith
choice_within false p n h = omega (arith, h)

pub place_within : (steps : List Step) (i : ℕ) → place steps i ≤ length steps
unfolding place
place_within [] i = omega arith
place_within (s ∷ steps) i = choice_within (s.from == i) (place steps i) (length steps) (place_within steps i)

choice_zero : (b : Bool) (p : ℕ) → b ≡ true → (if b then 0 else suc p) ≤ 0
choice_zero true p e = omega arith
choice_zero false p e = absurd (false≢true e)

-- no step of a definition stands before its first
pub place_first : (steps : List Step) (at i : ℕ) (d : Step) → at < length steps → (get_or steps at d).from ≡ i → place steps i ≤ at
unfolding place
place_first [] at i d h e = absurd (omega (arith, h))
place_first (s ∷ steps) zero i d h e = choice_zero (s.from == i) (place steps i) (eq-eqb s.from i e)
place_first (s ∷ steps) (suc at) i d h e = choice_within (s.from == i) (place steps i) at (place_first steps at i d (omega (arith, h)) e)

-- the step at the place is the definition's
choice_found : (b : Bool) (s d : Step) (steps : List Step) (i p : ℕ) → (b ≡ true → s.from ≡ i) → (p < length steps → (get_or steps p d).from ≡ i) → (if b then 0 else suc p) < suc (length steps)
    → (get_or (s ∷ steps) (if b then 0 else suc p) d).from ≡ i
choice_found true s d steps i p here more h = here refl
choice_found false s d steps i p here more h = more (omega (arith, h))

pub place_found : (steps : List Step) (i : ℕ) (d : Step) → place steps i < length steps → (get_or steps (place steps i) d).from ≡ i
unfolding place
place_found [] i d h = absurd (omega (arith, h))
place_found (s ∷ steps) i d h = choice_found (s.from == i) s d steps i (place steps i) (eqb-true s.from i) (place_found steps i d) h

-- so it is the definition's wherever the place is known
pub from_is : (steps : List Step) (at i : ℕ) (d : Step) → at < length steps → place steps i ≡ at → (get_or steps at d).from ≡ i
from_is steps at i d h is =
    let P : ℕ → Type 0 = λ n. (get_or steps n d).from ≡ i in
    subst P is (place_found steps i d (omega (arith, h, is)))

-- the definition waits for those of that step
choice_waits : (b : Bool) (s d : Step) (steps : List Step) (p : ℕ) (ws : List ℕ) → (p < length steps → ws ≡ (get_or steps p d).to) → (if b then 0 else suc p) < suc (length steps)
    → (if b then s.to else ws) ≡ (get_or (s ∷ steps) (if b then 0 else suc p) d).to
choice_waits true s d steps p ws more h = refl
choice_waits false s d steps p ws more h = more (omega (arith, h))

pub waits_found : (steps : List Step) (i : ℕ) (d : Step) → place steps i < length steps → waits steps i ≡ (get_or steps (place steps i) d).to
unfolding place waits
waits_found [] i d h = absurd (omega (arith, h))
waits_found (s ∷ steps) i d h = choice_waits (s.from == i) s d steps (place steps i) (waits steps i) (waits_found steps i d) h

-- and for none without a step
choice_none : (b : Bool) (n p : ℕ) (xs ws : List ℕ) → (n ≤ p → ws ≡ []) → suc n ≤ (if b then 0 else suc p) → (if b then xs else ws) ≡ []
choice_none true n p xs ws more h = absurd (omega (arith, h))
choice_none false n p xs ws more h = more (omega (arith, h))

pub waits_none : (steps : List Step) (i : ℕ) → length steps ≤ place steps i → waits steps i ≡ []
unfolding place waits
waits_none [] i h = refl
waits_none (s ∷ steps) i h = choice_none (s.from == i) (length steps) (place steps i) s.to (waits steps i) (waits_none steps i) h

-- the first so many steps have the same places
choice_taken : (b : Bool) (p q n : ℕ) → q ≡ kept_below n (Some p) → (if b then 0 else suc q) ≡ kept_below (suc n) (Some (if b then 0 else suc p))
choice_taken true p q n e = grind arith
choice_taken false p q n e = ap suc e ∙ grind arith

pub place-take : (n : ℕ) (steps : List Step) (i : ℕ) → place (take n steps) i ≡ kept_below (length (take n steps)) (Some (place steps i))
unfolding place
place-take zero steps i = grind arith
place-take (suc n) [] i = refl
place-take (suc n) (s ∷ steps) i = choice_taken (s.from == i) (place steps i) (place (take n steps) i) (length (take n steps)) (place-take n steps i)

pub kept-first_below : (n m p : ℕ) → n ≤ m → p ≤ m → kept_below n (Some p) ≡ kept_below n (first_below m p)
kept-first_below n m p h within = grind arith

-- one more step is looked at

choice_kept : (b : Bool) (p at : ℕ) → (b ≡ true → p ≤ at) → (p ≡ at → b ≡ true) → (if b then Some (unwrap_or (first_below at p) at) else first_below at p) ≡ first_below (at + 1) p
choice_kept true p at here there = let h : p ≤ at = here refl in grind arith
choice_kept false p at here there = let h : p ≢ at = λ is. false≢true (there is) in grind arith

pub kept_one : (steps : List Step) (at i : ℕ) (d : Step) → at < length steps
    → (if (get_or steps at d).from == i then Some (unwrap_or (first_below at (place steps i)) at) else first_below at (place steps i)) ≡ first_below (at + 1) (place steps i)
kept_one steps at i d h =
    choice_kept ((get_or steps at d).from == i) (place steps i) at
    (λ e. place_first steps at i d h (eqb-true (get_or steps at d).from i e))
    (λ is. eq-eqb (get_or steps at d).from i (from_is steps at i d h is))

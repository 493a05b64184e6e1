-- What leads to what, in how many steps.
use Rattle.std.proofs.Common.{◌≡◌, ◌≤◌, ℕ, zero, suc, Bool, true, List, [], ◌∷◌, ap, sym, ◌∙◌, subst, arith, ⊎_elim, ◌⊎◌, inr}
use Rattle.std.proofs.Math.Nat.{eq-or-lt_of_le}
use Rattle.std.proofs.lemmas.Bool.{or_cases, or_left, or_right, eqb-true, eq-eqb, false≢true}
use Rattle.std.specs.Prelude.{nat_eq}
use Rattle.std.specs.List.{list_any}
use Rattle.vax_asm_circles.specs.Circles.{among, leads}

pub any_more : {X : Type 0} (p q : X → Bool) → ((x : X) → p x ≡ true → q x ≡ true) → (xs : List X) → list_any p xs ≡ true → list_any q xs ≡ true
any_more p q h [] e = e
any_more p q h (x ∷ xs) e =
    ⊎_elim (λ here. or_left (q x) (list_any q xs) (h x here)) (λ more. or_right (q x) (list_any q xs) (any_more p q h xs more)) (or_cases (p x) (list_any p xs) e)

pub any_at : (p : ℕ → Bool) (k : ℕ) (xs : List ℕ) → among k xs ≡ true → p k ≡ true → list_any p xs ≡ true
any_at p k [] e h = e
any_at p k (x ∷ xs) e h =
    ⊎_elim
    (λ here. or_left (p x) (list_any p xs) (ap p (sym (eqb-true k x here)) ∙ h))
    (λ more. or_right (p x) (list_any p xs) (any_at p k xs more h))
    (or_cases (nat_eq k x) (among k xs) e)

pub any_found : (p : ℕ → Bool) (xs : List ℕ) → list_any p xs ≡ true → (k : ℕ) × (among k xs ≡ true) × (p k ≡ true)
any_found p [] e = absurd (false≢true e)
any_found p (x ∷ xs) e =
    ⊎_elim
    (λ here. (x, or_left (nat_eq x x) (among x xs) (eq-eqb x x (λ i. x)), here))
    (λ more. let f = any_found p xs more in (f.0, or_right (nat_eq f.0 x) (among f.0 xs) f.1, f.2))
    (or_cases (p x) (list_any p xs) e)

one_step : (n : ℕ) (waits : ℕ → List ℕ) (k i : ℕ) → leads n waits k i ≡ true → leads (suc n) waits k i ≡ true
unfolding leads
one_step zero waits k i e = absurd (false≢true e)
one_step (suc n) waits k i e =
    ⊎_elim
    (λ here. or_left (among k (waits i)) (list_any (leads (suc n) waits k) (waits i)) here)
    (λ more. or_right (among k (waits i)) (list_any (leads (suc n) waits k) (waits i)) (any_more (leads n waits k) (leads (suc n) waits k) (λ j. one_step n waits k j) (waits i) more))
    (or_cases (among k (waits i)) (list_any (leads n waits k) (waits i)) e)

-- more steps lead to the same, and further
pub more_steps : (n m : ℕ) (waits : ℕ → List ℕ) (k i : ℕ) → n ≤ m → leads n waits k i ≡ true → leads m waits k i ≡ true
more_steps zero zero waits k i h e = e
more_steps (suc n) zero waits k i h e = absurd (omega (arith, h))
more_steps n (suc m) waits k i h e =
    ⊎_elim (λ same. let P : ℕ → Type 0 = λ s. leads s waits k i ≡ true in subst P same e) (λ less. one_step m waits k i (more_steps n m waits k i (omega (arith, less)) e)) (eq-or-lt_of_le h)

pub at_once : (waits : ℕ → List ℕ) (k i : ℕ) → among k (waits i) ≡ true → leads 1 waits k i ≡ true
unfolding leads
at_once waits k i e = or_left (among k (waits i)) (list_any (leads zero waits k) (waits i)) e

pub one_further : (n : ℕ) (waits : ℕ → List ℕ) (i j k : ℕ) → leads n waits j i ≡ true → among k (waits j) ≡ true → leads (suc n) waits k i ≡ true
unfolding leads
one_further zero waits i j k e here = absurd (false≢true e)
one_further (suc n) waits i j k e here =
    or_right (among k (waits i)) (list_any (leads (suc n) waits k) (waits i))
    (⊎_elim
    (λ at. any_at (leads (suc n) waits k) j (waits i) at (or_left (among k (waits j)) (list_any (leads n waits k) (waits j)) here))
    (λ more. any_more (leads n waits j) (leads (suc n) waits k) (λ x at. one_further n waits x j k at here) (waits i) more)
    (or_cases (among j (waits i)) (list_any (leads n waits j) (waits i)) e))

-- what the first leads to is met once nothing is left to be looked at
pub met_at_last : (waits : ℕ → List ℕ) (first : ℕ) (met : List ℕ) → ((j k : ℕ) → (j ≡ first) ⊎ (among j met ≡ true) → among k (waits j) ≡ true → among k met ≡ true)
    → (n k i : ℕ) → (i ≡ first) ⊎ (among i met ≡ true) → leads n waits k i ≡ true → among k met ≡ true
unfolding leads
met_at_last waits first met closed zero k i begun e = absurd (false≢true e)
met_at_last waits first met closed (suc n) k i begun e =
    ⊎_elim
    (closed i k begun)
    (λ more. let f = any_found (leads n waits k) (waits i) more in met_at_last waits first met closed n k f.0 (inr (closed i f.0 begun f.1)) f.2)
    (or_cases (among k (waits i)) (list_any (leads n waits k) (waits i)) e)

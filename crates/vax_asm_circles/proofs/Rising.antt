-- Where each definition is higher than those for which it waits, none comes back to itself.
use Rattle.std.proofs.Common.{◌≡◌, ◌<◌, ℕ, zero, suc, true, List, arith, ⊎_elim}
use Rattle.std.proofs.lemmas.Bool.{or_cases, false≢true}
use Rattle.std.specs.List.{list_any}
use Rattle.vax_asm_circles.specs.Circles.{among, leads}
use Rattle.vax_asm_circles.proofs.Leading.{any_found}

pub leads_down : (h : ℕ → ℕ) (waits : ℕ → List ℕ) → ((i k : ℕ) → among k (waits i) ≡ true → h k < h i) → (n k i : ℕ) → leads n waits k i ≡ true → h k < h i
unfolding leads
leads_down h waits falls zero k i e = absurd (false≢true e)
leads_down h waits falls (suc n) k i e =
    ⊎_elim
    (falls i k)
    (λ more. let f = any_found (leads n waits k) (waits i) more in
    let below : h k < h f.0 = leads_down h waits falls n k f.0 f.2 in
    let first : h f.0 < h i = falls i f.0 f.1 in
    omega (arith, below, first))
    (or_cases (among k (waits i)) (list_any (leads n waits k) (waits i)) e)

pub none_back : (h : ℕ → ℕ) (waits : ℕ → List ℕ) → ((i k : ℕ) → among k (waits i) ≡ true → h k < h i) → (n i : ℕ) → leads n waits i i ≡ true → ⊥
none_back h waits falls n i e = let less : h i < h i = leads_down h waits falls n i i e in omega (arith, less)

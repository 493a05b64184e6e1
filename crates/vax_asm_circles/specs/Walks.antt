-- What is kept while definitions are walked over, from one on.
use Rattle.std.specs.Prelude.{◌≡◌, ◌⊎◌, ◌<◌, ◌≤◌, ◌+◌, ℕ, true, nat_eq, List, length}
use Rattle.std.specs.List.{IsDistinct}
use Rattle.vax_asm_circles.specs.Circles.{among, leads}

-- These are met: those of them that weren't met before are to be looked at.
pub record Met (names before work after left : List ℕ) : Type 0 where
  pub all : (k : ℕ) → among k names ≡ true → among k after ≡ true
  pub more : (k : ℕ) → among k before ≡ true → among k after ≡ true
  pub new : (k : ℕ) → among k after ≡ true → (among k before ≡ true) ⊎ ((among k names ≡ true) × (length before < length after) × (among k left ≡ true))
  pub kept : (k : ℕ) → among k work ≡ true → among k left ≡ true
  pub begun : (k : ℕ) → among k left ≡ true → (among k work ≡ true) ⊎ (among k after ≡ true)
  pub longer : length before ≤ length after
  pub counted : length left + length before ≡ length work + length after
  pub distinct : IsDistinct nat_eq after

-- Whatever is met, the first leads to in so many steps as there are met. What the first or one that is met waits for is met,
-- but where that is still to be looked at. All that are met are among those for which any definition waits.
pub record Walked (waits : ℕ → List ℕ) (awaited : List ℕ) (first : ℕ) (met work : List ℕ) : Type 0 where
  pub reached : (k : ℕ) → among k met ≡ true → leads (length met) waits k first ≡ true
  pub closed : (j k : ℕ) → (j ≡ first) ⊎ (among j met ≡ true) → among k (waits j) ≡ true → (among k met ≡ true) ⊎ (among j work ≡ true)
  pub begun : (j : ℕ) → among j work ≡ true → (j ≡ first) ⊎ (among j met ≡ true)
  pub within : (k : ℕ) → among k met ≡ true → among k awaited ≡ true
  pub distinct : IsDistinct nat_eq met

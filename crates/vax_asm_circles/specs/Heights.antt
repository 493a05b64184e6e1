-- Heights of definitions. Where each is higher than those for which it waits, none comes back to itself.
use Rattle.std.specs.Prelude.{◌≡◌, ◌<◌, ℕ, true, List, slice_index_or}
use Rattle.vax_asm_circles.specs.Circles.{Step, among, waits, leads}
use Rattle.vax_asm_circles.specs.Places.{place}

-- the height of a definition's first step, 0 where it has none
abbrev pub height : List ℕ → List Step → ℕ → ℕ
height heights steps i = slice_index_or heights (place steps i) 0

-- those at one place are higher than all for which they wait
abbrev pub AreHigher : List ℕ → List Step → ℕ → Type 0
AreHigher heights steps at = (i k : ℕ) → place steps i ≡ at → among k (waits steps i) ≡ true → height heights steps k < height heights steps i

-- no definition comes back to itself, in however many steps
abbrev pub NoneBack : List Step → Type 0
NoneBack steps = (n i : ℕ) → leads n (waits steps) i i ≡ true → ⊥

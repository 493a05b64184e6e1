-- Steps one behind another, and what is kept of them.
use Rattle.std.specs.Prelude.{◌≡◌, ◌==◌, ℕ, true, nat_eq, nat_lt, if◌then◌else◌, List, [], ◌∷◌, ◌++◌, length, map, Option, Some, None}
use Rattle.std.specs.HashMap.{HashMap, get}
use Rattle.std.specs.List.{IsDistinct}
use Rattle.vax_asm_circles.specs.Circles.{Step, among}
use Rattle.vax_asm_circles.specs.Places.{first_below, place}
use Rattle.vax_asm_circles.specs.View.{step_of}
use Rattle.vax_asm_circles.specs.declared.growing.Steps.{Steps}

abbrev pub steps_in : Steps → List Step
steps_in s = map step_of s.list.items

-- all for which any definition waits
unfoldable pub all_awaited : List Step → List ℕ
all_awaited [] = []
all_awaited (s ∷ steps) = s.to ++ all_awaited steps

-- the place of each definition's first step is kept, and no other
abbrev pub AreKept : {S : Type 0} → List Step → HashMap ℕ ℕ S → Type 0
AreKept steps places = (i : ℕ) → get nat_eq places i ≡ first_below (length steps) (place steps i)

-- all for which any of the steps waits are among these
abbrev pub HaveAwaited : List Step → List ℕ → Type 0
HaveAwaited steps numbers = (k : ℕ) → among k (all_awaited steps) ≡ true → among k numbers ≡ true

pub record IsIndexed (s : Steps) : Type 0 where
  pub places : AreKept (steps_in s) s.places
  pub awaited : HaveAwaited (steps_in s) s.awaited.keys
  pub distinct : IsDistinct nat_eq s.awaited.keys

-- a place that is kept, unless it is this one
abbrev pub without : ℕ → Option ℕ → Option ℕ
without at None = None
without at (Some p) = if p == at then None else Some p

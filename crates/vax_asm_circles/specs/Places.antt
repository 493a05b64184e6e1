-- Where the steps of definitions stand.
use Rattle.std.specs.Prelude.{◌≡◌, ℕ, suc, ◌==◌, nat_eq, nat_lt, if◌then◌else◌, List, [], ◌∷◌, length, Option, Some, None}
use Rattle.std.specs.HashMap.{HashMap, get}
use Rattle.vax_asm_circles.specs.Circles.{Step}

-- the place of the first step that is a definition's, past all where none is
unfoldable pub place : List Step → ℕ → ℕ
place [] i = 0
place (s ∷ steps) i = if s.from == i then 0 else suc (place steps i)

-- a place that is kept for a definition, where it is one of so many
abbrev pub kept_below : ℕ → Option ℕ → ℕ
kept_below n None = n
kept_below n (Some p) = if nat_lt p n then p else n

-- the places of the first steps are kept, by definition: of these, and of more of them
abbrev pub AreFirsts : {S : Type 0} → List Step → HashMap ℕ ℕ S → Type 0
AreFirsts steps places = (i : ℕ) → place steps i ≡ kept_below (length steps) (get nat_eq places i)

-- the place that is kept of a definition among so many steps, where that is its first
abbrev pub first_below : ℕ → ℕ → Option ℕ
first_below n p = if nat_lt p n then Some p else None

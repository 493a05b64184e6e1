-- Definitions that come back to themselves (VAX MACRO and Instruction Set Reference Manual, "Direct assignment
-- statement").
use Rattle.std.specs.Prelude.{ℕ, zero, suc, ◌+◌, Bool, false, ◌||◌, ◌==◌, nat_eq, if◌then◌else◌, List, [], ◌∷◌, ◌++◌, length, Option, Some, None}
use Rattle.std.specs.List.{list_any}

-- a definition, and those for which it waits
pub record Step : Type 0 where
  pub from : ℕ
  pub to : List ℕ

abbrev pub among : ℕ → List ℕ → Bool
among k ks = list_any (nat_eq k) ks

-- those for which a definition waits, by its first step
unfoldable pub waits : List Step → ℕ → List ℕ
waits [] i = []
waits (s ∷ steps) i = if s.from == i then s.to else waits steps i

-- for how many they wait, all together
unfoldable pub size : List Step → ℕ
size [] = 0
size (s ∷ steps) = length s.to + size steps

-- Whether one waits for another, or for some that lead to it in fewer steps.
unfoldable pub leads : ℕ → (ℕ → List ℕ) → ℕ → ℕ → Bool
leads zero waits k i = false
leads (suc n) waits k i = among k (waits i) || list_any (leads n waits k) (waits i)

-- A definition comes back to itself where it waits for itself, or for some that lead back to it. More steps than all of
-- them wait for lead to no others.
abbrev pub comes_back : List Step → ℕ → Bool
comes_back steps i = leads (size steps) (waits steps) i i

-- the place of the first that makes its definition come back to itself, behind those before
unfoldable pub first_back : List Step → List Step → Option ℕ
first_back before [] = None
first_back before (s ∷ more) = if comes_back (before ++ s ∷ []) s.from then Some (length before) else first_back (before ++ s ∷ []) more

abbrev pub circle : List Step → Option ℕ
circle steps = first_back [] steps

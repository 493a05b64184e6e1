-- Lines that are taken off those that are to come.
use Rattle.std.specs.Prelude.{◌≡◌, ℕ, Bool, true, false, List, [], ◌∷◌, ◌++◌, map, take, Option, option_map}

-- of a line no more than these bytes are given
abbrev pub cut : List ℕ → List ℕ
cut line = take 1025 line

-- these were the next lines, where the object tells that, and so they were given
pub record Takes (before now : Option (List (List ℕ))) (given : List (List ℕ)) : Type 0 where
  pub whole : List (List ℕ)
  pub next : before ≡ option_map (λ more. whole ++ more) now
  pub cuts : given ≡ map cut whole

-- no line is left
pub record IsAtEnd (before now : Option (List (List ℕ))) : Type 0 where
  pub none : before ≡ option_map (λ (more : List (List ℕ)). []) before
  pub same : now ≡ before

-- the next line, if there is one
abbrev pub Gives : Bool → (before now : Option (List (List ℕ))) → List ℕ → Type 0
Gives true before now line = Takes before now (line ∷ [])
Gives false before now line = IsAtEnd before now

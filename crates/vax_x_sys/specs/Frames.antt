-- What is pushed behind PSL and PC.
use Rattle.std.specs.Prelude.{◌≡◌, ◌⊎◌, ◌<◌, ℕ, List, [], ◌∷◌}
use Rattle.vax_x_sys.specs.declared.frames.Parameters.{Parameters}
use Rattle.vax_x_sys.specs.declared.frames.Parameters.TheVariants.{None, One, Two}

abbrev pub listed : Parameters → List ℕ
listed None = []
listed (One a) = a ∷ []
listed (Two a b) = a ∷ b ∷ []

-- the levels of interrupts: that of the interval clock, and those of software interrupts
abbrev pub IsLevel : ℕ → Type 0
IsLevel level = (level ≡ 22) ⊎ (level < 16)

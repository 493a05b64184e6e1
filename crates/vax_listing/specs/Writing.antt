-- A text on its way to Out.
use Rattle.std.specs.Prelude.{◌≡◌, ℕ, List, ◌++◌, Option}
use Rattle.vax_outside.specs.Channels.{Channels, Grew, only}
use Rattle.vax_outside.specs.declared.traits.Chan.TheVariants.{Out}

-- so much of the text was written, this is held back, and the rest is still to come
pub record IsBetween (whole : List ℕ) (old now : Option Channels) (held rest : List ℕ) : Type 0 where
  pub sent : List ℕ
  pub is : sent ++ (held ++ rest) ≡ whole
  pub wrote : Grew old now (only Out sent)

-- whatever text is on its way when these lines are held back, is so when those are
abbrev pub GoesOn : (old new : Option Channels) → (held left : List ℕ) → Type 0
GoesOn old new held left = (whole rest : List ℕ) → (first : Option Channels) → IsBetween whole first old held rest → IsBetween whole first new left rest

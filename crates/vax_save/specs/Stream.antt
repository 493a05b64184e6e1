-- Bytes on their way to State.
use Rattle.std.specs.Prelude.{◌≡◌, ℕ, List, [], ◌++◌, Option}
use Rattle.vax_outside.specs.Channels.{Channels, Grew, GrewByPrefix, only}
use Rattle.vax_outside.specs.declared.traits.Chan.TheVariants.{State}

-- what the channels tell, and the bytes that are held back
pub record Stream : Type 0 where
  pub channels : Option Channels
  pub held : List ℕ

abbrev pub stream : Option Channels → List ℕ → Stream
stream channels held = record { channels = channels; held = held }

-- of a whole that began when the channels told this, so much was written, these bytes are held back, and the rest is still to come
pub record IsBetween (whole : List ℕ) (first : Option Channels) (s : Stream) (rest : List ℕ) : Type 0 where
  pub sent : List ℕ
  pub is : sent ++ (s.held ++ rest) ≡ whole
  pub wrote : Grew first s.channels (only State sent)

-- of bytes that come next, whatever whole they are part of, these are left
abbrev pub Leaves : List ℕ → List ℕ → Stream → Stream → Type 0
Leaves bytes left old new =
    (whole rest : List ℕ) → (first : Option Channels) → IsBetween whole first old (bytes ++ rest) → IsBetween whole first new (left ++ rest)

-- none is left
abbrev pub Puts : List ℕ → Stream → Stream → Type 0
Puts bytes old new = Leaves bytes [] old new

-- a prefix of the whole was written
abbrev pub Cuts : List ℕ → Stream → Option Channels → Type 0
Cuts bytes old now =
    (whole rest : List ℕ) → (first : Option Channels) → IsBetween whole first old (bytes ++ rest) → GrewByPrefix first now (only State whole)

-- some bytes were put, whatever they are
abbrev pub HasPut : Stream → Stream → Type 0
HasPut old new = (bytes : List ℕ) × Puts bytes old new

-- a prefix of a whole was written, whatever bytes were put last
abbrev pub HasCut : Stream → Option Channels → Type 0
HasCut old now = (bytes : List ℕ) × Cuts bytes old now

-- some bytes were written, whatever they are
abbrev pub HasWritten : Option Channels → Option Channels → Type 0
HasWritten old now = (whole : List ℕ) × Grew old now (only State whole)

-- or a prefix of some
abbrev pub HasBegun : Option Channels → Option Channels → Type 0
HasBegun old now = (whole : List ℕ) × GrewByPrefix old now (only State whole)

-- Bytes on their way to Out.
use Rattle.std.specs.Prelude.{ℕ, ◌≡◌, ◌≤◌, ◌⊎◌, List, [], ◌∷◌, ◌++◌, Option, Result, Ok, Err}
use Rattle.vax_outside.specs.Channels.{Channels, Grew, GrewByPrefix, only}
use Rattle.vax_outside.specs.Faults.{Rose}
use Rattle.vax_outside.specs.declared.faults.Failures.{Failures}
use Rattle.vax_outside.specs.declared.traits.Chan.TheVariants.{Out}
use Rattle.vax_jobs.specs.declared.ends.JobsEnd.{JobsEnd}
use Rattle.vax_jobs.specs.declared.ends.Fault.{Fault}
use Rattle.vax_jobs.specs.declared.ends.Fault.TheVariants.{Page, Write}
use Rattle.vax_jobs.specs.declared.ends.JobsEnd.TheVariants.{Done, Turns, PageFault, WriteFault}

-- of the bytes that were sent since the channels told this, some were written, and the others are held back
pub record Sends (first : Option Channels) (sent held : List ℕ) (now : Option Channels) : Type 0 where
  pub written : List ℕ
  pub is : sent ≡ written ++ held
  pub wrote : Grew first now (only Out written)

-- a byte more is held back, and some are written
pub record Holds (byte : ℕ) (before : Option Channels) (held : List ℕ) (now : Option Channels) (left : List ℕ) : Type 0 where
  pub written : List ℕ
  pub is : held ++ byte ∷ [] ≡ written ++ left
  pub wrote : Grew before now (only Out written)

-- all that was held back was written
pub record HasFinished (end result : JobsEnd) (held : List ℕ) (old new : Option Channels) (before after : Failures) : Type 0 where
  pub answer : result ≡ end
  pub wrote : Grew old new (only Out held)
  pub quiet : after.count ≡ before.count

-- a write failed behind a prefix of it
pub record HasFailed (result : JobsEnd) (held : List ℕ) (old new : Option Channels) (before after : Failures) : Type 0 where
  pub answer : result ≡ WriteFault
  pub wrote : GrewByPrefix old new (only Out held)
  pub rose : Rose before after
  pub later : before.count ≤ after.count

abbrev pub Finishes : (end result : JobsEnd) → (held : List ℕ) → (old new : Option Channels) → (before after : Failures) → Type 0
Finishes end result held old new before after = HasFinished end result held old new before after ⊎ HasFailed result held old new before after

-- bytes were sent, whatever they are, of which those that aren't held back were written
abbrev pub HasSent : (first : Option Channels) → (held : List ℕ) → (now : Option Channels) → Type 0
HasSent first held now = (sent : List ℕ) × Sends first sent held now

-- so they were by a turn, or a write failed behind a prefix
abbrev pub WritesOn : {A : Type 0} → Result A Fault → (before : Option Channels) → (held : List ℕ) → (now : Option Channels) → (left : List ℕ) → Type 0
WritesOn (Ok x) before held now left = (first : Option Channels) → HasSent first held before → HasSent first left now
WritesOn (Err Page) before held now left = (first : Option Channels) → HasSent first held before → HasSent first left now
WritesOn (Err Write) before held now left =
    (first : Option Channels) → HasSent first held before → (bytes : List ℕ) × GrewByPrefix first now (only Out bytes)

-- bytes were written to Out, whatever they are, and nothing else was
abbrev pub OnlySent : JobsEnd → (old new : Option Channels) → Type 0
OnlySent Done old new = (bytes : List ℕ) × Grew old new (only Out bytes)
OnlySent Turns old new = (bytes : List ℕ) × Grew old new (only Out bytes)
OnlySent PageFault old new = (bytes : List ℕ) × Grew old new (only Out bytes)
OnlySent WriteFault old new = (bytes : List ℕ) × GrewByPrefix old new (only Out bytes)

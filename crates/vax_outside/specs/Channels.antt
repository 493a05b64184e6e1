-- What was written to the output channels.
use Rattle.std.specs.Prelude.{◌≡◌, ℕ, Bool, true, false, List, [], ◌∷◌, ◌++◌, map, Option}
use Rattle.std.specs.Option.{option_map}
use Rattle.vax_outside.specs.declared.traits.Chan.{Chan}
use Rattle.vax_outside.specs.declared.traits.Chan.TheVariants.{Out, Report, Record, State}
use Rattle.vax_outside.specs.declared.traits.StateFile.{StateFile}
use Rattle.vax_outside.specs.declared.traits.StateFile.TheVariants.{Untouched, Removed, Kept}

-- what is done about a saved state: a byte of it is written, what was written becomes its file, or an older file is removed
pub data SaveStep : Type 0 where
  Byte : ℕ → SaveStep
  Keep : SaveStep
  Remove : SaveStep

-- the bytes of Out, Report and Record, and what was done about a saved state
pub record Channels : Type 0 where
  pub out : List ℕ
  pub report : List ℕ
  pub recorded : List ℕ
  pub saved : List SaveStep

abbrev pub unsaved : List SaveStep
unsaved = []

abbrev pub nothing : Channels
nothing = record { out = []; report = []; recorded = []; saved = unsaved }

-- these bytes on one channel, and none on the others
abbrev pub only : Chan → List ℕ → Channels
only Out bytes = record nothing { out = bytes }
only Report bytes = record nothing { report = bytes }
only Record bytes = record nothing { recorded = bytes }
only State bytes = record nothing { saved = map Byte bytes }

-- what was written to State becomes the state's file
abbrev pub kept : Channels
kept = record nothing { saved = Keep ∷ [] }

-- a state of these bytes was written and kept
abbrev pub kept_state : List ℕ → Channels
kept_state bytes = record nothing { saved = map Byte bytes ++ (Keep ∷ []) }

-- an older state's file is removed
abbrev pub removed : Channels
removed = record nothing { saved = Remove ∷ [] }

-- the bytes that were written to State before its file was kept or removed
abbrev pub state_bytes : List SaveStep → List ℕ
state_bytes [] = []
state_bytes (Byte byte ∷ steps) = byte ∷ state_bytes steps
state_bytes (Keep ∷ steps) = []
state_bytes (Remove ∷ steps) = []

-- what became of the state's file
abbrev pub file_of : List SaveStep → StateFile
file_of [] = Untouched
file_of (Byte byte ∷ steps) = file_of steps
file_of (Keep ∷ steps) = Kept
file_of (Remove ∷ steps) = Removed

-- the step that left the file so, if one did
abbrev pub change_of : StateFile → List SaveStep
change_of Untouched = []
change_of Kept = Keep ∷ []
change_of Removed = Remove ∷ []

abbrev pub is_changed : StateFile → Bool
is_changed Untouched = false
is_changed Kept = true
is_changed Removed = true

-- one after the other, channel by channel
abbrev pub append : Channels → Channels → Channels
append a b = record { out = a.out ++ b.out; report = a.report ++ b.report; recorded = a.recorded ++ b.recorded; saved = a.saved ++ b.saved }

-- where the channels are told, they grew by exactly these bytes
abbrev pub Grew : Option Channels → Option Channels → Channels → Type 0
Grew old new more = new ≡ option_map (λ written. append written more) old

-- where the channels are told, each grew by a prefix of these bytes
pub record GrewByPrefix (old new : Option Channels) (whole : Channels) : Type 0 where
  pub prefix : Channels
  pub rest : Channels
  pub splits : append prefix rest ≡ whole
  pub grew : Grew old new prefix

-- the bytes of one channel, of State those before its file changed
abbrev pub bytes_on : Channels → Chan → List ℕ
bytes_on written Out = written.out
bytes_on written Report = written.report
bytes_on written Record = written.recorded
bytes_on written State = state_bytes written.saved

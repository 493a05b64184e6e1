-- One attempt of a session that is debugged.
use Rattle.std.specs.Prelude.{ℕ, ◌≡◌, ◌+◌, ◌<◌, ◌^◌, List, [], ◌∷◌, ◌++◌, Option, None, Some, Result, Ok, Err}
use Rattle.vax_outside.specs.Channels.{Channels, Grew, GrewByPrefix, only}
use Rattle.vax_outside.specs.declared.traits.Chan.TheVariants.{Out}
use Rattle.vax_flat.specs.Parts.{Place, GoesBy}
use Rattle.vax_machine.specs.Machine.{Means, residence}
use Rattle.vax_console.specs.Transcript.{Session, stepped}
use Rattle.vax_console.specs.Ends.{IsAt, Scene, writes}
use Rattle.vax_debug.specs.Pages.{Pages, attempted, is_parted, missed_by, told_of}
use Rattle.vax_debug.specs.Sessions.{Arrives, IsHere, Origin}
use Rattle.vax_debug.specs.declared.attempts.Tried.{Tried}
use Rattle.vax_debug.specs.declared.attempts.Tried.TheVariants as tried
use Rattle.vax_debug.specs.declared.failure.Failure.{Failure}
use Rattle.vax_debug.specs.declared.failure.Failure.TheVariants as failure

-- a result without its answer
abbrev pub bare : {T : Type 0} → Result T Failure → Result (Unit {0}) Failure
bare (Ok x) = Ok tt
bare (Err e) = Err e

-- that of an attempt that missed no page, with what is told of it
abbrev pub missing_none : Tried → Result (Unit {0}) Failure → Result Tried Failure
missing_none told (Ok x) = Ok told
missing_none told (Err e) = Err e

-- The machine stands for a place by which the session's next step goes, with no page pinned; since the origin the session's output and the replies were
-- written.
pub record IsUnderway (o : Origin) (s : Session) (replies : List ℕ) (v : Scene) : Type 0 where
  pub place : Place
  pub goes : GoesBy s.machine place
  pub means : Means v.machine v.file place
  pub steps : v.machine.steps ≡ s.steps
  pub going : v.machine.ended ≡ None
  pub pinned : (residence v.machine).pinned ≡ []
  pub sent : List ℕ
  pub output : s.machine.output ≡ o.flat.output ++ sent
  pub wrote : Grew o.channels v.sink (writes sent replies)

-- the rest of the step is made from there
abbrev pub ResumesFrom : Scene → Scene → Result (Unit {0}) Failure → (turns : ℕ) → Type 0
ResumesFrom before after result turns =
    (o : Origin) (s : Session) (replies : List ℕ) → IsUnderway o s replies before → s.steps + 1 < 2 ^ 64 →
    Arrives result turns 1 (stepped s) o s replies after

-- the byte that a step sends, if it sends one
abbrev pub bytes_sent : Option ℕ → List ℕ
bytes_sent None = []
bytes_sent (Some byte) = byte ∷ []

-- bytes were written to Out, or a prefix of them where a write failed
abbrev pub Sends : Result (Unit {0}) Failure → Option Channels → Option Channels → List ℕ → Type 0
Sends (Ok x) old new bytes = Grew old new (only Out bytes)
Sends (Err failure.Turns) old new bytes = ⊥
Sends (Err failure.PageFault) old new bytes = ⊥
Sends (Err failure.WriteFault) old new bytes = GrewByPrefix old new (only Out bytes)

-- A service of the page that was missed leaves the session where it is, also where it failed.
abbrev pub Brings : Result Tried Failure → (page : ℕ) → Origin → Session → List ℕ → Scene → Type 0
Brings (Ok found) page o s replies v = (found ≡ tried.Missed page) × IsHere o s replies v
Brings (Err failure.Turns) page o s replies v = ⊥
Brings (Err failure.PageFault) page o s replies v = IsAt o.flat s replies v.machine v.file o.channels v.sink
Brings (Err failure.WriteFault) page o s replies v = ⊥

abbrev pub BringsFrom : Scene → Scene → Result Tried Failure → (page : ℕ) → Type 0
BringsFrom before after result page =
    (o : Origin) (s : Session) (replies : List ℕ) → IsAt o.flat s replies before.machine before.file o.channels before.sink →
    Brings result page o s replies after

-- An attempt tells which page it missed, and leaves the session where it is; or it missed none, and the step was made, and it tells whether that was in parts. Where it failed
-- the machine is on the way through the step.
abbrev pub Attempts : Result Tried Failure → (turns : ℕ) → (missed : Option ℕ) → Origin → Session → List ℕ → Scene → Type 0
Attempts (Ok found) turns missed o s replies v = (found ≡ told_of missed (is_parted s)) × IsHere o (attempted missed s) replies v
Attempts (Err e) turns missed o s replies v = Arrives (Err e) turns 1 s o s replies v

-- so it does in each session that the machine makes, by the pages that are resident
abbrev pub AttemptsFrom : Scene → Scene → Result Tried Failure → (turns : ℕ) → Pages → Type 0
AttemptsFrom before after result turns pages =
    (o : Origin) (s : Session) (replies : List ℕ) → IsHere o s replies before → s.steps + 1 < 2 ^ 64 →
    Attempts result turns (missed_by pages s) o s replies after

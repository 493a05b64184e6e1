-- One step of a session that is debugged, and whether to stop behind it.
use Rattle.std.specs.Prelude.{ℕ, ◌≡◌, ◌+◌, ◌<◌, ◌^◌, Bool, List, Result, Ok, Err}
use Rattle.vax_console.specs.Ends.{Scene}
use Rattle.vax_console.specs.Transcript.{Session, stepped}
use Rattle.vax_debug.specs.Sessions.{Arrives, IsHere, Origin}
use Rattle.vax_debug.specs.Travel.{Stops, has_halted}
use Rattle.vax_debug.specs.declared.failure.Failure.{Failure}
use Rattle.vax_debug.specs.declared.failure.Failure.TheVariants as failure

-- a result without what it tells
abbrev pub told : Result Bool Failure → Result (Unit {0}) Failure
told (Ok b) = Ok tt
told (Err e) = Err e

-- it is told whether to stop here, or the page file failed; the session is where it was
abbrev pub Halts : Result Bool Failure → Stops → Origin → Session → List ℕ → Scene → Type 0
Halts (Ok b) stops o s replies v = (b ≡ has_halted stops s) × IsHere o s replies v
Halts (Err failure.Turns) stops o s replies v = ⊥
Halts (Err failure.PageFault) stops o s replies v = IsHere o s replies v
Halts (Err failure.WriteFault) stops o s replies v = ⊥

abbrev pub HaltsFrom : Scene → Scene → Result Bool Failure → Stops → Type 0
HaltsFrom before after result stops =
    (o : Origin) (s : Session) (replies : List ℕ) → IsHere o s replies before → Halts result stops o s replies after

-- the step was made, and it is told whether to stop; or it failed on the way
abbrev pub Steps : Result Bool Failure → (turns : ℕ) → Stops → Origin → Session → List ℕ → Scene → Type 0
Steps (Ok b) turns stops o s replies v = (b ≡ has_halted stops (stepped s)) × IsHere o (stepped s) replies v
Steps (Err e) turns stops o s replies v = Arrives (Err e) turns 1 (stepped s) o s replies v

abbrev pub StepsFrom : Scene → Scene → Result Bool Failure → (turns : ℕ) → Stops → Type 0
StepsFrom before after result turns stops =
    (o : Origin) (s : Session) (replies : List ℕ) → IsHere o s replies before → s.steps + 1 < 2 ^ 64 → Steps result turns stops o s replies after

-- A session that is debugged, and the machine that makes it.
use Rattle.std.specs.Prelude.{ℕ, ◌≡◌, ◌+◌, ◌<◌, ◌≤◌, ◌^◌, Bool, true, if◌then◌else◌, List, length, Option, Result, Ok, Err}
use Rattle.vax_outside.specs.Channels.{Channels}
use Rattle.vax_outside.specs.Faults.{Rose}
use Rattle.vax_outside.specs.declared.faults.Failures.{Failures}
use Rattle.vax_flat.specs.Step.{Flat}
use Rattle.vax_pager.specs.declared.calls.PageFault.{PageFault}
use Rattle.vax_machine.specs.Console.{IsBetween, memory_from, with_bytes, with_register}
use Rattle.vax_console.specs.Transcript.{Session, advanced, may_deposit, with_machine}
use Rattle.vax_console.specs.Ends.{ChangesOnce, IsAt, IsOutOfTurns, IsPartOf, IsWithin, Scene}
use Rattle.vax_debug.specs.declared.failure.Failure.{Failure}
use Rattle.vax_debug.specs.declared.failure.Failure.TheVariants as failure

-- where a session began: the flat machine, and what had been written
pub record Origin : Type 0 where
  pub flat : Flat
  pub channels : Option Channels

-- The machine stands between two steps for the session's flat machine, as many steps were made, and since the origin the output of these and the replies were
-- written.
pub record IsHere (o : Origin) (s : Session) (replies : List ℕ) (v : Scene) : Type 0 where
  pub at : IsAt o.flat s replies v.machine v.file o.channels v.sink
  pub between : IsBetween v.machine

-- it is where it was, in each session that it makes
abbrev pub StaysHere : Scene → Scene → Type 0
StaysHere before after = (o : Origin) (s : Session) (replies : List ℕ) → IsHere o s replies before → IsHere o s replies after

-- a prefix was written of what some of so many steps write
pub record IsLost (count : ℕ) (o : Origin) (s : Session) (replies : List ℕ) (v : Scene) : Type 0 where
  pub made : ℕ
  pub few : made ≤ count
  pub part : IsPartOf o.flat (advanced made s) replies o.channels v.sink

-- Steps lead there. At the limit of turns, or where a call of the page file failed, the machine is on the way through so many steps.
abbrev pub Arrives : Result (Unit {0}) Failure → (turns count : ℕ) → Session → Origin → Session → List ℕ → Scene → Type 0
Arrives (Ok x) turns count t o s replies v = IsHere o t replies v
Arrives (Err failure.Turns) turns count t o s replies v =
    IsOutOfTurns turns s count v.machine × IsWithin o.flat s count replies v.machine v.file o.channels v.sink
Arrives (Err failure.PageFault) turns count t o s replies v = IsWithin o.flat s count replies v.machine v.file o.channels v.sink
Arrives (Err failure.WriteFault) turns count t o s replies v = IsLost count o s replies v

-- The failures of the page file and of the sink, before and now. A call that failed is the last that was made, but that a call of the page file may have failed
-- before a write.
abbrev pub Counts : Result (Unit {0}) Failure → (file_before file_now sink_before sink_now : Failures) → Type 0
Counts (Ok x) file_before file_now sink_before sink_now = (file_now.count ≡ file_before.count) × (sink_now.count ≡ sink_before.count)
Counts (Err failure.Turns) file_before file_now sink_before sink_now =
    (file_now.count ≡ file_before.count) × (sink_now.count ≡ sink_before.count)
Counts (Err failure.PageFault) file_before file_now sink_before sink_now =
    (file_before.count ≤ file_now.count) × Rose file_before file_now × (sink_now.count ≡ sink_before.count)
Counts (Err failure.WriteFault) file_before file_now sink_before sink_now =
    (file_before.count ≤ file_now.count) × (sink_before.count ≤ sink_now.count) × Rose sink_before sink_now × ChangesOnce file_before file_now

-- so they do in each session that the machine makes, if there are numbers for the steps
abbrev pub ArrivesFrom : Scene → Scene → Result (Unit {0}) Failure → (turns : ℕ) → (Session → ℕ) → (Session → Session) → Type 0
ArrivesFrom before after result turns count target =
    (o : Origin) (s : Session) (replies : List ℕ) → IsHere o s replies before → s.steps + count s < 2 ^ 64 →
    Arrives result turns (count s) (target s) o s replies after

-- the same of steps for which there are always numbers, as those up to a limit
abbrev pub LeadsFrom : Scene → Scene → Result (Unit {0}) Failure → (turns : ℕ) → (Session → ℕ) → (Session → Session) → Type 0
LeadsFrom before after result turns count target =
    (o : Origin) (s : Session) (replies : List ℕ) → IsHere o s replies before → Arrives result turns (count s) (target s) o s replies after

-- these are the bytes of the session's memory
abbrev pub ShowsFrom : Scene → (addr count : ℕ) → List (Option ℕ) → Type 0
ShowsFrom before addr count cells =
    (o : Origin) (s : Session) (replies : List ℕ) → IsHere o s replies before → cells ≡ memory_from s.machine.memory addr count

-- bytes of its memory were put there, where they may be
abbrev pub session_with_bytes : (addr : ℕ) → List ℕ → Session → Session
session_with_bytes addr bytes s =
    if may_deposit s.machine.memory addr (length bytes) then with_machine (with_bytes addr bytes s.machine) s else s

-- The answer tells whether they may be. After a failure the session is where it was.
abbrev pub Deposits : Result Bool PageFault → ℕ → List ℕ → Origin → Session → List ℕ → Scene → Type 0
Deposits (Ok put) addr bytes o s replies v =
    (put ≡ may_deposit s.machine.memory addr (length bytes)) × IsHere o (session_with_bytes addr bytes s) replies v
Deposits (Err e) addr bytes o s replies v = IsHere o s replies v

abbrev pub DepositsFrom : Scene → Scene → ℕ → List ℕ → Result Bool PageFault → Type 0
DepositsFrom before after addr bytes result =
    (o : Origin) (s : Session) (replies : List ℕ) → IsHere o s replies before → Deposits result addr bytes o s replies after

-- a register has another value
abbrev pub SetsFrom : Scene → Scene → (register value : ℕ) → Bool → Type 0
SetsFrom before after register value result =
    (o : Origin) (s : Session) (replies : List ℕ) → IsHere o s replies before →
    (result ≡ true) × IsHere o (with_machine (with_register register value s.machine) s) replies after

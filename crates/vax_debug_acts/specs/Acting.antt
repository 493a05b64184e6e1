-- What a debugger is asked for, and what the machine makes of it.
use Rattle.std.specs.Prelude.{ℕ, ◌≡◌, ◌+◌, ◌≤◌, ◌⊎◌, List, ◌++◌, Option, Result, Ok, Err, OnOk}
use Rattle.vax_outside.specs.Channels.{Channels, Grew, GrewByPrefix, only}
use Rattle.vax_outside.specs.Faults.{Rose}
use Rattle.vax_outside.specs.declared.faults.Failures.{Failures}
use Rattle.vax_outside.specs.declared.traits.Chan.TheVariants.{Report}
use Rattle.vax_machine.specs.declared.event.Limits.{Limits}
use Rattle.vax_console.specs.Transcript.{Session}
use Rattle.vax_console.specs.Ends.{IsAt, IsOutOfTurns, IsWithin, Scene}
use Rattle.vax_debug.specs.Sessions.{IsHere, IsLost, Origin}
use Rattle.vax_debug.specs.declared.breaks.Plan.{Plan}
use Rattle.vax_debug.specs.declared.failure.Failure.{Failure}
use Rattle.vax_debug.specs.declared.failure.Failure.TheVariants as failure

-- how many steps are made at most, where the session is then, and what is replied
pub record Act : Type 0 where
  pub most : ℕ
  pub session : Session
  pub reply : List ℕ

abbrev pub act : ℕ → Session → List ℕ → Act
act most session reply = record { most = most; session = session; reply = reply }

-- the session is there, and the first part of a reply was written
pub record IsToldInPart (o : Origin) (s : Session) (replies reply : List ℕ) (v : Scene) : Type 0 where
  pub told : List ℕ
  pub untold : List ℕ
  pub splits : told ++ untold ≡ reply
  pub at : IsAt o.flat s (replies ++ told) v.machine v.file o.channels v.sink

-- a session is where it was, and a reply was written
abbrev pub Tells : Result (Unit {0}) Failure → Origin → Session → (replies reply : List ℕ) → Scene → Type 0
Tells (Ok x) o s replies reply v = IsHere o s (replies ++ reply) v
Tells (Err failure.Turns) o s replies reply v = ⊥
Tells (Err failure.PageFault) o s replies reply v = IsToldInPart o s replies reply v
Tells (Err failure.WriteFault) o s replies reply v = IsToldInPart o s replies reply v

-- so it is in each session that the machine makes
abbrev pub RepliesFrom : Scene → Scene → Result (Unit {0}) Failure → (Session → List ℕ) → Type 0
RepliesFrom before after result reply =
    (o : Origin) (s : Session) (replies : List ℕ) → IsHere o s replies before → Tells result o s replies (reply s) after

-- What was asked for was done. At the limit of turns the machine is on the way through the steps. Where a call of the page file or a write failed it is so, or
-- all was done, and a part of the reply was written.
abbrev pub Acts : Result (Unit {0}) Failure → (turns : ℕ) → Act → Origin → Session → List ℕ → Scene → Type 0
Acts (Ok x) turns a o s replies v = IsHere o a.session (replies ++ a.reply) v
Acts (Err failure.Turns) turns a o s replies v =
    IsOutOfTurns turns s a.most v.machine × IsWithin o.flat s a.most replies v.machine v.file o.channels v.sink
Acts (Err failure.PageFault) turns a o s replies v =
    IsWithin o.flat s a.most replies v.machine v.file o.channels v.sink ⊎ IsToldInPart o a.session replies a.reply v
Acts (Err failure.WriteFault) turns a o s replies v = IsLost a.most o s replies v ⊎ IsToldInPart o a.session replies a.reply v

-- so it was in each session that the machine makes
abbrev pub ActsFrom : Scene → Scene → Result (Unit {0}) Failure → Limits → (Session → Act) → Type 0
ActsFrom before after result limits asked =
    (o : Origin) (s : Session) (replies : List ℕ) → IsHere o s replies before → Acts result limits.turns (asked s) o s replies after

-- and where steps stop and what is watched is this
abbrev pub BreaksFrom : Scene → Result (Unit {0}) Failure → Plan → (Session → Plan) → Type 0
BreaksFrom before result plan asked =
    (o : Origin) (s : Session) (replies : List ℕ) → IsHere o s replies before → OnOk result (plan ≡ asked s)

-- a text was written, or a prefix of it where a write failed
abbrev pub Replies : Result (Unit {0}) Failure → Failures → Failures → Option Channels → Option Channels → List ℕ → Type 0
Replies (Ok x) before now old new text = (now.count ≡ before.count) × Grew old new (only Report text)
Replies (Err failure.Turns) before now old new text = ⊥
Replies (Err failure.PageFault) before now old new text = ⊥
Replies (Err failure.WriteFault) before now old new text =
    (before.count ≤ now.count) × Rose before now × GrewByPrefix old new (only Report text)

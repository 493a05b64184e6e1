-- What a run comes to, by the turns of the flat machine.
use Rattle.std.specs.Prelude.{ℕ, suc, ◌≡◌, ◌+◌, ◌-◌, ◌*◌, ◌^◌, ◌<◌, ◌≤◌, Option, Some, None, List, [], ◌++◌, length}
use Rattle.vax_space.specs.declared.Area.{Area}
use Rattle.vax_outside.specs.Blocks.{BlockFile}
use Rattle.vax_outside.specs.Channels.{Channels}
use Rattle.vax_flat.specs.Parts.{Place}
use Rattle.vax_pager.specs.Meaning.{pages}
use Rattle.vax_sched.specs.Due.{due}
use Rattle.vax_sched.specs.declared.rule.Rule.{Rule}
use Rattle.vax_machine.specs.Blocks.{Moved, MovedFirst}
use Rattle.vax_machine.specs.Calling.{NextCallFails, asking_of}
use Rattle.vax_machine.specs.Machine.{Means, modified_of, residence}
use Rattle.vax_machine.specs.Paged.{Paged, Why, ByEnding, BySteps, ByTurns, all_evicted, all_named, paged, stops}
use Rattle.vax_machine.specs.Touched.{PinsTouched}
use Rattle.vax_machine.specs.Writing.{Origin, Wrote, WrotePart}
use Rattle.vax_machine.specs.declared.engine.Engine.{Engine}
use Rattle.vax_machine.specs.declared.event.Limits.{Limits}
use Rattle.vax_machine.specs.declared.event.RunEnd.{RunEnd}
use Rattle.vax_machine.specs.declared.event.RunEnd.TheVariants.{Ended, Steps, Turns, PageFault, WriteFault}

-- where the turns of a machine that stands for this place begin
abbrev pub begun : Engine → Place → Paged
begun m place = record { place = place; steps = m.steps; parts = 0; turns = m.turns; residence = residence m; modified = modified_of m; evictions = []; blocked = (pages m.pager).blocked; reads = 0 }

-- the machine, with what the file tells, is where the paged run is
pub record Tracks (m : Engine) (file : Option BlockFile) (p : Paged) : Type 0 where
  pub steps : m.steps ≡ p.steps
  pub turns : m.turns ≡ p.turns
  pub residence : residence m ≡ p.residence
  pub modified : modified_of m ≡ p.modified
  pub blocked : (pages m.pager).blocked ≡ p.blocked
  pub means : Means m file p.place

-- Few turns were made in vain since the beginning: attempts are at most 41 for each part that was completed, one for each page that is pinned, of which
-- there are at most 40, and one for each eviction of a pinned page, as long as these haven't been counted up to their last value.
pub record FewTurns (b p : Paged) : Type 0 where
  pub pins : length p.residence.pinned ≤ 40
  pub turns : p.residence.spoiled < 2 ^ 64 - 1 →
      p.turns + 41 * b.parts + length b.residence.pinned + b.residence.spoiled ≤ 41 * p.parts + length p.residence.pinned + p.residence.spoiled + b.turns

-- where a run of this machine, with these limits, begins
abbrev pub origin : Limits → List Area → Paged → Option BlockFile → Option Channels → Origin
origin limits areas b before old = record { at = b; areas = areas; file = before; channels = old; listed = limits.listed }

-- none of so many turns after the beginning was stopped
pub record Runs (limits : Limits) (areas : List Area) (rules : List Rule) (b : Paged) (count : ℕ) : Type 0 where
  pub going : (i : ℕ) → i < count → stops limits.steps limits.turns (paged areas (due rules) i b) ≡ None

abbrev pub why_of : RunEnd → Option Why
why_of (Ended e) = Some (ByEnding e)
why_of Steps = Some BySteps
why_of Turns = Some ByTurns
why_of PageFault = None
why_of WriteFault = None

-- the run stopped by itself
pub record IsWhole (limits : Limits) (areas : List Area) (rules : List Rule) (b : Paged) (result : RunEnd) (before : Option BlockFile) (m : Engine) (file : Option BlockFile) (old new : Option Channels) : Type 0 where
  pub count : ℕ
  pub goes : Runs limits areas rules b count
  pub stopped : stops limits.steps limits.turns (paged areas (due rules) count b) ≡ why_of result
  pub tracks : Tracks m file (paged areas (due rules) count b)
  pub wrote : Wrote (origin limits areas b before old) (paged areas (due rules) count b) new
  pub moved : Moved areas b (paged areas (due rules) count b) before file
  pub few : FewTurns b (paged areas (due rules) count b)

-- A call of the page file failed: the place is that after so many whole turns, and the first of what was due then was made absent. The call is the next
-- that this turn makes, and each before it was made.
pub record IsCut (limits : Limits) (areas : List Area) (rules : List Rule) (b : Paged) (before : Option BlockFile) (m : Engine) (file : Option BlockFile) (old new : Option Channels) : Type 0 where
  pub count : ℕ
  pub goes : Runs limits areas rules b (suc count)
  pub front : List ℕ
  pub rest : List ℕ
  pub splits : all_named areas (due rules ((paged areas (due rules) count b).turns + 1)) ≡ front ++ rest
  pub residence : residence m ≡ (all_evicted front (paged areas (due rules) count b)).residence
  pub means : Means m file (paged areas (due rules) count b).place
  pub steps : m.steps ≡ (paged areas (due rules) count b).steps
  pub fails : NextCallFails areas b (all_evicted front (paged areas (due rules) count b)) rest (asking_of m) before file
  pub wrote : Wrote (origin limits areas b before old) (all_evicted front (paged areas (due rules) count b)) new
  pub few : (all_evicted front (paged areas (due rules) count b)).residence.spoiled < 2 ^ 64 - 1 →
      m.turns + 41 * b.parts + length b.residence.pinned + b.residence.spoiled
      ≤ 41 * (paged areas (due rules) count b).parts + 40 + (all_evicted front (paged areas (due rules) count b)).residence.spoiled + b.turns

-- a write failed: a prefix of what the whole run writes was written
pub record IsLost (limits : Limits) (areas : List Area) (rules : List Rule) (b : Paged) (before file : Option BlockFile) (old new : Option Channels) : Type 0 where
  pub count : ℕ
  pub goes : Runs limits areas rules b count
  pub why : Why
  pub stopped : stops limits.steps limits.turns (paged areas (due rules) count b) ≡ Some why
  pub wrote : WrotePart (origin limits areas b before old) (paged areas (due rules) count b) new
  pub moved : MovedFirst areas b (paged areas (due rules) count b) before file

abbrev pub Ends : Limits → List Area → List Rule → Paged → Option BlockFile → RunEnd → Engine → Option BlockFile → Option Channels → Option Channels → Type 0
Ends limits areas rules b before (Ended e) m file old new = IsWhole limits areas rules b (Ended e) before m file old new
Ends limits areas rules b before Steps m file old new = IsWhole limits areas rules b Steps before m file old new
Ends limits areas rules b before Turns m file old new = IsWhole limits areas rules b Turns before m file old new
Ends limits areas rules b before PageFault m file old new = IsCut limits areas rules b before m file old new
Ends limits areas rules b before WriteFault m file old new = IsLost limits areas rules b before file old new

-- a machine with what its page file and the channels tell
pub record System : Type 0 where
  pub machine : Engine
  pub file : Option BlockFile
  pub channels : Option Channels

abbrev pub system_of : Engine → Option BlockFile → Option Channels → System
system_of machine file channels = record { machine = machine; file = file; channels = channels }

-- a run: from whatever place the machine stands for, where the attempt that comes touches each page that is pinned
abbrev pub RunsTo : RunEnd → Limits → List Rule → System → System → Type 0
RunsTo result limits rules s t =
    (place : Place) → Means s.machine s.file place → PinsTouched (residence s.machine) place
    → Ends limits (pages s.machine.pager).areas rules (begun s.machine place) s.file result t.machine t.file s.channels t.channels

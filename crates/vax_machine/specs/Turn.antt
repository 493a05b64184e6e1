-- What several turns of a machine come to.
use Rattle.std.specs.Prelude.{ℕ, zero, suc, ◌≡◌, ◌≤◌, ◌<◌, ◌+◌, ◌⊎◌, Bool, Option, Some, None, Result, Ok, Err, List, ◌++◌}
use Rattle.vax_space.specs.declared.Area.{Area}
use Rattle.vax_outside.specs.Blocks.{BlockFile}
use Rattle.vax_outside.specs.Channels.{Channels, Grew, GrewByPrefix, append}
use Rattle.vax_flat.specs.Parts.{machine_at}
use Rattle.vax_pager.specs.Meaning.{pages}
use Rattle.vax_sched.specs.Due.{due}
use Rattle.vax_sched.specs.declared.rule.Rule.{Rule}
use Rattle.vax_machine.specs.Blocks.{Moved, MovedFirst}
use Rattle.vax_machine.specs.Calling.{NextCallFails, ServiceFails, WritesFirst, asking_of}
use Rattle.vax_machine.specs.Machine.{KeepsPlace, Means, Serves, ServesAs, keeping, residence}
use Rattle.vax_machine.specs.Paged.{Paged, Why, all_evicted, all_named, attempted, paged, stops}
use Rattle.vax_machine.specs.Run.{Runs, System, Tracks, system_of, why_of}
use Rattle.vax_machine.specs.Touched.{PinsTouched}
use Rattle.vax_machine.specs.Writing.{Origin, Passed, Sends, WrotePart, held_in, listed_by, output_of}
use Rattle.vax_machine.specs.declared.engine.Engine.{Engine}
use Rattle.vax_machine.specs.declared.event.Applied.TheVariants as applied
use Rattle.vax_machine.specs.declared.event.Applied.TheVariants.{Served}
use Rattle.vax_machine.specs.declared.event.Fault.{Fault}
use Rattle.vax_machine.specs.declared.event.Fault.TheVariants.{Page, Write}
use Rattle.vax_machine.specs.declared.event.Limits.{Limits}
use Rattle.vax_machine.specs.declared.event.RunEnd.{RunEnd}
use Rattle.vax_machine.specs.declared.event.RunEnd.TheVariants as run_end
use Rattle.vax_machine.specs.declared.held.Held.{Held}

-- what evictions leave, whatever the memory is
pub record Still (old new : Engine) : Type 0 where
  pub turns : new.turns ≡ old.turns
  pub steps : new.steps ≡ old.steps
  pub ended : new.ended ≡ old.ended
  pub areas : (pages new.pager).areas ≡ (pages old.pager).areas

-- at least one turn more, and at most so many
pub record HasGone (most : ℕ) (old new : Engine) : Type 0 where
  pub further : old.steps ≤ new.steps
  pub some : old.turns < new.turns
  pub turns : new.turns ≤ old.turns + most
  pub steps : new.steps ≤ old.steps + most
  pub areas : (pages new.pager).areas ≡ (pages old.pager).areas

-- the machine with its file, what was written and what is held back are where the paged run is
pub record Follows (o : Origin) (p : Paged) (m : Engine) (file : Option BlockFile) (now : Option Channels) (left : Held) : Type 0 where
  pub tracks : Tracks m file p
  pub sends : Sends o p now (held_in left)
  pub listed : left.listed ≡ o.listed
  pub areas : (pages m.pager).areas ≡ o.areas
  pub moved : Moved o.areas o.at p o.file file

-- a write failed: a prefix of what was to be written was, and the pages that were made absent were written to their blocks
pub record LostPart (o : Origin) (p : Paged) (file : Option BlockFile) (now : Option Channels) : Type 0 where
  pub wrote : WrotePart o p now
  pub moved : MovedFirst o.areas o.at p o.file file

-- the first of these pages were made absent, and the next is to be written
pub record IsBegun (o : Origin) (all : List ℕ) (p : Paged) (m : Engine) (file : Option BlockFile) (now : Option Channels) (left : Held) : Type 0 where
  pub front : List ℕ
  pub rest : List ℕ
  pub splits : all ≡ front ++ rest
  pub next : WritesFirst rest (all_evicted front p)
  pub follows : Follows o (all_evicted front p) m file now left

abbrev pub EvictedAll : Result (Unit {0}) Fault → Origin → List ℕ → Paged → Engine → Option BlockFile → Option Channels → Held → Type 0
EvictedAll (Ok x) o all p m file now left = Follows o (all_evicted all p) m file now left
EvictedAll (Err Page) o all p m file now left = IsBegun o all p m file now left
EvictedAll (Err Write) o all p m file now left = LostPart o (all_evicted all p) file now

-- so many attempts with nothing made absent between them
unfoldable pub attempted_times : ℕ → Paged → Paged
attempted_times zero p = p
attempted_times (suc count) p = attempted (attempted_times count p)

-- the first of so many attempts, which complete a step each, and the place behind them
pub record AreWhole (p : Paged) (count : ℕ) : Type 0 where
  pub going : (i : ℕ) → i ≤ count → (machine_at (attempted_times i p).place).ending ≡ None
  pub steps : (i : ℕ) → i ≤ count → (attempted_times i p).steps ≡ p.steps + i
  pub turns : (i : ℕ) → i ≤ count → (attempted_times i p).turns ≡ p.turns + i

-- the page that is wanted was served, and the page that made room, if one did, is listed
pub record HasServed (result : Result (Unit {0}) Fault) (old : Engine) (before : Option BlockFile) (left : Held) (was : Option Channels) (new : Engine) (after : Option BlockFile) (left_now : Held) (now : Option Channels) : Type 0 where
  pub page : Option ℕ
  pub serves : Serves old.wanted (keeping old) (Served page) (keeping new)
  pub keeps : KeepsPlace old before new after
  pub moves : ServesAs old.wanted (Served page) (pages old.pager) before (pages new.pager) after
  pub passes : Passed result (held_in left) (listed_by left.listed (old.turns + 1) page) (held_in left_now) was now

abbrev pub ServesAndLists : Result (Unit {0}) Fault → Engine → Option BlockFile → Held → Option Channels → Engine → Option BlockFile → Held → Option Channels → Type 0
ServesAndLists (Ok x) old before left was new after left_now now = HasServed (Ok x) old before left was new after left_now now
ServesAndLists (Err Page) old before left was new after left_now now =
    Serves old.wanted (keeping old) applied.Failed (keeping new) × KeepsPlace old before new after × (left_now ≡ left) × (now ≡ was)
    × ServesAs old.wanted applied.Failed (pages old.pager) before (pages new.pager) after
ServesAndLists (Err Write) old before left was new after left_now now = HasServed (Err Write) old before left was new after left_now now

-- one attempt behind these was made, what it missed was served, and it writes this
pub record IsServed (most : ℕ) (areas : List Area) (p : Paged) (more : Bool → Channels) (before : Option BlockFile) (m : Engine) (file : Option BlockFile) : Type 0 where
  pub count : ℕ
  pub few : count < most
  pub whole : AreWhole p count
  pub tracks : Tracks m file (attempted_times (suc count) p)
  pub writes : (listed : Bool) → output_of listed (attempted_times (suc count) p) ≡ append (output_of listed p) (more listed)
  pub alike : (pages m.pager).areas ≡ areas
  pub moved : Moved areas p (attempted_times (suc count) p) before file

-- one attempt behind these was made, and the page that it missed wasn't served
pub record IsUnserved (most : ℕ) (areas : List Area) (p : Paged) (before : Option BlockFile) (m : Engine) (file : Option BlockFile) : Type 0 where
  pub count : ℕ
  pub few : count < most
  pub whole : AreWhole p count
  pub silent : (listed : Bool) → output_of listed (attempted_times count p) ≡ output_of listed p
  pub steps : m.steps ≡ (attempted_times count p).steps
  pub turns : m.turns ≡ (attempted_times count p).turns + 1
  pub residence : residence m ≡ (attempted_times count p).residence
  pub means : Means m file (attempted_times count p).place
  pub fails : ServiceFails areas p (attempted_times count p) (asking_of m) before file

-- the attempts were made, and what they write was written or is held back
pub record AttemptsFollow (most : ℕ) (o : Origin) (p : Paged) (m : Engine) (file : Option BlockFile) (now : Option Channels) (left : Held) : Type 0 where
  pub count : ℕ
  pub few : count < most
  pub whole : AreWhole p count
  pub follows : Follows o (attempted_times (suc count) p) m file now left

-- the last one's page wasn't served
pub record AttemptsCut (most : ℕ) (o : Origin) (p : Paged) (m : Engine) (file : Option BlockFile) (now : Option Channels) (left : Held) : Type 0 where
  pub before : Option BlockFile
  pub unserved : IsUnserved most o.areas p before m file
  pub moved : Moved o.areas o.at p o.file before
  pub sends : Sends o p now (held_in left)

-- what they write wasn't written
pub record AttemptsLost (most : ℕ) (o : Origin) (p : Paged) (file : Option BlockFile) (now : Option Channels) : Type 0 where
  pub count : ℕ
  pub few : count < most
  pub whole : AreWhole p count
  pub part : LostPart o (attempted_times (suc count) p) file now

abbrev pub AttemptsDone : Result (Unit {0}) Fault → ℕ → Origin → Paged → Engine → Option BlockFile → Option Channels → Held → Type 0
AttemptsDone (Ok x) most o p m file now left = AttemptsFollow most o p m file now left
AttemptsDone (Err Page) most o p m file now left = AttemptsCut most o p m file now left
AttemptsDone (Err Write) most o p m file now left = AttemptsLost most o p file now

-- a turn that a call of the page file cut short
pub record IsCutTurn (o : Origin) (areas : List Area) (rules : List Rule) (p : Paged) (m : Engine) (file : Option BlockFile) (now : Option Channels) (left : Held) : Type 0 where
  pub front : List ℕ
  pub rest : List ℕ
  pub splits : all_named areas (due rules (p.turns + 1)) ≡ front ++ rest
  pub residence : residence m ≡ (all_evicted front p).residence
  pub means : Means m file p.place
  pub steps : m.steps ≡ p.steps
  pub fails : NextCallFails o.areas o.at (all_evicted front p) rest (asking_of m) o.file file
  pub sends : Sends o (all_evicted front p) now (held_in left)

-- several whole turns
pub record AreMade (limits : Limits) (o : Origin) (areas : List Area) (rules : List Rule) (p : Paged) (m : Engine) (file : Option BlockFile) (now : Option Channels) (left : Held) : Type 0 where
  pub count : ℕ
  pub going : (i : ℕ) → i ≤ count → stops limits.steps limits.turns (paged areas (due rules) i p) ≡ None
  pub follows : Follows o (paged areas (due rules) (suc count) p) m file now left

-- several whole turns, and one that was cut short
pub record AreCut (limits : Limits) (o : Origin) (areas : List Area) (rules : List Rule) (p : Paged) (m : Engine) (file : Option BlockFile) (now : Option Channels) (left : Held) : Type 0 where
  pub count : ℕ
  pub going : (i : ℕ) → i ≤ count → stops limits.steps limits.turns (paged areas (due rules) i p) ≡ None
  pub cut : IsCutTurn o areas rules (paged areas (due rules) count p) m file now left

-- several whole turns, and what they write wasn't written
pub record AreLost (limits : Limits) (o : Origin) (areas : List Area) (rules : List Rule) (p : Paged) (file : Option BlockFile) (now : Option Channels) : Type 0 where
  pub count : ℕ
  pub going : (i : ℕ) → i ≤ count → stops limits.steps limits.turns (paged areas (due rules) i p) ≡ None
  pub part : LostPart o (paged areas (due rules) (suc count) p) file now

abbrev pub TurnsMade : Result (Unit {0}) Fault → Limits → Origin → List Area → List Rule → Paged → Engine → Option BlockFile → Option Channels → Held → Type 0
TurnsMade (Ok x) limits o areas rules p m file now left = AreMade limits o areas rules p m file now left
TurnsMade (Err Page) limits o areas rules p m file now left = AreCut limits o areas rules p m file now left
TurnsMade (Err Write) limits o areas rules p m file now left = AreLost limits o areas rules p file now

abbrev pub why_stopped : Option RunEnd → Option Why
why_stopped (Some end) = why_of end
why_stopped None = None

-- by the run itself
abbrev pub IsStop : RunEnd → Type 0
IsStop (run_end.Ended e) = Unit {0}
IsStop run_end.Steps = Unit {0}
IsStop run_end.Turns = Unit {0}
IsStop run_end.PageFault = ⊥
IsStop run_end.WriteFault = ⊥

-- what is held back was written, or not all of it
abbrev pub Finishes : RunEnd → RunEnd → Channels → Option Channels → Option Channels → Type 0 → Type 0
Finishes end result left old new rose =
    ((result ≡ end) × Grew old new left) ⊎ ((result ≡ run_end.WriteFault) × GrewByPrefix old new left × rose)

-- where a run has come to that went on from there
pub record Reached (limits : Limits) (o : Origin) (areas : List Area) (rules : List Rule) (p : Paged) (m : Engine) (file : Option BlockFile) (now : Option Channels) (left : Held) : Type 0 where
  pub made : ℕ
  pub goes : Runs limits areas rules p made
  pub follows : Follows o (paged areas (due rules) made p) m file now left

-- a system within a run, with what is held back
pub record Underway : Type 0 where
  pub system : System
  pub held : Held

abbrev pub underway_of : Engine → Option BlockFile → Option Channels → Held → Underway
underway_of machine file channels held = record { system = system_of machine file channels; held = held }

-- it is where this paged run is
abbrev pub IsWithin : Origin → Paged → Underway → Type 0
IsWithin o p s = Follows o p s.system.machine s.system.file s.system.channels s.held

-- these pages are made absent, in order
abbrev pub MakesAbsent : Result (Unit {0}) Fault → List ℕ → Underway → Underway → Type 0
MakesAbsent result absent s t =
    (o : Origin) → (p : Paged) → IsWithin o p s → EvictedAll result o absent p t.system.machine t.system.file t.system.channels t.held

-- at most so many attempts are made, and the page that the last one missed is served
abbrev pub MakesAttempts : Result (Unit {0}) Fault → ℕ → Underway → Underway → Type 0
MakesAttempts result most s t =
    (o : Origin) → (p : Paged) → IsWithin o p s → PinsTouched p.residence p.place
    → AttemptsDone result most o p t.system.machine t.system.file t.system.channels t.held

-- turns are made
abbrev pub MakesTurns : Result (Unit {0}) Fault → Limits → List Rule → Underway → Underway → Type 0
MakesTurns result limits rules s t =
    (o : Origin) → (p : Paged) → IsWithin o p s → PinsTouched p.residence p.place
    → TurnsMade result limits o (pages s.system.machine.pager).areas rules p t.system.machine t.system.file t.system.channels t.held

-- the page that is wanted is served, and the one that made room is listed
abbrev pub ServesWanted : Result (Unit {0}) Fault → Underway → Underway → Type 0
ServesWanted result s t =
    ServesAndLists result s.system.machine s.system.file s.held s.system.channels t.system.machine t.system.file t.held t.system.channels

-- How many parts the steps of a session have, and how many turns they take.
use Rattle.std.specs.Prelude.{◌≡◌, ◌<◌, ◌≤◌, ◌+◌, ◌-◌, ◌*◌, ◌^◌, ℕ, zero, suc, List, [], ◌∷◌, ◌++◌, Option, None, Some, Result, Ok, Err}
use Rattle.vax_outside.specs.Blocks.{BlockFile}
use Rattle.vax_flat.specs.declared.Ending.{Ending}
use Rattle.vax_flat.specs.Parts.{Partway, Place, At, Within, partway}
use Rattle.vax_flat.specs.Step.{Flat}
use Rattle.vax_sched.specs.declared.rule.Rule.{Rule}
use Rattle.vax_machine.specs.Machine.{Means, residence}
use Rattle.vax_machine.specs.declared.engine.Engine.{Engine}
use Rattle.vax_machine.specs.declared.event.Limits.{Limits}
use Rattle.vax_script.specs.declared.request.Line.{Line}
use Rattle.vax_console.specs.Transcript.{Session, advanced, after_line, session_after}
use Rattle.vax_console.specs.Ends.{Scene, session_on, steps_in}
use Rattle.vax_console.specs.declared.stopped.Stopped.{Stopped}
use Rattle.vax_console.specs.declared.stopped.Stopped.TheVariants as stopped

-- before the last of them, each part left more
abbrev pub LeftBefore : ℕ → Flat → Type 0
LeftBefore zero m = Unit {0}
LeftBefore (suc count) m = (p : Partway) × (partway count m ≡ Some p)

-- the step of this machine has so many parts
pub record HasParts (m : Flat) (parts : ℕ) : Type 0 where
  pub last : ℕ
  pub counted : parts ≡ last + 1
  pub whole : partway last m ≡ None
  pub before : LeftBefore last m

-- a machine that ended makes no step
abbrev pub StepHasParts : Option Ending → Flat → ℕ → Type 0
StepHasParts (Some e) m parts = parts ≡ 0
StepHasParts None m parts = HasParts m parts

-- so many steps of a session have so many parts
unfoldable pub StepsHaveParts : (count : ℕ) → Session → ℕ → Type 0
StepsHaveParts zero s parts = parts ≡ 0
StepsHaveParts (suc count) s parts =
    (before : ℕ) × (here : ℕ) × StepsHaveParts count s before × StepHasParts (advanced count s).machine.ending (advanced count s).machine here × (parts ≡ before + here)

-- so many parts of this machine's step lead to a place
abbrev pub LeadsTo : Flat → Place → ℕ → Type 0
LeadsTo m (At n) parts = (n ≡ m) × (parts ≡ 0)
LeadsTo m (Within p) parts = (count : ℕ) × (partway count m ≡ Some p) × (parts ≡ count + 1)

-- the steps that lines make have so many parts
unfoldable pub LinesHaveParts : (limit : ℕ) → Session → List Line → ℕ → Type 0
LinesHaveParts limit s [] parts = parts ≡ 0
LinesHaveParts limit s (l ∷ lines) parts =
    (here : ℕ) × (rest : ℕ) × StepsHaveParts (steps_in limit s (l ∷ [])) s here × LinesHaveParts limit (after_line limit s l) lines rest × (parts ≡ here + rest)

-- Attempts are at most 41 for each part, one for each eviction of a pinned page, and so many to spare, as long as such evictions haven't been counted up to their
-- last value; with no rule in the schedule there are none.
pub record FewAttempts (rules : List Rule) (old new : Engine) (parts spare : ℕ) : Type 0 where
  pub spoils : (residence new).spoiled < 2 ^ 64 - 1 → (residence old).spoiled ≤ (residence new).spoiled
  pub turns : (residence new).spoiled < 2 ^ 64 - 1 → new.turns + (residence old).spoiled ≤ 41 * parts + spare + (residence new).spoiled + old.turns
  pub unspoiled : rules ≡ [] → (residence new).spoiled ≡ (residence old).spoiled

-- a request that makes no attempt
pub record MakesNone (old new : Engine) : Type 0 where
  pub steps : new.steps ≡ old.steps
  pub turns : new.turns ≡ old.turns
  pub spoiled : (residence new).spoiled ≡ (residence old).spoiled

-- so many steps were made with few attempts
pub record SpendsSteps (count : ℕ) (rules : List Rule) (s : Session) (old new : Engine) : Type 0 where
  pub parts : ℕ
  pub have : StepsHaveParts count s parts
  pub few : FewAttempts rules old new parts 0

-- and so were the first of them; 40 attempts at the part that is open may have missed a page
pub record SpendsFirst (count : ℕ) (rules : List Rule) (s : Session) (old new : Engine) (file : Option BlockFile) : Type 0 where
  pub made : ℕ
  pub counted : new.steps ≡ s.steps + made
  pub within : made ≤ count
  pub whole : ℕ
  pub have : StepsHaveParts made s whole
  pub place : Place
  pub means : Means new file place
  pub begun : ℕ
  pub leads : LeadsTo (advanced made s).machine place begun
  pub few : FewAttempts rules old new (whole + begun) 40

-- so they were, and the next of them is to be made
pub record SpendsOpen (count : ℕ) (rules : List Rule) (s : Session) (old new : Engine) (file : Option BlockFile) : Type 0 where
  pub first : SpendsFirst count rules s old new file
  pub below : first.made < count
  pub going : (advanced first.made s).machine.ending ≡ None

abbrev pub StepsSpend : {T : Type 0} → Result T Stopped → (count : ℕ) → List Rule → Session → Engine → Engine → Option BlockFile → Type 0
StepsSpend (Ok x) count rules s old new file = SpendsSteps count rules s old new
StepsSpend (Err stopped.Turns) count rules s old new file = SpendsOpen count rules s old new file
StepsSpend (Err stopped.PageFault) count rules s old new file = SpendsFirst count rules s old new file
StepsSpend (Err stopped.WriteFault) count rules s old new file = Unit {0}

-- lines were carried out with few attempts
pub record SpendsAll (limit : ℕ) (rules : List Rule) (s : Session) (lines : List Line) (old new : Engine) : Type 0 where
  pub parts : ℕ
  pub have : LinesHaveParts limit s lines parts
  pub few : FewAttempts rules old new parts 0

-- So many parts lead to a place behind so many steps: those of the lines in front, of the first of the next one's steps, and of the step that is open.
pub record LeadsThrough (limit : ℕ) (s : Session) (lines : List Line) (steps : ℕ) (place : Place) (parts : ℕ) : Type 0 where
  pub front : List Line
  pub back : List Line
  pub splits : lines ≡ front ++ back
  pub before : ℕ
  pub had : LinesHaveParts limit s front before
  pub count : ℕ
  pub counted : steps ≡ (session_after limit s front).steps + count
  pub within : count ≤ steps_in limit (session_after limit s front) back
  pub whole : ℕ
  pub have : StepsHaveParts count (session_after limit s front) whole
  pub begun : ℕ
  pub leads : LeadsTo (advanced count (session_after limit s front)).machine place begun
  pub all : parts ≡ before + whole + begun

-- lines were carried out with few attempts up to a place
pub record SpendsSome (limit : ℕ) (rules : List Rule) (s : Session) (lines : List Line) (old new : Engine) (file : Option BlockFile) : Type 0 where
  pub place : Place
  pub means : Means new file place
  pub parts : ℕ
  pub through : LeadsThrough limit s lines new.steps place parts
  pub few : FewAttempts rules old new parts 40

-- so they were, and the next of a line's steps is to be made
pub record SpendsInto (limit : ℕ) (rules : List Rule) (s : Session) (lines : List Line) (old new : Engine) (file : Option BlockFile) : Type 0 where
  pub some : SpendsSome limit rules s lines old new file
  pub below : some.through.count < steps_in limit (session_after limit s some.through.front) some.through.back
  pub going : (advanced some.through.count (session_after limit s some.through.front)).machine.ending ≡ None

-- how many turns lines take, by how they end
abbrev pub Spends : {T : Type 0} → Result T Stopped → (limit : ℕ) → List Rule → Session → List Line → Engine → Engine → Option BlockFile → Type 0
Spends (Ok x) limit rules s lines old new file = SpendsAll limit rules s lines old new
Spends (Err stopped.Turns) limit rules s lines old new file = SpendsInto limit rules s lines old new file
Spends (Err stopped.PageFault) limit rules s lines old new file = SpendsSome limit rules s lines old new file
Spends (Err stopped.WriteFault) limit rules s lines old new file = Unit {0}

-- so many turns they take from one scene to another, on whatever flat machine the first stands for
abbrev pub SpendsFrom : {T : Type 0} → (before after : Scene) → (limit : ℕ) → List Rule → List Line → Result T Stopped → Type 0
SpendsFrom before after limit rules lines result =
    (m : Flat) → Means before.machine before.file (At m) →
    Spends result limit rules (session_on before.machine m) lines before.machine after.machine after.file

-- the same of so many steps
abbrev pub StepsSpendFrom : {T : Type 0} → (before after : Scene) → (count : ℕ) → List Rule → Result T Stopped → Type 0
StepsSpendFrom before after count rules result =
    (m : Flat) → Means before.machine before.file (At m) →
    StepsSpend result count rules (session_on before.machine m) before.machine after.machine after.file

-- A limit of turns is too small for lines of so many parts: it is below 41 for each part, one for each eviction of a pinned page since, and the turns that
-- were made before.
abbrev pub IsTooSmall : (turns : ℕ) → (before after : Scene) → (parts : ℕ) → Type 0
IsTooSmall turns before after parts =
    (residence after.machine).spoiled < 2 ^ 64 - 1 →
    turns + (residence before.machine).spoiled < 41 * parts + (residence after.machine).spoiled + before.machine.turns

-- so it is for all parts of the lines, on whatever flat machine the first scene stands for
abbrev pub IsTooSmallFor : Limits → (before after : Scene) → List Line → Type 0
IsTooSmallFor limits before after lines =
    (m : Flat) (parts : ℕ) → Means before.machine before.file (At m) →
    LinesHaveParts limits.steps (session_on before.machine m) lines parts → IsTooSmall limits.turns before after parts

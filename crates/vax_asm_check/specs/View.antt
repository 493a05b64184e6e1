-- What the code's types mean.
use Rattle.std.specs.Global.{Vec}
use Rattle.std.specs.Prelude.{◌≡◌, ℕ, Bool, if◌then◌else◌, List, ◌∷◌, ◌++◌, length, map, take, Option, Some}
use Rattle.vax_asm.specs.View.{assembly_of}
use Rattle.vax_asm.specs.Walk.{Assembly, nothing}
use Rattle.vax_asm_check.specs.Faultless.{Following, said_at, stated as stated_faultless}
use Rattle.vax_asm_check.specs.Messages.{Message, messages_in}
use Rattle.vax_asm_check.specs.Restating.{Said, restated}
use Rattle.vax_asm_check.specs.declared.left.Left.{Left}
use Rattle.vax_asm_check.specs.declared.left.Stated.{Stated}
use Rattle.vax_asm_check.specs.declared.notes.Message as code_message
use Rattle.vax_asm_check.specs.declared.survey.Survey.{Survey}
use Rattle.vax_asm_circles.specs.Circles.{Step}
use Rattle.vax_asm_circles.specs.Growing.{IsIndexed, steps_in}
use Rattle.vax_asm_circles.specs.declared.growing.Steps.{Steps}
use Rattle.vax_asm_faults.specs.Survey.{Onward, circle_faults, stated, with_faults}
use Rattle.vax_asm_first.specs.Circles.{steps_by}
use Rattle.vax_asm_first.specs.Fixups.{Assignment}
use Rattle.vax_asm_first.specs.Standing as standing
use Rattle.vax_asm_first.specs.View.{marked_standing}
use Rattle.vax_asm_first.specs.declared.types.Origin.{Origin}
use Rattle.vax_asm_first.specs.declared.types.Standing.{Standing}
use Rattle.vax_asm_labels.specs.Naming.{with_waiting}
use Rattle.vax_asm_second.specs.declared.types.Fault.{Fault}
use Rattle.vax_dialect.specs.declared.Dialect.{Dialect}

abbrev pub left_of : Left → Assembly
left_of l = assembly_of l.standing l.assignments

abbrev pub said_of : Stated → Said
said_of s = record { origin = s.origin; text = s.line.text.items }

-- what stood at the mark, where there still is one, is this
abbrev pub IsMark : Standing → standing.Standing → Type 0
IsMark s before = (m : standing.Standing) → marked_standing s ≡ Some m → m ≡ before

-- the mark, with so many of the assignments, is this
abbrev pub IsMarkOf : Left → (many : ℕ) → Assembly → Type 0
IsMarkOf l many before = IsMark l.standing before.standing × (take many (left_of l).assignments ≡ before.assignments)

-- What stands is what the statements that stand leave, in the dialect of the source. The steps are those of the assignments.
pub record AreKept (dialect : Dialect) (list : Vec Stated) (left : Left) (all : Steps) : Type 0 where
  pub stood : restated (map said_of list.items) (nothing dialect) ≡ left_of left
  pub steps : steps_in all ≡ steps_by (left_of left).assignments
  pub indexed : IsIndexed all

abbrev pub IsKept : Survey → Type 0
IsKept s = AreKept s.dialect s.stood s.left s.steps

-- These are so many assignments with one more, if there is one, where the steps are those of the ones before.
abbrev pub AreMore : (before : ℕ) → List Step → List Assignment → (old : List Assignment) → Option Assignment → Type 0
AreMore before steps assignments old waiting = (length old ≡ before) × (assignments ≡ with_waiting waiting old) × (steps ≡ steps_by old)

-- the fault of the one more, if it is one that makes its name come back to itself
abbrev pub TellsCircle : List Fault → (before : ℕ) → List Step → List Assignment → Type 0
TellsCircle told before steps assignments = (old : List Assignment) (waiting : Option Assignment) → AreMore before steps assignments old waiting → told ≡ circle_faults old waiting

-- the steps are then those of all of them
abbrev pub KeepsSteps : (before : ℕ) → (old new : List Step) → List Assignment → Type 0
KeepsSteps before steps more assignments = (old : List Assignment) (waiting : Option Assignment) → AreMore before steps assignments old waiting → more ≡ steps_by assignments

-- A statement adds its faults to those before, and leaves this, whatever comes behind it.
abbrev pub GoesOn : Origin → (text : List ℕ) → (old new : Survey) → Type 0
GoesOn origin text old new =
    (next : Onward) → with_faults old.faults.items (stated origin text (left_of old.left) old.ended next) ≡ with_faults new.faults.items (next (left_of new.left) new.ended)

abbrev pub message_seen : code_message.Message → Message
message_seen m = record { tone = m.tone; origin = m.origin; text = m.text.items }

-- A statement is one without a fault that is carried out, or none, whatever comes behind it.
abbrev pub StandsOn : Origin → (text : List ℕ) → (stands : Bool) → (old new : Survey) → Type 0
StandsOn origin text stands old new =
    (next : Following) → stated_faultless (said_at origin text) (left_of old.left) old.ended next
    ≡ (if stands then said_at origin text ∷ next (left_of new.left) new.ended else next (left_of new.left) new.ended)

-- A statement adds the message that it is to those before, if it has no fault, whatever comes behind it.
abbrev pub TellsOn : Dialect → Origin → (text : List ℕ) → (old new : Survey) → (before after : List Message) → Type 0
TellsOn dialect origin text old new before after =
    (next : Following) → before ++ messages_in dialect (stated_faultless (said_at origin text) (left_of old.left) old.ended next)
    ≡ after ++ messages_in dialect (next (left_of new.left) new.ended)

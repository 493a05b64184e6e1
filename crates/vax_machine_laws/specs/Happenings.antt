-- Lists of events with their answers, and the parts that they complete.
use Rattle.std.specs.Prelude.{◌≡◌, ◌+◌, ℕ, Option, Some, None, List, [], ◌∷◌}
use Rattle.vax_outside.specs.Blocks.{BlockFile}
use Rattle.vax_flat.specs.declared.Ending.{Ending}
use Rattle.vax_machine.specs.Events.{KeepsPins}
use Rattle.vax_machine.specs.Machine.{Applies, HasSpent, IsSound, keeping}
use Rattle.vax_machine.specs.declared.engine.Engine.{Engine}
use Rattle.vax_machine.specs.declared.event.Applied.{Applied}
use Rattle.vax_machine.specs.declared.event.Applied.TheVariants.{Stepped, Parted, Absent, Ended, Served, Evicted, Flushed, Nothing, Failed}
use Rattle.vax_machine.specs.declared.event.Event.{Event}
use Rattle.vax_machine.specs.declared.event.Event.TheVariants as event

-- an event that happened, and its answer
pub record Happening : Type 0 where
  pub event : Event
  pub answer : Applied

-- What the contract of a machine says of one that happened to it and its page file. An attempt is made only where no page that was missed waits for its
-- service.
pub record Happens (h : Happening) (old : Engine) (before : Option BlockFile) (new : Engine) (after : Option BlockFile) : Type 0 where
  pub applies : Applies h.event old before h.answer new after
  pub unsettled : KeepsPins old before h.answer new
  pub spends : HasSpent h.answer (keeping old) (keeping new)
  pub sound : IsSound old → IsSound new
  pub served : h.event ≡ event.Attempt → old.wanted ≡ None

-- these happened one after the other
unfoldable pub AllHappen : List Happening → Engine → Option BlockFile → Engine → Option BlockFile → Type 0
AllHappen [] old before new after = (new ≡ old) × (after ≡ before)
AllHappen (h ∷ others) old before new after =
    (mid : Engine) × (between : Option BlockFile) × Happens h old before mid between × AllHappen others mid between new after

-- a part that was completed, and didn't end the run
abbrev pub part_by : Applied → ℕ
part_by (Stepped sent) = 1
part_by Parted = 1
part_by (Absent page) = 0
part_by (Ended e) = 0
part_by (Served victim) = 0
part_by Evicted = 0
part_by Flushed = 0
part_by Nothing = 0
part_by Failed = 0

unfoldable pub parts_by : List Happening → ℕ
parts_by [] = 0
parts_by (h ∷ others) = part_by h.answer + parts_by others

-- the part that ended the run, where one did
abbrev pub last_part : Option Ending → ℕ
last_part None = 0
last_part (Some e) = 1

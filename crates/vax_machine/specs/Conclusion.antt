-- What is made of a machine behind an attempt of its processor.
use Rattle.std.specs.Prelude.{ℕ, zero, suc, ◌≡◌, ◌==◌, if◌then◌else◌, Option, Some, None, length}
use Rattle.vax_outside.specs.Faults.{raised}
use Rattle.vax_flat.specs.declared.Ending.{Ending}
use Rattle.vax_cpu.specs.declared.cpu.Attempt.{Attempt}
use Rattle.vax_cpu.specs.declared.cpu.Attempt.TheVariants as attempt
use Rattle.vax_pager.specs.Meaning.{pages}
use Rattle.vax_pager.specs.Paging.{Paging}
use Rattle.vax_pager.specs.Steps.{settled}
use Rattle.vax_machine.specs.Residence.{most_pins}
use Rattle.vax_machine.specs.declared.engine.Engine.{Engine}
use Rattle.vax_machine.specs.declared.event.Applied.{Applied}
use Rattle.vax_machine.specs.declared.event.Applied.TheVariants as applied

-- the pager with all pins dropped, where as many pages are pinned as may be
unfoldable pub eased_pages : Paging → Paging
eased_pages s = if length s.pinned == most_pins then settled s else s

-- the pager with all pins dropped, where steps were completed
unfoldable pub settled_after : ℕ → Paging → Paging
settled_after zero s = s
settled_after (suc count) s = settled s

-- no page is wanted where steps were completed
unfoldable pub wanted_behind : ℕ → Option ℕ → Option ℕ
wanted_behind zero wanted = wanted
wanted_behind (suc count) wanted = None

abbrev pub applied_of : Attempt → Applied
applied_of (attempt.Step sent) = applied.Stepped sent
applied_of attempt.Part = applied.Parted
applied_of (attempt.Absent page) = applied.Absent page
applied_of (attempt.Ended e) = applied.Ended e

abbrev pub pages_after : Attempt → Paging → Paging
pages_after (attempt.Step sent) s = settled s
pages_after attempt.Part s = settled s
pages_after (attempt.Absent page) s = eased_pages s
pages_after (attempt.Ended e) s = settled s

abbrev pub steps_after : Attempt → ℕ → ℕ
steps_after (attempt.Step sent) steps = raised steps
steps_after attempt.Part steps = steps
steps_after (attempt.Absent page) steps = steps
steps_after (attempt.Ended e) steps = raised steps

abbrev pub wanted_after : Attempt → Option ℕ
wanted_after (attempt.Step sent) = None
wanted_after attempt.Part = None
wanted_after (attempt.Absent page) = Some page
wanted_after (attempt.Ended e) = None

abbrev pub ended_after : Attempt → Option Ending → Option Ending
ended_after (attempt.Step sent) ended = ended
ended_after attempt.Part ended = ended
ended_after (attempt.Absent page) ended = ended
ended_after (attempt.Ended e) ended = Some e

-- the attempt is counted; the pins are dropped where a step or a part was completed, and where as many pages are pinned as may be
pub record Concludes (last : Attempt) (old : Engine) (result : Applied) (new : Engine) : Type 0 where
  pub answer : result ≡ applied_of last
  pub cpu : new.cpu ≡ old.cpu
  pub pages : pages new.pager ≡ pages_after last (pages old.pager)
  pub steps : new.steps ≡ steps_after last old.steps
  pub turns : new.turns ≡ raised old.turns
  pub wanted : new.wanted ≡ wanted_after last
  pub ended : new.ended ≡ ended_after last old.ended

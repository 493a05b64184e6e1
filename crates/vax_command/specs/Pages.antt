-- What a run makes of the page file.
use Rattle.std.specs.Prelude.{◌≡◌, ◌<◌, ◌≤◌, ◌^◌, ◌⊎◌, ℕ, List, [], Option, Some}
use Rattle.vax_outside.specs.Blocks.{BlockFile}
use Rattle.vax_machine.specs.Blocks.{HasMoved, MovedFirst}
use Rattle.vax_machine.specs.Laws.{IsAsWritten}
use Rattle.vax_machine.specs.Paged.{all_evicted}
use Rattle.vax_machine.specs.Run.{FewTurns}
use Rattle.vax_command.specs.Around.{HasFailed, Outside}
use Rattle.vax_command.specs.Room.{ReadsFor}
use Rattle.vax_command.specs.Setup.{Setup, after_turns, before_turns}

-- At each of so many turns, whatever was made absent before its attempt, a page to which no attempt had written since it came in has the bytes that were
-- last written of it, or those at the start.
abbrev pub AreAsWritten : Setup → (count : ℕ) → Type 0
AreAsWritten setup count =
    (turn : ℕ) → turn ≤ count → (absent : List ℕ) → (page : ℕ) → page < 2 ^ 23
    → IsAsWritten setup.start page (all_evicted absent (after_turns setup turn))

-- A run made so many turns, and few of them in vain. It wrote the pages that were made absent, in order, each to which an attempt had written since
-- it came in, with its bytes at that moment. No other write was needed. This is what the file tells in the end, but for what was read for the report.
pub record HasRun (setup : Setup) (count : ℕ) (before : BlockFile) (after : Option BlockFile) : Type 0 where
  pub few : FewTurns (before_turns setup) (after_turns setup count)
  pub between : BlockFile
  pub moved : HasMoved setup.areas (before_turns setup) (after_turns setup count) before between
  pub needed : AreAsWritten setup count
  pub told : ReadsFor setup.items (Some between) after
  pub unread : setup.items ≡ [] → after ≡ Some between

-- so it did up to where it stops, but where a write to a channel failed before: then only the first of these pages were written
abbrev pub RunsOrLoses : Setup → (count : ℕ) → BlockFile → Outside → Type 0
RunsOrLoses setup count file outside =
    HasRun setup count file outside.pages.after.told
    ⊎ (HasFailed outside.sink × MovedFirst setup.areas (before_turns setup) (after_turns setup count) (Some file) outside.pages.after.told)

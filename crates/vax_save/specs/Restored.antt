-- The machine of a saved state.
use Rattle.std.specs.Prelude.{◌≡◌, ℕ, Some, None, Ok, List, []}
use Rattle.vax_outside.specs.Blocks.{BlockFile}
use Rattle.vax_flat.specs.Parts.{Place, GoesBy}
use Rattle.vax_flat.specs.Start.{start_memory}
use Rattle.vax_flat.specs.Step.{Flat}
use Rattle.vax_machine.specs.Events.{FollowsFrom}
use Rattle.vax_machine.specs.Machine.{Means}
use Rattle.vax_machine.specs.Meaning.{left_at, resumed_at}
use Rattle.vax_machine.specs.Paged.{begun_at}
use Rattle.vax_machine.specs.Run.{begun}
use Rattle.vax_machine.specs.declared.engine.Engine.{Engine}
use Rattle.vax_save.specs.declared.restoring.State.{State}
use Rattle.vax_save.specs.Restoring.{Restored, restored}

abbrev pub state : State → Restored
state s = record { machine = left_at s.core (start_memory s.space) s.term []; latch = s.latch; steps = s.steps }

-- where the flat machine is, behind this output
abbrev pub restored_place : Restored → List ℕ → Place
restored_place r output = resumed_at (record r.machine { output = output }) r.latch

-- With every page file, and whatever was sent before, the machine stands for this place, and for the run from each start whose step comes by it. Nothing is
-- resident, and so many steps are counted.
pub record IsRestored (m : Engine) (frames : ℕ) (r : Restored) : Type 0 where
  pub means : (file : BlockFile) (output : List ℕ) → Means m (Some file) (restored_place r output)
  pub begun : (place : Place) → begun m place ≡ begun_at frames r.steps place
  pub follows : (file : BlockFile) (output : List ℕ) (start : Flat) → GoesBy start (restored_place r output) → FollowsFrom r.steps m (Some file) start
  pub going : m.ended ≡ None

-- the bytes are without a fault, and the machine is theirs
abbrev pub HasRestored : List ℕ → ℕ → Engine → Type 0
HasRestored bytes frames m = (r : Restored) × (restored bytes ≡ Ok r) × IsRestored m frames r

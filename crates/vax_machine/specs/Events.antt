-- Lists of events.
use Rattle.std.specs.Prelude.{◌≡◌, ◌+◌, ℕ, true, Option, Some, List, [], ◌∷◌}
use Rattle.vax_outside.specs.Blocks.{BlockFile}
use Rattle.vax_flat.specs.Parts.{Place, GoesBy, touches_at}
use Rattle.vax_flat.specs.Step.{Flat, run}
use Rattle.vax_machine.specs.Machine.{Applies, Keeping, Means, keeping, residence}
use Rattle.vax_machine.specs.Paged.{Paged}
use Rattle.vax_machine.specs.Touched.{PinsTouched, is_touched}
use Rattle.vax_machine.specs.declared.engine.Engine.{Engine}
use Rattle.vax_machine.specs.declared.event.Applied.{Applied}
use Rattle.vax_machine.specs.declared.event.Applied.TheVariants.{Absent}
use Rattle.vax_machine.specs.declared.event.Event.{Event}

-- these events happen to a machine and what its page file tells, one after the other
unfoldable pub Happen : List Event → Engine → Option BlockFile → Engine → Option BlockFile → Type 0
Happen [] old before new after = (new ≡ old) × (after ≡ before)
Happen (event ∷ events) old before new after =
    (mid : Engine) × (between : Option BlockFile) × (result : Applied) × Applies event old before result mid between × Happen events mid between new after

-- A paged run that began with this number of steps at this flat machine is where the steps that it has made since lead, or where parts of the next one do.
pub record GoesOn (first : ℕ) (start : Flat) (p : Paged) : Type 0 where
  pub made : ℕ
  pub steps : p.steps ≡ first + made
  pub goes : GoesBy (run made start) p.place

-- an attempt that misses a page keeps what is resident and pinned, where it touches each page that is pinned
abbrev pub KeepsPins : Engine → Option BlockFile → Applied → Engine → Type 0
KeepsPins old before result new =
    (place : Place) → Means old before place → PinsTouched (residence old) place → (page : ℕ) → result ≡ Absent page → residence new ≡ residence old

-- the attempt that comes touches each page that is pinned, and the one that is wanted
pub record IsTouching (k : Keeping) (place : Place) : Type 0 where
  pub pins : PinsTouched k.residence place
  pub wanted : (page : ℕ) → k.wanted ≡ Some page → is_touched page (touches_at place) ≡ true

-- A machine that began with this number of steps at this flat machine stands, with its file, for the run from there: it is where the steps that it
-- has completed since lead, or where parts of the next one lead.
pub record FollowsFrom (first : ℕ) (m : Engine) (file : Option BlockFile) (start : Flat) : Type 0 where
  pub place : Place
  pub means : Means m file place
  pub made : ℕ
  pub steps : m.steps ≡ first + made
  pub goes : GoesBy (run made start) place
  pub touching : IsTouching (keeping m) place

-- one that counted no steps at the start
abbrev pub FollowsRun : Engine → Option BlockFile → Flat → Type 0
FollowsRun m file start = FollowsFrom 0 m file start

-- where the machine with its file followed the run from a start, whatever steps it had counted there, it does so afterwards
abbrev pub KeepsRun : Engine → Option BlockFile → Engine → Option BlockFile → Type 0
KeepsRun old before new after = (first : ℕ) (start : Flat) → FollowsFrom first old before start → FollowsFrom first new after start

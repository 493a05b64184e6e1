-- How many turns several processes take.
use Rattle.std.specs.Prelude.{ℕ, ◌≡◌, ◌+◌, ◌*◌, ◌≤◌, Some, List, [], ◌∷◌, length, slice_get}
use Rattle.vax_space.specs.declared.Area.{Area}
use Rattle.vax_space.specs.Faults.{IsSpace}
use Rattle.vax_flat.specs.Port.{layout}
use Rattle.vax_flat.specs.Step.{Flat}
use Rattle.vax_jobs.specs.Shared.{Process, Shared}

-- the memory of a flat machine has the areas of a space
pub record HasSpace (m : Flat) : Type 0 where
  pub areas : List Area
  pub space : IsSpace areas
  pub memory : layout m.memory ≡ layout areas

-- that of each has
pub record HaveSpaces (starts : List Flat) : Type 0 where
  pub each : (job : ℕ) → (start : Flat) → slice_get starts job ≡ Some start → HasSpace start

-- 41 turns for each part that the processes completed, and 40 for the part of each that is open
unfoldable pub most_turns : List Process → ℕ
most_turns [] = 0
most_turns (p ∷ ps) = 41 * p.parts + 40 + most_turns ps

abbrev pub HasFewTurns : Shared → Type 0
HasFewTurns s = s.turns ≤ most_turns s.processes

-- 41 for each part that they completed, and one for each page that they have pinned
unfoldable pub paid : List Process → ℕ
paid [] = 0
paid (p ∷ ps) = 41 * p.parts + length p.pinned + paid ps

-- the turns from the one to the other were paid, and few pages are pinned there
pub record IsPaid (s t : Shared) : Type 0 where
  pub turns : t.turns + paid s.processes ≤ s.turns + paid t.processes
  pub most : paid t.processes ≤ most_turns t.processes

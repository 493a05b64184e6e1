-- What the laws of machines speak of.
use Rattle.std.specs.Prelude.{ℕ, ◌≡◌, ◌+◌, ◌-◌, ◌*◌, ◌^◌, ◌<◌, ◌≤◌, false, List, []}
use Rattle.vax_space.specs.declared.Area.{Area}
use Rattle.vax_space.specs.Faults.{IsSpace}
use Rattle.vax_flat.specs.Parts.{machine_at}
use Rattle.vax_flat.specs.Port.{layout}
use Rattle.vax_flat.specs.Step.{Flat}
use Rattle.vax_sched.specs.declared.rule.Target.{Target}
use Rattle.vax_machine.specs.Blocks.{last_written}
use Rattle.vax_machine.specs.Paged.{Paged, fresh, page_bytes, paged}

-- what a paged run from the start is given: the areas of its memory, what is due at each turn, how many frames there are, and the flat machine
pub record Run : Type 0 where
  pub areas : List Area
  pub asks : ℕ → List Target
  pub frames : ℕ
  pub start : Flat

-- where it is after so many turns
abbrev pub state_at : Run → ℕ → Paged
state_at r n = paged r.areas r.asks n (fresh r.frames r.start)

-- the areas are those of a space, and the flat machine's memory has them
pub record IsProper (r : Run) : Type 0 where
  pub space : IsSpace r.areas
  pub memory : layout r.start.memory ≡ layout r.areas

-- nothing is ever due
abbrev pub IsIdle : Run → Type 0
IsIdle r = (turn : ℕ) → r.asks turn ≡ []

-- the evictions of pinned pages haven't been counted up to the last value
abbrev pub IsCounted : Paged → Type 0
IsCounted p = p.residence.spoiled < 2 ^ 64 - 1

-- at most 41 turns for each part that was completed, 40 for the part that is open, and one for each eviction of a pinned page
abbrev pub HasFewTurns : Paged → Type 0
HasFewTurns p = p.turns ≤ 41 * p.parts + 40 + p.residence.spoiled

-- from the one to the other at most 40 turns were made, and one for each eviction of a pinned page
abbrev pub IsSoonAfter : Paged → Paged → Type 0
IsSoonAfter p q = q.turns + p.residence.spoiled ≤ p.turns + 40 + q.residence.spoiled

-- a page to which no attempt has written since it came in has the bytes that were last written of it, or those at the start
abbrev pub IsAsWritten : Flat → ℕ → Paged → Type 0
IsAsWritten start page p =
    p.modified page ≡ false → page_bytes (machine_at p.place).memory page ≡ last_written page (page_bytes start.memory page) p.evictions

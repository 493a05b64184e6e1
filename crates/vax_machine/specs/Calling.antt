-- Which call of the page file a turn makes next, and what it leaves where that call fails.
use Rattle.std.specs.Prelude.{ℕ, ◌≡◌, ◌+◌, ◌⊎◌, ◌++◌, true, Some, None, Option, List, [], ◌∷◌}
use Rattle.vax_space.specs.declared.Area.{Area}
use Rattle.vax_outside.specs.Blocks.{BlockFile}
use Rattle.vax_flat.specs.Outcome.{first_missing}
use Rattle.vax_flat.specs.Parts.{machine_at, touches_at}
use Rattle.vax_machine.specs.Blocks.{Moved}
use Rattle.vax_machine.specs.Paged.{Paged, evictions_of, is_read, marked}
use Rattle.vax_machine.specs.Residence.{is_resident, victim}
use Rattle.vax_machine.specs.declared.engine.Engine.{Engine}

-- the attempt that comes misses a page
pub record Misses (p : Paged) : Type 0 where
  pub page : ℕ
  pub missing : first_missing (is_resident p.residence) (touches_at p.place) ≡ Some page
  pub going : (machine_at p.place).ending ≡ None

-- the first of these pages is resident, and an attempt has written to it
pub record WritesFirst (rest : List ℕ) (p : Paged) : Type 0 where
  pub page : ℕ
  pub others : List ℕ
  pub is : rest ≡ page ∷ others
  pub resident : is_resident p.residence page ≡ true
  pub modified : p.modified page ≡ true

-- an attempt has written to the page that makes room
pub record WritesVictim (p : Paged) : Type 0 where
  pub page : ℕ
  pub is : victim p.residence ≡ Some page
  pub modified : p.modified page ≡ true

-- the page that makes room was written to its block, if that is due, and the page that is missed isn't there yet
abbrev pub room_made : Paged → Paged
room_made p = record p { evictions = p.evictions ++ evictions_of (p.turns + 2) (victim p.residence) p }

-- The service of the page that the attempt misses was cut short by its first call of the file, the write of the page that makes room, or behind that
-- by its last, the read of the page.
abbrev pub FailsToServe : List Area → Paged → (p : Paged) → Misses p → Option BlockFile → Option BlockFile → Type 0
FailsToServe areas b p m before after =
    (WritesVictim (marked p) × Moved areas b p before after)
    ⊎ ((is_read m.page p ≡ true) × Moved areas b (room_made (marked p)) before after)

-- how many attempts a machine counts, and the page that it wants
pub record Asking : Type 0 where
  pub turns : ℕ
  pub wanted : Option ℕ

abbrev pub asking_of : Engine → Asking
asking_of m = record { turns = m.turns; wanted = m.wanted }

-- so it is, behind so many attempts of which this one is the last, and the page is wanted still
pub record ServiceFails (areas : List Area) (b p : Paged) (asks : Asking) (before after : Option BlockFile) : Type 0 where
  pub missed : Misses p
  pub fails : FailsToServe areas b p missed before after
  pub made : asks.turns ≡ p.turns + 1
  pub wanted : asks.wanted ≡ Some missed.page

-- The call of the file that comes next failed, and each before it was made: these pages were still to be made absent, and the first was to be written to its
-- block; or none was left, and the service of the page that the attempt misses was cut short.
abbrev pub NextCallFails : List Area → Paged → Paged → List ℕ → Asking → Option BlockFile → Option BlockFile → Type 0
NextCallFails areas b p rest asks before after =
    (WritesFirst rest p × Moved areas b p before after × (asks.turns ≡ p.turns)) ⊎ ((rest ≡ []) × ServiceFails areas b p asks before after)

-- What a console is shown of a machine, and what it changes.
use Rattle.std.specs.Prelude.{ℕ, zero, suc, ◌≡◌, ◌+◌, ◌*◌, ◌<◌, ◌⊎◌, ◌/◌, ◌%◌, Bool, true, false, if◌then◌else◌, Option, Some, None, is_some, Result, Ok, Err, List, [], ◌∷◌, slice_index, slice_set}
use Rattle.vax_word.specs.declared.Core.{Core}
use Rattle.vax_space.specs.declared.Area.{Area}
use Rattle.vax_space.specs.Areas.{area_of}
use Rattle.vax_space.specs.Reference.{page_of}
use Rattle.vax_outside.specs.Blocks.{BlockFile}
use Rattle.vax_flat.specs.Memory.{after, byte_at, written_run}
use Rattle.vax_flat.specs.Parts.{Place, At, machine_at}
use Rattle.vax_flat.specs.Step.{Flat}
use Rattle.vax_cpu.specs.declared.cpu.Cpu.{Cpu}
use Rattle.vax_pager.specs.declared.calls.PageFault.{PageFault}
use Rattle.vax_machine.specs.Machine.{Keeping, KeepsPlace, Means, keeping, residence}
use Rattle.vax_machine.specs.Paged.{page_bytes}
use Rattle.vax_machine.specs.Residence.{HasBroughtSome, after_deposit, unpinned}
use Rattle.vax_machine.specs.declared.engine.Engine.{Engine}
use Rattle.vax_machine.specs.declared.event.RunEnd.{RunEnd}
use Rattle.vax_machine.specs.declared.event.RunEnd.TheVariants as run_end

-- a byte of memory, none where no area has it
abbrev pub memory_at : List Area → ℕ → Option ℕ
memory_at memory addr = if is_some (area_of memory (page_of addr)) then Some (byte_at memory addr) else None

-- so many bytes of memory from an address on
unfoldable pub memory_from : List Area → ℕ → ℕ → List (Option ℕ)
memory_from memory addr zero = []
memory_from memory addr (suc len) = memory_at memory addr ∷ memory_from memory (after addr) len

-- these are the bytes of a page of memory
abbrev pub IsPageOf : List Area → ℕ → List ℕ → Type 0
IsPageOf memory page bytes = (k : ℕ) → k < 512 → slice_index bytes k ≡ byte_at memory (512 * page + k)

-- these are there exactly where an area has them
unfoldable pub AreShown : List Area → ℕ → List (Option ℕ) → Type 0
AreShown areas addr [] = Unit {0}
AreShown areas addr (cell ∷ cells) = (is_some cell ≡ is_some (area_of areas (page_of addr))) × AreShown areas (after addr) cells

-- the bytes of a page are there exactly where an area has it
abbrev pub IsThereIn : List Area → ℕ → Option (List ℕ) → Type 0
IsThereIn areas page bytes = is_some bytes ≡ is_some (area_of areas page)

-- the byte at an address, of the bytes of its page
abbrev pub cell_in : Option (List ℕ) → ℕ → Option ℕ
cell_in None addr = None
cell_in (Some bytes) addr = Some (slice_index bytes (addr % 512))

-- these are the bytes of memory of each place for which the machine stands
abbrev pub ShowsMemory : Engine → Option BlockFile → ℕ → ℕ → List (Option ℕ) → Type 0
ShowsMemory m file addr count cells =
    (place : Place) → Means m file place → cells ≡ memory_from (machine_at place).memory addr count

-- so many pages have these bytes
unfoldable pub pages_in : ℕ → ℕ → ℕ
pages_in addr zero = 0
pages_in addr (suc more) = (addr % 512 + more) / 512 + 1

-- these are the bytes of a page of the memory of each place for which the machine stands
abbrev pub ShowsPage : Engine → Option BlockFile → ℕ → List ℕ → Type 0
ShowsPage m file page bytes = (place : Place) → Means m file place → bytes ≡ page_bytes (machine_at place).memory page

-- no page is pinned, and none is wanted
abbrev pub let_go : Keeping → Keeping
let_go k = record k { residence = unpinned k.residence; wanted = None }

-- no string instruction is open, and no page is pinned
pub record IsBetween (m : Engine) : Type 0 where
  pub closed : m.cpu.latch ≡ None
  pub unpinned : (keeping m).residence.pinned ≡ []

-- a run that stopped so stands between two steps
abbrev pub StopsBetween : RunEnd → Type 0
StopsBetween (run_end.Ended e) = Unit {0}
StopsBetween run_end.Steps = Unit {0}
StopsBetween run_end.Turns = ⊥
StopsBetween run_end.PageFault = ⊥
StopsBetween run_end.WriteFault = ⊥

-- it stands between two steps, or goes on below this limit of steps
abbrev pub MayGoOn : ℕ → Engine → Type 0
MayGoOn limit m = IsBetween m ⊎ ((m.ended ≡ None) × (m.steps < limit))

-- a register of the processor was changed
abbrev pub cpu_with_register : ℕ → ℕ → Cpu → Cpu
cpu_with_register n value cpu = record cpu { core = record cpu.core { regs = slice_set cpu.core.regs n value } }

-- a register of the flat machine was changed
abbrev pub with_register : ℕ → ℕ → Flat → Flat
with_register n value m = record m { core = record m.core { regs = slice_set m.core.regs n value } }

-- so it was in each flat machine for which the machine stands
abbrev pub DepositsRegister : ℕ → ℕ → Engine → Engine → Type 0
DepositsRegister n value old new =
    (file : Option BlockFile) → (m : Flat) → Means old file (At m) → Means new file (At (with_register n value m))

-- all registers of the processor were changed
abbrev pub cpu_with_core : Core → Cpu → Cpu
cpu_with_core core cpu = record cpu { core = core }

-- all registers of the flat machine were changed
abbrev pub with_core : Core → Flat → Flat
with_core core m = record m { core = core }

-- so it was in each flat machine for which the machine stands
abbrev pub DepositsCore : Core → Engine → Engine → Type 0
DepositsCore core old new =
    (file : Option BlockFile) → (m : Flat) → Means old file (At m) → Means new file (At (with_core core m))

-- bytes of its memory were changed
abbrev pub with_bytes : ℕ → List ℕ → Flat → Flat
with_bytes addr bytes m = record m { memory = written_run m.memory addr bytes }

-- the processor and the counts stay; no page is pinned or wanted
pub record HasLetGo (old new : Engine) : Type 0 where
  pub cpu : new.cpu ≡ old.cpu
  pub areas : (keeping new).areas ≡ (keeping old).areas
  pub steps : new.steps ≡ old.steps
  pub turns : new.turns ≡ old.turns
  pub ended : new.ended ≡ old.ended
  pub wanted : new.wanted ≡ None
  pub pinned : (keeping new).residence.pinned ≡ []
  pub frames : (keeping new).residence.frames ≡ (keeping old).residence.frames
  pub spoiled : (keeping new).residence.spoiled ≡ (keeping old).residence.spoiled

-- which pages are resident behind a deposit in these pages, by the answer: they came in, one after the other, or the first of them
abbrev pub BringsPages : Result Bool PageFault → List ℕ → Engine → Engine → Type 0
BringsPages (Ok true) pages old new = residence new ≡ after_deposit pages (residence old)
BringsPages (Ok false) pages old new = new ≡ old
BringsPages (Err e) pages old new = HasBroughtSome pages (residence old) (residence new)

-- What a deposit of these bytes comes to, by the answer: the bytes change alone, or nothing does, or every byte is as it was.
abbrev pub Deposits : Result Bool PageFault → ℕ → List ℕ → Engine → Option BlockFile → Engine → Option BlockFile → Type 0
Deposits (Ok true) addr bytes old before new after =
    HasLetGo old new × ((m : Flat) → Means old before (At m) → Means new after (At (with_bytes addr bytes m)))
Deposits (Ok false) addr bytes old before new after = (new ≡ old) × (after ≡ before)
Deposits (Err e) addr bytes old before new after = HasLetGo old new × KeepsPlace old before new after

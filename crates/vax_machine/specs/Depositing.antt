-- What a console's deposit makes of the paged run, and which calls of the page file it makes.
use Rattle.std.specs.Prelude.{ℕ, ◌≡◌, ◌+◌, ◌⊎◌, ◌||◌, Bool, true, false, if◌then◌else◌, Option, Result, Ok, Err, List, [], ◌∷◌, ◌++◌, length}
use Rattle.vax_space.specs.declared.Area.{Area}
use Rattle.vax_outside.specs.Blocks.{BlockFile}
use Rattle.vax_flat.specs.Parts.{At, machine_at}
use Rattle.vax_flat.specs.Port.{is_in}
use Rattle.vax_flat.specs.Step.{Flat}
use Rattle.vax_pager.specs.Meaning.{pages}
use Rattle.vax_pager.specs.Poking.{pages_of_bytes}
use Rattle.vax_pager.specs.declared.calls.PageFault.{PageFault}
use Rattle.vax_machine.specs.Blocks.{Moved}
use Rattle.vax_machine.specs.Calling.{WritesVictim}
use Rattle.vax_machine.specs.Console.{with_bytes}
use Rattle.vax_machine.specs.Machine.{Means, residence}
use Rattle.vax_machine.specs.Paged.{Paged, blocked_of, cleaned_of, evictions_of, is_read, one_if}
use Rattle.vax_machine.specs.Residence.{is_resident, served, unpinned, victim}
use Rattle.vax_machine.specs.Run.{Tracks, begun}
use Rattle.vax_machine.specs.declared.engine.Engine.{Engine}

-- a page is served, as a turn that misses it serves it: the page that makes room is written, if it is modified, and the page is read, if it has a block
abbrev pub given : ℕ → Paged → Paged
given page p = record p {
  residence = served page p.residence;
  modified = cleaned_of (victim p.residence) p.modified;
  evictions = p.evictions ++ evictions_of (p.turns + 1) (victim p.residence) p;
  blocked = blocked_of (victim p.residence) p.modified p.blocked;
  reads = p.reads + one_if (is_read page p);
}

-- it comes in, if it isn't resident
unfoldable pub with_page : ℕ → Paged → Paged
with_page page p = if is_resident p.residence page then p else given page p

unfoldable pub with_pages : List ℕ → Paged → Paged
with_pages [] p = p
with_pages (page ∷ pages) p = with_pages pages (with_page page p)

-- all pins are dropped
abbrev pub without_pins : Paged → Paged
without_pins p = record p { residence = unpinned p.residence }

-- pages come in, and none is pinned before that and behind it
abbrev pub brought : List ℕ → Paged → Paged
brought pages p = without_pins (with_pages pages (without_pins p))

-- Bytes are deposited: their pages come in and are modified, and no other call of the page file is made.
abbrev pub deposited : ℕ → List ℕ → Paged → Paged
deposited addr bytes p =
    let q = brought (pages_of_bytes addr (length bytes)) p in
    record q { place = At (with_bytes addr bytes (machine_at p.place)); modified = λ page. q.modified page || is_in addr (length bytes) page }

-- The service of a page was cut short by its first call of the file, the write of the page that makes room, or behind that by its last, the read of the
-- page. So many calls were made since the first of these paged runs.
abbrev pub FailsToCome : List Area → ℕ → (b p : Paged) → Option BlockFile → Option BlockFile → Type 0
FailsToCome areas page b p before after =
    (WritesVictim p × Moved areas b p before after)
    ⊎ ((is_read page p ≡ true) × Moved areas b (record p { evictions = p.evictions ++ evictions_of (p.turns + 1) (victim p.residence) p }) before after)

-- a machine with what its page file tells
pub record Filed : Type 0 where
  pub machine : Engine
  pub file : Option BlockFile

abbrev pub filed : Engine → Option BlockFile → Filed
filed machine file = record { machine = machine; file = file }

-- the first of these pages came in, the service of the next failed, and no call of the file was made behind that
pub record IsBroughtInPart (areas : List Area) (pages : List ℕ) (p : Paged) (before : Option BlockFile) (t : Filed) : Type 0 where
  pub front : List ℕ
  pub page : ℕ
  pub rest : List ℕ
  pub splits : pages ≡ front ++ page ∷ rest
  pub away : is_resident (with_pages front (without_pins p)).residence page ≡ false
  pub residence : residence t.machine ≡ (brought front p).residence
  pub fails : FailsToCome areas page p (with_pages front (without_pins p)) before t.file

-- the bytes were deposited in this paged run, and the file was written and read as that tells
pub record IsDeposited (areas : List Area) (addr : ℕ) (bytes : List ℕ) (p : Paged) (before : Option BlockFile) (t : Filed) : Type 0 where
  pub tracks : Tracks t.machine t.file (deposited addr bytes p)
  pub moved : Moved areas p (deposited addr bytes p) before t.file

-- What a deposit of these bytes makes of the paged run that begins here, by the answer; none is made where it is refused.
abbrev pub DepositsIn : Result Bool PageFault → ℕ → List ℕ → Filed → Filed → Type 0
DepositsIn (Ok true) addr bytes s t =
    (m : Flat) → Means s.machine s.file (At m) → IsDeposited (pages s.machine.pager).areas addr bytes (begun s.machine (At m)) s.file t
DepositsIn (Ok false) addr bytes s t = (t.machine ≡ s.machine) × (t.file ≡ s.file)
DepositsIn (Err e) addr bytes s t =
    (m : Flat) → Means s.machine s.file (At m) →
    IsBroughtInPart (pages s.machine.pager).areas (pages_of_bytes addr (length bytes)) (begun s.machine (At m)) s.file t

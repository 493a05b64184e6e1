-- What a vector says, by the flat machine.
use Rattle.std.specs.Prelude.{◌≡◌, ℕ, zero, suc, ◌+◌, ◌*◌, ◌++◌, Bool, true, false, not, ◌==◌, if◌then◌else◌, Option, Some, None, List, [], ◌∷◌, map, length, All}
use Rattle.std.specs.List.{range_with_len}
use Rattle.vax_word.specs.declared.Core.{Core}
use Rattle.vax_space.specs.declared.Access.{Access}
use Rattle.vax_space.specs.declared.Access.TheVariants.{Read, Write}
use Rattle.vax_space.specs.declared.Area.{Area}
use Rattle.vax_space.specs.Reference.{page_of}
use Rattle.vax_flat.specs.Memory.{after, byte_at, bytes_from}
use Rattle.vax_flat.specs.Outcome.{first_missing}
use Rattle.vax_flat.specs.Parts.{Leaves, At, touches_at, turn}
use Rattle.vax_flat.specs.Port.{layout, put_run}
use Rattle.vax_flat.specs.Start.{start_memory}
use Rattle.vax_flat.specs.Step.{Flat, ended, step, with_byte_sent}
use Rattle.vax_vectors.specs.declared.vector.Cell.{Cell}
use Rattle.vax_vectors.specs.declared.vector.Ends.{Ends}
use Rattle.vax_vectors.specs.declared.vector.Ends.TheVariants.{Step, Part, Absent, Ended}
use Rattle.vax_vectors.specs.declared.vector.Page.{Page}
use Rattle.vax_vectors.specs.declared.vector.Touch.{Touch}
use Rattle.vax_vectors.specs.declared.vector.Start.{Start}
use Rattle.vax_vectors.specs.declared.vector.End.{End}
use Rattle.vax_vectors.specs.declared.vector.Vector.{Vector}

-- the byte that is told of an address, and 0 where none is
unfoldable pub told : List Cell → ℕ → ℕ
told [] addr = 0
told (cell ∷ cells) addr = if addr == cell.addr then cell.byte else told cells addr

-- the bytes of a page at the start
unfoldable pub page_bytes : List Cell → ℕ → List ℕ
page_bytes ram number = map (λ k. told ram (512 * number + k)) (range_with_len 0 512)

-- an address lies in one of these pages
unfoldable pub lies_in : List Page → ℕ → Bool
lies_in [] addr = false
lies_in (page ∷ pages) addr = if page_of addr == page.number then true else lies_in pages addr

-- each of these bytes lies in one of these pages
abbrev pub AreWithin : List Page → List Cell → Type 0
AreWithin pages cells = All (λ cell. lies_in pages cell.addr ≡ true) cells

abbrev pub area_of : List Cell → Page → Area
area_of ram page = record { first = page.number; pages = 1; prot = page.prot; bytes = page_bytes ram page.number }

-- the memory of these pages with these bytes, and 0 elsewhere
unfoldable pub memory_of : List Page → List Cell → List Area
memory_of pages ram = start_memory (map (area_of ram) pages)

-- the flat machine at the start, with no input
abbrev pub machine_of : Start → Flat
machine_of start = record {
  core = start.core;
  memory = memory_of start.pages.items start.ram.items;
  input = [];
  taken = 0;
  output = [];
  ending = None;
}

unfoldable pub is_among : List ℕ → ℕ → Bool
is_among [] page = false
is_among (p ∷ ps) page = if page == p then true else is_among ps page

-- which pages are resident
abbrev pub resident_of : List ℕ → ℕ → Bool
resident_of absent page = not (is_among absent page)

-- the first of these pages that isn't resident
unfoldable pub first_out : (ℕ → Bool) → List ℕ → Option ℕ
first_out resident [] = None
first_out resident (page ∷ pages) = if resident page then first_out resident pages else Some page

-- These are the pages of the ranges that a step touches, each once, in the order in which it first touches them: whatever pages are resident, the
-- first of these ranges' pages that isn't is the first of the list that isn't.
abbrev pub AreTouchedInOrder : Flat → List ℕ → Type 0
AreTouchedInOrder m pages = (resident : ℕ → Bool) → first_missing resident (touches_at (At m)) ≡ first_out resident pages

-- the bytes after an access
abbrev pub after_access : Access → (ℕ → ℕ) → ℕ → List ℕ → ℕ → ℕ
after_access Read byte addr bytes = byte
after_access Write byte addr bytes = put_run byte addr bytes

-- the bytes after these accesses
unfoldable pub bytes_after : (ℕ → ℕ) → List Touch → ℕ → ℕ
bytes_after byte [] = byte
bytes_after byte (t ∷ ts) = bytes_after (after_access t.access byte t.addr t.bytes.items) ts

-- a read gives the bytes that are there
abbrev pub GivesWhatIsThere : Access → (ℕ → ℕ) → ℕ → List ℕ → Type 0
GivesWhatIsThere Read byte addr bytes = bytes ≡ bytes_from byte addr (length bytes)
GivesWhatIsThere Write byte addr bytes = Unit {0}

-- each read of these accesses gives the bytes that are there after the writes before it
unfoldable pub AreInOrder : (ℕ → ℕ) → List Touch → Type 0
AreInOrder byte [] = Unit {0}
AreInOrder byte (t ∷ ts) =
    GivesWhatIsThere t.access byte t.addr t.bytes.items × AreInOrder (after_access t.access byte t.addr t.bytes.items) ts

-- these pages, and behind them those of a range that aren't among them, each once
unfoldable pub with_pages : List ℕ → ℕ → ℕ → List ℕ
with_pages pages addr zero = pages
with_pages pages addr (suc len) =
    with_pages (if is_among pages (page_of addr) then pages else pages ++ page_of addr ∷ []) (after addr) len

-- these pages, and behind them those of these accesses that aren't among them, in the order in which they are first accessed
unfoldable pub pages_after : List ℕ → List Touch → List ℕ
pages_after pages [] = pages
pages_after pages (t ∷ ts) = pages_after (with_pages pages t.addr (length t.bytes.items)) ts

-- a byte that is told of a memory
abbrev pub IsThere : List Area → Cell → Type 0
IsThere memory cell = byte_at memory cell.addr ≡ cell.byte

-- The memory that a step leaves: in the pages that it touches the bytes after its accesses, and in the others those at the start. The bytes that are
-- told of it are its bytes. Its accesses come by the pages that it touches, in that order.
pub record IsLeft (m : Flat) (touched : List ℕ) (end : End) (memory : List Area) : Type 0 where
  pub areas : layout memory ≡ layout m.memory
  pub inside : (addr : ℕ) → is_among touched (page_of addr) ≡ true → byte_at memory addr ≡ bytes_after (byte_at m.memory) end.touches.items addr
  pub outside : (addr : ℕ) → is_among touched (page_of addr) ≡ false → byte_at memory addr ≡ byte_at m.memory addr
  pub accesses : AreInOrder (byte_at m.memory) end.touches.items
  pub pages : pages_after [] end.touches.items ≡ touched
  pub cells : All (IsThere memory) end.ram.items

-- the machine with these registers and this memory
abbrev pub with_both : Flat → Core → List Area → Flat
with_both m core memory = record m { core = core; memory = memory }

abbrev pub with_output : Flat → List ℕ → Flat
with_output m output = record m { output = output }

-- nothing changed
pub record IsAsBefore (m : Flat) (end : End) : Type 0 where
  pub registers : end.core ≡ m.core
  pub touches : end.touches.items ≡ []
  pub cells : All (IsThere m.memory) end.ram.items

-- How the step of a machine that touches these pages ends, and what it leaves. Of a string instruction it may be the first part alone.
abbrev pub EndsBy : Flat → List ℕ → End → Ends → Type 0
EndsBy m touched end (Step sent) =
    (memory : List Area) × (step m ≡ with_output (with_both m end.core memory) (with_byte_sent m.output sent)) × IsLeft m touched end memory
EndsBy m touched end (Part opcode units) =
    (memory : List Area)
    × (turn (At m) ≡ Leaves (record { opcode = opcode; start = m.core; units = units; now = with_both m end.core memory }))
    × IsLeft m touched end memory
EndsBy m touched end (Absent page) = IsAsBefore m end
EndsBy m touched end (Ended e) = (step m ≡ ended m e) × IsAsBefore m end

-- the page for which the step stops
abbrev pub page_missed : Ends → Option ℕ
page_missed (Step sent) = None
page_missed (Part opcode units) = None
page_missed (Absent page) = Some page
page_missed (Ended e) = None

-- what is told of a machine's step with these pages absent
pub record TellsStep (m : Flat) (absent touched : List ℕ) (end : End) : Type 0 where
  pub missed : first_missing (resident_of absent) (touches_at (At m)) ≡ page_missed end.ends
  pub ends : EndsBy m touched end end.ends

-- a vector is true
pub record IsTold (v : Vector) : Type 0 where
  pub order : AreTouchedInOrder (machine_of v.start) v.touched.items
  pub step : TellsStep (machine_of v.start) v.start.absent.items v.touched.items v.end

-- What a run makes of the page file: which blocks it writes, with what bytes, and how often it reads one.
use Rattle.std.specs.Prelude.{ℕ, zero, suc, ◌≡◌, ◌+◌, ◌≤◌, ◌==◌, if◌then◌else◌, Option, Some, None, List, [], ◌∷◌, ◌++◌}
use Rattle.std.specs.List.{flat_map}
use Rattle.vax_space.specs.declared.Area.{Area}
use Rattle.vax_space.specs.Areas.{block_of}
use Rattle.vax_outside.specs.Blocks.{BlockFile}
use Rattle.vax_outside.specs.Faults.{raised}
use Rattle.vax_machine.specs.Paged.{Eviction, Paged}

abbrev pub write_to : Option ℕ → Option (List ℕ) → List (ℕ × List ℕ)
write_to (Some block) (Some bytes) = (block, bytes) ∷ []
write_to (Some block) None = []
write_to None bytes = []

-- the write of an eviction, where its page was written to its block
abbrev pub write_of : List Area → Eviction → List (ℕ × List ℕ)
write_of areas e = write_to (block_of areas e.page) e.wrote

-- the writes of evictions, in order
unfoldable pub writes_of : List Area → List Eviction → List (ℕ × List ℕ)
writes_of areas evictions = flat_map (write_of areas) evictions

-- a count of reads behind so many more, each of which the file counts up to its last value
unfoldable pub read_times : ℕ → ℕ → ℕ
read_times zero reads = reads
read_times (suc count) reads = raised (read_times count reads)

-- from one paged run to a later one the file read as many blocks as the second counts more
pub record HasRead (b p : Paged) (before after : BlockFile) : Type 0 where
  pub count : ℕ
  pub counted : p.reads ≡ b.reads + count
  pub reads : after.reads ≡ read_times count before.reads

-- it wrote the pages that were made absent, in order, and read those that came in from their blocks
pub record HasMoved (areas : List Area) (b p : Paged) (before after : BlockFile) : Type 0 where
  pub made : List Eviction
  pub is : p.evictions ≡ b.evictions ++ made
  pub writes : after.writes ≡ before.writes ++ writes_of areas made
  pub reads : HasRead b p before after

-- where it told its contents before, it does afterwards
abbrev pub Moved : List Area → Paged → Paged → Option BlockFile → Option BlockFile → Type 0
Moved areas b p before after = (f : BlockFile) → before ≡ Some f → (g : BlockFile) × (after ≡ Some g) × HasMoved areas b p f g

-- the first of these pages were written, and the first were read
pub record HasMovedFirst (areas : List Area) (b p : Paged) (before after : BlockFile) : Type 0 where
  pub made : List Eviction
  pub rest : List Eviction
  pub is : p.evictions ≡ b.evictions ++ (made ++ rest)
  pub writes : after.writes ≡ before.writes ++ writes_of areas made
  pub less : ℕ
  pub reads : after.reads ≡ read_times less before.reads
  pub few : b.reads + less ≤ p.reads

abbrev pub MovedFirst : List Area → Paged → Paged → Option BlockFile → Option BlockFile → Type 0
MovedFirst areas b p before after = (f : BlockFile) → before ≡ Some f → (g : BlockFile) × (after ≡ Some g) × HasMovedFirst areas b p f g

-- what was last written of a page to its block, and these bytes where nothing was

abbrev pub or_bytes : Option (List ℕ) → List ℕ → List ℕ
or_bytes None bytes = bytes
or_bytes (Some last) bytes = last

unfoldable pub last_written : ℕ → List ℕ → List Eviction → List ℕ
last_written page bytes [] = bytes
last_written page bytes (e ∷ es) = last_written page (if e.page == page then or_bytes e.wrote bytes else bytes) es

-- The blocks of a page file, and what was done to them.
use Rattle.std.specs.Prelude.{◌≡◌, ℕ, List, [], ◌∷◌, ◌++◌, replicate, Option, IfSome}
use Rattle.std.specs.Option.{option_map}
use Rattle.std.specs.Ordering.{nat_cmp}
use Rattle.std.specs.List.{enumerate_from}
use Rattle.std.specs.FinMap.{FinMap, get, insert, from_entries}
use Rattle.vax_outside.specs.Faults.{raised}

-- the blocks by number, the writes that succeeded in their order, and the number of reads that succeeded
pub record BlockFile : Type 0 where
  pub blocks : FinMap nat_cmp (List ℕ)
  pub writes : List (ℕ × List ℕ)
  pub reads : ℕ

-- blocks that are numbered from 0
abbrev pub numbered : List (List ℕ) → FinMap nat_cmp (List ℕ)
numbered blocks = from_entries (enumerate_from 0 blocks)

-- so many blocks of zeros, neither read nor written
abbrev pub zeroed : ℕ → BlockFile
zeroed count = record { blocks = numbered (replicate count (replicate 512 0)); writes = []; reads = 0 }

-- the bytes are those of block n, where the file tells it and has it
abbrev pub GivesBlock : Option BlockFile → ℕ → List ℕ → Type 0
GivesBlock contents n bytes = IfSome contents (λ file. IfSome (get file.blocks n) (λ block. bytes ≡ block))

-- one more read, and nothing else
abbrev pub after_read : BlockFile → BlockFile
after_read file = record file { reads = raised file.reads }

-- the block at its number, and one more write
abbrev pub after_write : ℕ → List ℕ → BlockFile → BlockFile
after_write n block file = record file { blocks = insert file.blocks n block; writes = file.writes ++ (n, block) ∷ [] }

abbrev pub CountsRead : Option BlockFile → Option BlockFile → Type 0
CountsRead old new = new ≡ option_map after_read old

abbrev pub PutsBlock : ℕ → List ℕ → Option BlockFile → Option BlockFile → Type 0
PutsBlock n block old new = new ≡ option_map (after_write n block) old

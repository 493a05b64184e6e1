-- A part of a page file: the blocks are numbered from another one on.
use Rattle.std.specs.Prelude.{ℕ, ◌≡◌, ◌<◌, ◌≤◌, ◌+◌, ◌-◌, ◌*◌, ◌%◌, ◌^◌, Bool, List, map, nat_lt, Option}
use Rattle.std.specs.Option.{option_map}
use Rattle.std.specs.List.{filter}
use Rattle.std.specs.Ordering.{nat_cmp}
use Rattle.std.specs.FinMap.{FinMap, entries, from_entries, get}
use Rattle.vax_outside.specs.Blocks.{BlockFile}

-- the file's number of a block of the part that begins here
abbrev pub shifted : ℕ → ℕ → ℕ
shifted first n = (first + n) % 2 ^ 32

-- the part's number of a block of the file
abbrev pub unshifted : ℕ → ℕ → ℕ
unshifted first block = (block + (2 ^ 32 - first % 2 ^ 32)) % 2 ^ 32

abbrev pub entry_seen : ℕ → ℕ × List ℕ → ℕ × List ℕ
entry_seen first e = (unshifted first e.0, e.1)

abbrev pub is_numbered : ℕ × List ℕ → Bool
is_numbered e = nat_lt e.0 (2 ^ 32)

-- the blocks by their numbers in the part
unfoldable pub blocks_seen : ℕ → FinMap nat_cmp (List ℕ) → FinMap nat_cmp (List ℕ)
blocks_seen first blocks = from_entries (map (entry_seen first) (filter is_numbered (entries blocks)))

-- what the part tells: its blocks, and the writes and the number of reads of the whole file
abbrev pub file_seen : ℕ → BlockFile → BlockFile
file_seen first file = record { blocks = blocks_seen first file.blocks; writes = map (entry_seen first) file.writes; reads = file.reads }

abbrev pub window_of : ℕ → Option BlockFile → Option BlockFile
window_of first contents = option_map (file_seen first) contents

-- so many blocks belong to a process
abbrev pub part_size : ℕ
part_size = 69632

-- process j has the blocks from this one on
abbrev pub first_block : ℕ → ℕ
first_block j = part_size * j

-- what the file tells in the part of process j
abbrev pub its : ℕ → Option BlockFile → Option BlockFile
its j contents = window_of (first_block j) contents

-- no block of one process is one of another
abbrev pub LieApart : Type 0
LieApart =
    (i j : ℕ) → i < 8 → j < 8 → (i ≡ j → ⊥) → (a b : ℕ) → a < part_size → b < part_size →
    shifted (first_block i) a ≡ shifted (first_block j) b → ⊥

-- Where only a process's own blocks changed in its part, the blocks of another are as before.
abbrev pub OthersStay : Type 0
OthersStay =
    (i j : ℕ) → i < 8 → j < 8 → (i ≡ j → ⊥) → (before after : BlockFile) →
    ((n : ℕ) → part_size ≤ n → get (blocks_seen (first_block i) after.blocks) n ≡ get (blocks_seen (first_block i) before.blocks) n) →
    (n : ℕ) → n < part_size →
    get (blocks_seen (first_block j) after.blocks) n ≡ get (blocks_seen (first_block j) before.blocks) n

-- The memory and the registers with which a program starts: kernel mode, interrupt priority 31.
use Rattle.std.specs.Prelude.{ℕ, if◌then◌else◌, List, [], ◌∷◌, ◌++◌, length, drop, replicate, Option, Some, None}
use Rattle.std.specs.List.{flat_map}
use Rattle.vax_word.specs.declared.Core.{Core}
use Rattle.vax_space.specs.declared.Area.{Area}
use Rattle.vax_space.specs.Areas.{has_page}
use Rattle.vax_flat.specs.Start.{start_memory}
use Rattle.vax_flat.specs.Step.{Flat}
use Rattle.vax_image.specs.declared.Image.{Image}

-- pages that begin with these bytes
abbrev pub area : ℕ → ℕ → ℕ → List ℕ → Area
area first pages prot bytes = record { first = first; pages = pages; prot = prot; bytes = bytes }

-- a page of vectors, each of which is the longword 2 and ends the run
abbrev pub vectors : List ℕ
vectors = flat_map (λ vector. vector) (replicate 128 (2 ∷ 0 ∷ 0 ∷ 0 ∷ []))

-- the executive, the supervisor and the user stack
abbrev pub stacks : List Area
stacks = area 0x3FFF00 4 5 [] ∷ area 0x3FFF40 4 8 [] ∷ area 0x3FFFC0 64 4 [] ∷ []

-- the kernel and the interrupt stack
abbrev pub system_stacks : List Area
system_stacks = area 0x400800 16 2 [] ∷ area 0x400880 4 2 [] ∷ []

-- an area with the system control block: what it doesn't say of that page is vectors
abbrev pub with_vectors : Area → Area
with_vectors area = record area { bytes = area.bytes ++ drop (length area.bytes) vectors }

-- a system's areas with the system control block, which is the program's own where it has that page
unfoldable pub with_control_block : List Area → List Area
with_control_block [] = area 0x400000 1 2 vectors ∷ []
with_control_block (first ∷ others) =
    if has_page first 0x400000 then with_vectors first ∷ others else area 0x400000 1 2 vectors ∷ first ∷ others

abbrev pub user_areas : Option Image → List Area
user_areas None = []
user_areas (Some image) = image.areas

abbrev pub user_entry : Option Image → ℕ
user_entry None = 0
user_entry (Some image) = image.transfer

-- the areas of a system and a user program, in ascending order
unfoldable pub start_areas : Image → Option Image → List Area
start_areas system user = user_areas user ++ (stacks ++ (with_control_block system.areas ++ system_stacks))

-- R0 has the address at which the user program begins, SP is the top of the kernel stack, PC the system's beginning
abbrev pub start_core : Image → Option Image → Core
start_core system user = record {
  regs = user_entry user ∷ replicate 13 0 ++ 0x80102000 ∷ system.transfer ∷ [];
  psl = record { 0 = 0x001F0000 };
  stacks = 0 ∷ 0x7FFE0800 ∷ 0x7FFE8800 ∷ 0x80000000 ∷ 0x80110800 ∷ [];
  sisr = 0;
  iccs = 0;
  clock = 0;
}

-- the flat machine at the start
abbrev pub Start : Image → Option Image → List ℕ → Flat
Start system user input = record { core = start_core system user; memory = start_memory (start_areas system user); input = input; taken = 0; output = []; ending = None }

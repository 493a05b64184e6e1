-- The memory and the registers with which a bare program starts (kernel mode, interrupt priority 31).
use Rattle.std.specs.Prelude.{ℕ, List, [], ◌∷◌, ◌++◌, length, replicate, None}
use Rattle.std.specs.List.{flat_map}
use Rattle.std.specs.Int.{div_ceil}
use Rattle.vax_word.specs.declared.Core.{Core}
use Rattle.vax_space.specs.declared.Area.{Area}
use Rattle.vax_flat.specs.Start.{start_memory}
use Rattle.vax_flat.specs.Step.{Flat}

-- pages that begin with these bytes
abbrev pub area : ℕ → ℕ → ℕ → List ℕ → Area
area first pages prot bytes = record { first = first; pages = pages; prot = prot; bytes = bytes }

-- the system control block: each vector is the longword 2, which ends the run
abbrev pub vectors : List ℕ
vectors = flat_map (λ vector. vector) (replicate 128 (2 ∷ 0 ∷ 0 ∷ 0 ∷ []))

-- the executive, supervisor and user stacks, the system control block, the program, the kernel and the interrupt stack
unfoldable pub areas : List ℕ → List Area
areas bytes =
    area 0x3FFF00 4 5 []
    ∷ area 0x3FFF40 4 8 []
    ∷ area 0x3FFFC0 64 4 []
    ∷ area 0x400000 1 2 vectors
    ∷ area 0x400001 (div_ceil (length bytes) 512) 14 bytes
    ∷ area 0x400800 16 2 []
    ∷ area 0x400880 4 2 []
    ∷ []

-- with 0 behind the bytes of each area
abbrev pub memory : List ℕ → List Area
memory bytes = start_memory (areas bytes)

-- SP is the top of the kernel stack, PC the program's start
abbrev pub core : ℕ → Core
core start = record {
  regs = replicate 14 0 ++ 0x80102000 ∷ start ∷ [];
  psl = record { 0 = 0x001F0000 };
  stacks = 0 ∷ 0x7FFE0800 ∷ 0x7FFE8800 ∷ 0x80000000 ∷ 0x80110800 ∷ [];
  sisr = 0;
  iccs = 0;
  clock = 0;
}

-- the flat machine at the start of a program: its bytes, the address at which it begins, and the console's input
abbrev pub start_of : List ℕ → ℕ → List ℕ → Flat
start_of bytes begin input = record { core = core begin; memory = memory bytes; input = input; taken = 0; output = []; ending = None }

-- Machines with a string instruction at PC, and what each of its parts leaves (VAX MACRO and Instruction Set Reference Manual, character string
-- instructions).
use Rattle.std.specs.Prelude.{ℕ, Option, Some, None, List, [], ◌∷◌, replicate}
use Rattle.vax_flat.specs.Memory.{byte_at, bytes_from}
use Rattle.vax_flat.specs.Parts.{Partway, partway}
use Rattle.vax_flat.specs.State.{register}
use Rattle.vax_flat.specs.Step.{Flat, state_of}
use Rattle.vax_flat.specs.String.{low_registers}

-- In kernel mode, with this code at 1000 (hexadecimal), R6 and R7 the addresses of two strings, R8 that of a table, and R2 to R5 as they are told
-- apart. Pages 0 and 1 have the first string, pages 4 and 5 the second, and page 6 a table that begins with this byte; all other bytes are 0.
abbrev pub at_string : List ℕ → ℕ → ℕ → ℕ → Flat
at_string code first second entry = record {
  core = record {
    regs = 0 ∷ 0 ∷ 0x22 ∷ 0x33 ∷ 0x44 ∷ 0x55 ∷ first ∷ second ∷ 0xC00 ∷ 0 ∷ 0 ∷ 0 ∷ 0 ∷ 0 ∷ 0 ∷ 0x1000 ∷ [];
    psl = record { 0 = 0 };
    stacks = 0 ∷ 0 ∷ 0 ∷ 0 ∷ 0 ∷ [];
    sisr = 0;
    iccs = 0;
    clock = 0;
  };
  memory =
      record { first = 0; pages = 2; prot = 4; bytes = [] }
      ∷ record { first = 4; pages = 2; prot = 4; bytes = replicate 1024 0 }
      ∷ record { first = 6; pages = 1; prot = 4; bytes = entry ∷ [] }
      ∷ record { first = 8; pages = 1; prot = 4; bytes = code }
      ∷ [];
  input = [];
  taken = 0;
  output = [];
  ending = None;
}

-- how many units are done, R0 to R5, PC and the status
pub record Left : Type 0 where
  pub units : ℕ
  pub registers : List ℕ
  pub control : ℕ
  pub status : ℕ

abbrev pub left_by_part : Option Partway → Option Left
left_by_part None = None
left_by_part (Some p) = Some (record {
  units = p.units;
  registers = low_registers (state_of p.now);
  control = register (state_of p.now) 15;
  status = p.now.core.psl.0;
})

-- what is left after one part and so many more
abbrev pub left_after : ℕ → Flat → Option Left
left_after count m = left_by_part (partway count m)

-- PC is at the instruction, with first part done
abbrev pub left : ℕ → List ℕ → Option Left
left units registers = Some (record { units = units; registers = registers; control = 0x1000; status = 0x8000000 })

abbrev pub bytes_left : Option Partway → ℕ → ℕ → List ℕ
bytes_left None addr count = []
bytes_left (Some p) addr count = bytes_from (byte_at p.now.memory) addr count

-- a dump between two parts
abbrev pub dump_after : ℕ → Flat → ℕ → ℕ → List ℕ
dump_after count m addr number = bytes_left (partway count m) addr number

-- CMPC3 #8,(R6),(R7): the first string has 4 bytes in its page, the second 5
abbrev pub comparing : Flat
comparing = at_string (0x29 ∷ 0x08 ∷ 0x66 ∷ 0x67 ∷ []) 0x1FC 0x9FB 0

-- SCANC #6,(R6),(R8),#3, and SPANC #6,(R6),(R8),#2: the string has 2 bytes in its page
abbrev pub scanning : Flat
scanning = at_string (0x2A ∷ 0x06 ∷ 0x66 ∷ 0x68 ∷ 0x03 ∷ []) 0x1FE 0x800 0

abbrev pub spanning : Flat
spanning = at_string (0x2B ∷ 0x06 ∷ 0x66 ∷ 0x68 ∷ 0x02 ∷ []) 0x1FE 0x800 3

-- MOVTC #4,(R6),#^X20,(R8),#6,(R7): the string has 2 bytes in its page
abbrev pub translating : Flat
translating = at_string (0x2E ∷ 0x04 ∷ 0x66 ∷ 0x20 ∷ 0x68 ∷ 0x06 ∷ 0x67 ∷ []) 0x1FE 0x800 0x41

-- MOVC5 #2,(R6),#^X2A,#8,(R7): the destination has 4 bytes in its page
abbrev pub filling : Flat
filling = at_string (0x2C ∷ 0x02 ∷ 0x66 ∷ 0x2A ∷ 0x08 ∷ 0x67 ∷ []) 0x100 0x9FC 0

-- The operands of string instructions, as the progress at their start (VAX MACRO and Instruction Set Reference Manual, character string
-- instructions).
use Rattle.std.specs.Prelude.{ℕ, ◌-◌, ◌%◌, ◌^◌, List, [], ◌∷◌, slice_index}
use Rattle.vax_strpart.specs.declared.packing.Progress.{Progress}
use Rattle.vax_flat.specs.State.{State, register}
use Rattle.vax_flat.specs.Accesses.{Accesses, Leaf}
use Rattle.vax_flat.specs.Operand.{plus}
use Rattle.vax_flat.specs.Rows.{read_value, address_value}
use Rattle.vax_flat.specs.String.{no_part_done}

-- the instruction's length in bytes, from a state in which PC is past its opcode and one in which it is past its operands
unfoldable pub length_of : State → State → ℕ
length_of s t = plus (plus (register t 15) (2 ^ 32 - register s 15)) 1 % 256

-- A length is a word, a character, fill, escape or mask a byte, and an address a longword.
abbrev pub word : ℕ → ℕ
word value = value % 2 ^ 16

abbrev pub byte_in : ℕ → ℕ
byte_in value = value % 2 ^ 8

abbrev pub longword : ℕ → ℕ
longword value = value % 2 ^ 32

-- the next operand as one of these
unfoldable pub next_word : State → (ℕ → State → Accesses Leaf) → Accesses Leaf
next_word s next = read_value 2 s (λ value t. next (word value) t)

unfoldable pub next_byte : State → (ℕ → State → Accesses Leaf) → Accesses Leaf
next_byte s next = read_value 1 s (λ value t. next (byte_in value) t)

unfoldable pub next_longword : State → (ℕ → State → Accesses Leaf) → Accesses Leaf
next_longword s next = address_value 1 s (λ addr t. next (longword addr) t)

-- the sixteen registers of a core
unfoldable pub sixteen : List ℕ → List ℕ
sixteen regs =
    slice_index regs 0 ∷ slice_index regs 1 ∷ slice_index regs 2 ∷ slice_index regs 3
    ∷ slice_index regs 4 ∷ slice_index regs 5 ∷ slice_index regs 6 ∷ slice_index regs 7
    ∷ slice_index regs 8 ∷ slice_index regs 9 ∷ slice_index regs 10 ∷ slice_index regs 11
    ∷ slice_index regs 12 ∷ slice_index regs 13 ∷ slice_index regs 14 ∷ slice_index regs 15 ∷ []

-- what begins has no part done
abbrev pub begun : State → State
begun s = record s { core = record s.core { regs = sixteen s.core.regs; psl = no_part_done s.core.psl } }

-- character, length, string: LOCC, SKPC
unfoldable pub search_operands : ℕ → State → (Progress → State → Accesses Leaf) → Accesses Leaf
search_operands op s next =
    next_byte s (λ character t.
    next_word t (λ len t.
    next_longword t (λ addr t.
    next (record { op = op; len1 = len; addr1 = addr; byte = character; len2 = 0; addr2 = 0; table = 0; done = 0; delta = length_of s t }) (begun t))))

-- length, string, table, mask: SCANC, SPANC
unfoldable pub scan_operands : ℕ → State → (Progress → State → Accesses Leaf) → Accesses Leaf
scan_operands op s next =
    next_word s (λ len t.
    next_longword t (λ addr t.
    next_longword t (λ table t.
    next_byte t (λ mask t.
    next (record { op = op; len1 = len; addr1 = addr; byte = mask; len2 = 0; addr2 = 0; table = table; done = 0; delta = length_of s t }) (begun t)))))

-- length and two strings of this length: MOVC3, CMPC3
unfoldable pub equal_operands : ℕ → State → (Progress → State → Accesses Leaf) → Accesses Leaf
equal_operands op s next =
    next_word s (λ len t.
    next_longword t (λ first t.
    next_longword t (λ second t.
    next (record { op = op; len1 = len; addr1 = first; byte = 0; len2 = len; addr2 = second; table = 0; done = 0; delta = length_of s t }) (begun t))))

-- length and string, fill, length and string: MOVC5, CMPC5
unfoldable pub filled_operands : ℕ → State → (Progress → State → Accesses Leaf) → Accesses Leaf
filled_operands op s next =
    next_word s (λ len1 t.
    next_longword t (λ first t.
    next_byte t (λ fill t.
    next_word t (λ len2 t.
    next_longword t (λ second t.
    next (record { op = op; len1 = len1; addr1 = first; byte = fill; len2 = len2; addr2 = second; table = 0; done = 0; delta = length_of s t }) (begun t))))))

-- length and string, fill or escape, table, length and string: MOVTC, MOVTUC
unfoldable pub translated_operands : ℕ → State → (Progress → State → Accesses Leaf) → Accesses Leaf
translated_operands op s next =
    next_word s (λ len1 t.
    next_longword t (λ first t.
    next_byte t (λ byte t.
    next_longword t (λ table t.
    next_word t (λ len2 t.
    next_longword t (λ second t.
    next (record { op = op; len1 = len1; addr1 = first; byte = byte; len2 = len2; addr2 = second; table = table; done = 0; delta = length_of s t }) (begun t)))))))

-- length and object, length and string: MATCHC
unfoldable pub match_operands : ℕ → State → (Progress → State → Accesses Leaf) → Accesses Leaf
match_operands op s next =
    next_word s (λ len1 t.
    next_longword t (λ first t.
    next_word t (λ len2 t.
    next_longword t (λ second t.
    next (record { op = op; len1 = len1; addr1 = first; byte = 0; len2 = len2; addr2 = second; table = 0; done = 0; delta = length_of s t }) (begun t)))))

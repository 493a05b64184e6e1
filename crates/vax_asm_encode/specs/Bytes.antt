-- The bytes of operands (VAX Architecture Reference Manual, operand specifier addressing mode formats).
use Rattle.std.specs.Prelude.{◌≡◌, ℕ, zero, suc, ◌+◌, ◌/◌, ◌%◌, ◌^◌, ◌<◌, ◌==◌, if◌then◌else◌, List, [], ◌∷◌, ◌++◌, length, Option, Some, None}
use Rattle.vax_word.specs.Arithmetic.{bytes_of as width_of_size}
use Rattle.vax_isa.specs.declared.OperandKind.{OperandKind}
use Rattle.vax_flat.specs.Operand.{extended}
use Rattle.vax_flat.specs.Grammar.{Place, Deferred, Decrement, Increment, IncrementDeferred, Absolute, Displaced, DisplacedDeferred, Specifier, Literal, Register, Immediate, InMemory, Indexed, BranchBy, Reads, read_operand}
use Rattle.vax_asm_encode.specs.declared.operand.Base.{Base}
use Rattle.vax_asm_encode.specs.declared.operand.Base.TheVariants as base
use Rattle.vax_asm_encode.specs.declared.operand.Operand.{Operand}
use Rattle.vax_asm_encode.specs.declared.operand.Field.{Field}
use Rattle.vax_asm_encode.specs.declared.operand.Field.TheVariants as field
use Rattle.vax_asm_encode.specs.Operands.{width_of, specifier_of}

-- so many low bytes of a number, the lowest first
unfoldable pub low_bytes : ℕ → ℕ → List ℕ
low_bytes zero n = []
low_bytes (suc width) n = (n % 256) ∷ low_bytes width (n / 256)

-- the mode of a displacement of 1, 2 or 4 bytes
abbrev pub displacement_mode : ℕ → ℕ
displacement_mode width = if width == 1 then 0xA0 else (if width == 2 then 0xC0 else 0xE0)

abbrev pub place_bytes : Place → List ℕ
place_bytes (Deferred n) = (0x60 + n) ∷ []
place_bytes (Decrement n) = (0x70 + n) ∷ []
place_bytes (Increment n) = (0x80 + n) ∷ []
place_bytes (IncrementDeferred n) = (0x90 + n) ∷ []
place_bytes (Absolute addr) = 0x9F ∷ low_bytes 4 addr
place_bytes (Displaced width displacement n) = (displacement_mode width + n) ∷ low_bytes width displacement
place_bytes (DisplacedDeferred width displacement n) = (displacement_mode width + 0x10 + n) ∷ low_bytes width displacement

unfoldable pub bytes_of : OperandKind → Specifier → List ℕ
bytes_of kind (Literal value) = value ∷ []
bytes_of kind (Register n) = (0x50 + n) ∷ []
bytes_of kind (Immediate value) = 0x8F ∷ low_bytes kind.width value
bytes_of kind (InMemory place) = place_bytes place
bytes_of kind (Indexed place x) = (0x40 + x) ∷ place_bytes place
bytes_of kind (BranchBy displacement) = low_bytes kind.width displacement

-- the displacement is the sign extension of so many low bytes
abbrev pub Extends : ℕ → ℕ → Type 0
Extends width displacement = extended width (displacement % 256 ^ width) ≡ displacement

-- the field can hold the number
abbrev pub Holds : Field → ℕ → Type 0
Holds field.Literal n = n < 64
Holds (field.Number size) n = n < 256 ^ width_of_size size
Holds (field.Signed size) n = n < 256 ^ width_of_size size
Holds (field.Displacement size) n = Extends (width_of size) n
Holds (field.Relative size) n = Extends (width_of size) n

abbrev pub HoldsIn : Option Field → ℕ → Type 0
HoldsIn None n = Unit {0}
HoldsIn (Some f) n = Holds f n

-- the bytes of an operand whose field holds a number
abbrev pub operand_bytes : OperandKind → Operand → ℕ → List ℕ
operand_bytes kind o number = bytes_of kind (specifier_of o number)

-- the operand is read back from its bytes, whatever follows them
abbrev pub IsReadBack : OperandKind → Operand → ℕ → Type 0
IsReadBack kind o number = (rest : List ℕ) →
    read_operand kind (operand_bytes kind o number ++ rest) ≡ Some (Reads (specifier_of o number) (length (operand_bytes kind o number)))

-- The specifier byte of a place, and the bytes of the field behind it.
abbrev pub base_byte : Base → ℕ
base_byte (base.Deferred n) = 0x60 + n
base_byte (base.Decrement n) = 0x70 + n
base_byte (base.Increment n) = 0x80 + n
base_byte (base.IncrementDeferred n) = 0x90 + n
base_byte base.Absolute = 0x9F
base_byte (base.Displaced size n) = displacement_mode (width_of size) + n
base_byte (base.DisplacedDeferred size n) = displacement_mode (width_of size) + 0x10 + n
base_byte (base.Relative size) = displacement_mode (width_of size) + 15
base_byte (base.RelativeDeferred size) = displacement_mode (width_of size) + 0x10 + 15

abbrev pub base_width : Base → ℕ
base_width (base.Deferred n) = 0
base_width (base.Decrement n) = 0
base_width (base.Increment n) = 0
base_width (base.IncrementDeferred n) = 0
base_width base.Absolute = 4
base_width (base.Displaced size n) = width_of size
base_width (base.DisplacedDeferred size n) = width_of size
base_width (base.Relative size) = width_of size
base_width (base.RelativeDeferred size) = width_of size

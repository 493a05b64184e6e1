-- What a value gives a field (VAX MACRO and Instruction Set Reference Manual, "Addressing modes").
use Rattle.std.specs.Prelude.{ℕ, suc, ◌+◌, ◌-◌, ◌/◌, ◌%◌, ◌^◌, ◌==◌, ◌||◌, nat_lt, nat_le, if◌then◌else◌, ℤ, pos, negsuc, Option, Some, None, Result, Ok, Err}
use Rattle.std.specs.Int.{w64, cast_unsigned}
use Rattle.vax_word.specs.declared.Size.{Size}
use Rattle.vax_word.specs.declared.Size.TheVariants as size
use Rattle.vax_word.specs.Arithmetic.{modulus, sign_bit}
use Rattle.vax_isa.specs.declared.actions.Narrow.{Narrow}
use Rattle.vax_isa.specs.declared.actions.Narrow.TheVariants as narrow
use Rattle.vax_lex.specs.declared.value.Value.{Value}
use Rattle.vax_lex.specs.declared.value.Value.TheVariants as value
use Rattle.vax_module.specs.declared.RelocKind.{RelocKind}
use Rattle.vax_module.specs.declared.RelocKind.TheVariants as reloc
use Rattle.vax_asm_encode.specs.declared.operand.Field.{Field}
use Rattle.vax_asm_encode.specs.declared.operand.Field.TheVariants as field
use Rattle.vax_asm_encode.specs.declared.filling.Filled.{Filled}
use Rattle.vax_asm_encode.specs.declared.filling.FieldFault.{FieldFault}
use Rattle.vax_asm_encode.specs.declared.filling.FieldFault.TheVariants as fault
use Rattle.vax_asm_encode.specs.Operands.{width_of}

abbrev pub literal : ℤ → Option ℕ
literal (pos n) = if nat_lt n 64 then Some n else None
literal (negsuc n) = None

-- A number of this size, with a sign or without, in two's complement.
abbrev pub number : Size → ℤ → Option ℕ
number size (pos n) = if nat_lt n (modulus size) then Some n else None
number size (negsuc n) = if nat_lt n (sign_bit size) then Some (modulus size - suc n) else None

-- A signed number of this size, in two's complement.
abbrev pub signed : Size → ℤ → Option ℕ
signed size (pos n) = if nat_lt n (sign_bit size) then Some n else None
signed size (negsuc n) = if nat_lt n (sign_bit size) then Some (modulus size - suc n) else None

-- the number whose sign a displacement of this size extends first
abbrev pub half : Narrow → ℕ
half size = 256 ^ width_of size / 2

-- A signed number of this size, as 32 bits.
abbrev pub displacement : Narrow → ℤ → Option ℕ
displacement size (pos n) = if nat_lt n (half size) then Some n else None
displacement size (negsuc n) = if nat_lt n (half size) then Some (2 ^ 32 - suc n) else None

-- from an address to another, as 32 bits
abbrev pub distance : ℕ → ℤ → ℕ
distance from to = (cast_unsigned w64 to % 2 ^ 32 + (2 ^ 32 - from)) % 2 ^ 32

-- 32 bits, where they are a signed number of this size
abbrev pub reached : Narrow → ℕ → Option ℕ
reached size n = if nat_lt n (half size) || nat_le (2 ^ 32 - half size) n then Some n else None

abbrev pub outright : Option ℕ → Result Filled FieldFault
outright (Some n) = Ok (record { number = n; reloc = None })
outright None = Err fault.Range

-- what the linker fills in
abbrev pub relocated : RelocKind → Result Filled FieldFault
relocated kind = Ok (record { number = 0; reloc = Some kind })

abbrev pub displacement_reloc : Narrow → RelocKind
displacement_reloc narrow.B = reloc.Byte
displacement_reloc narrow.W = reloc.Word
displacement_reloc narrow.L = reloc.Long

abbrev pub relative_reloc : Narrow → RelocKind
relative_reloc narrow.B = reloc.RelByte
relative_reloc narrow.W = reloc.RelWord
relative_reloc narrow.L = reloc.RelLong

-- a longword alone holds an address
abbrev pub address : Size → Result Filled FieldFault
address size.L = relocated reloc.Long
address size.B = Err fault.Form
address size.W = Err fault.Form
address size.Q = Err fault.Form

-- a place of this section is at a known distance, every other one is at a distance that the linker knows
abbrev pub relative : Narrow → (section at : ℕ) → Value → Result Filled FieldFault
relative size section at (value.Section s offset) =
    if s == section then outright (reached size (distance (at + width_of size) offset)) else relocated (relative_reloc size)
relative size section at (value.Absolute n) = relocated (relative_reloc size)
relative size section at (value.External i offset) = relocated (relative_reloc size)

-- What a field at a place of a section holds of a value: a number, and whether the linker adds to it; or why it can't hold the value.
unfoldable pub filled : Field → (section at : ℕ) → Value → Result Filled FieldFault
filled field.Literal section at (value.Absolute n) = outright (literal n)
filled field.Literal section at (value.Section s offset) = Err fault.Form
filled field.Literal section at (value.External i offset) = Err fault.Form
filled (field.Number size) section at (value.Absolute n) = outright (number size n)
filled (field.Number size) section at (value.Section s offset) = address size
filled (field.Number size) section at (value.External i offset) = address size
filled (field.Signed size) section at (value.Absolute n) = outright (signed size n)
filled (field.Signed size) section at (value.Section s offset) = Err fault.Form
filled (field.Signed size) section at (value.External i offset) = Err fault.Form
filled (field.Displacement size) section at (value.Absolute n) = outright (displacement size n)
filled (field.Displacement size) section at (value.Section s offset) = relocated (displacement_reloc size)
filled (field.Displacement size) section at (value.External i offset) = relocated (displacement_reloc size)
filled (field.Relative size) section at v = relative size section at v

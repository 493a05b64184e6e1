-- The bytes of items of data and of operands, and where the fields lie in them (VAX MACRO and Instruction Set Reference Manual,
-- "VAX MACRO assembler directives"; VAX Architecture Reference Manual, operand specifier addressing mode formats).
use Rattle.std.specs.Prelude.{ℕ, zero, suc, ◌+◌, ◌-◌, ◌^◌, nat_lt, if◌then◌else◌, List, [], ◌∷◌, ◌++◌, Option, Some}
use Rattle.std.specs.List.{repeat}
use Rattle.vax_asm_encode.specs.Bytes.{low_bytes, operand_bytes}
use Rattle.vax_asm_encode.specs.Operands.{field_of, item_bytes, item_field}
use Rattle.vax_asm_encode.specs.declared.operand.DataKind.{DataKind}
use Rattle.vax_asm_encode.specs.declared.operand.DataKind.TheVariants as data_kind
use Rattle.vax_asm_encode.specs.declared.operand.Field.{Field}
use Rattle.vax_asm_encode.specs.declared.operand.Operand.{Operand}
use Rattle.vax_asm_encode.specs.declared.operand.Operand.TheVariants as operand
use Rattle.vax_module.specs.declared.Reloc.{Reloc}
use Rattle.vax_asm_first.specs.declared.types.Content.{Content}
use Rattle.vax_asm_first.specs.declared.types.Content.TheVariants as content
use Rattle.vax_word.specs.Arithmetic.{bytes_of}

-- what holds the value
abbrev pub field_in : Content → Option Field
field_in (content.Data kind count) = Some (item_field kind)
field_in (content.Operand kind o) = field_of kind o

-- how many bytes stand before those of the field: the specifier, and the index before it
abbrev pub specifiers : Operand → ℕ
specifiers operand.Branch = 0
specifiers (operand.Indexed base x) = 2
specifiers operand.Literal = 1
specifiers (operand.Register n) = 1
specifiers operand.Immediate = 1
specifiers (operand.Memory base) = 1

abbrev pub before_field : Content → ℕ
before_field (content.Data kind count) = 0
before_field (content.Operand kind o) = specifiers o

-- a quadword with the sign of a number of 64 bits
abbrev pub sign_of : ℕ → ℕ
sign_of number = if nat_lt number (2 ^ 63) then 0 else 2 ^ 64 - 1

-- the bytes of an item that holds a number of at most 64 bits: an octaword has its sign above it
abbrev pub item_in : DataKind → ℕ → List ℕ
item_in (data_kind.Number size) number = low_bytes (bytes_of size) number
item_in (data_kind.Signed size) number = low_bytes (bytes_of size) number
item_in data_kind.Octaword number = low_bytes 8 number ++ low_bytes 8 (sign_of number)

-- the bytes whose field holds a number
abbrev pub bytes_in : Content → ℕ → List ℕ
bytes_in (content.Data kind count) number = repeat count (item_in kind number)
bytes_in (content.Operand kind o) number = operand_bytes kind o number

abbrev pub moved : ℕ → Reloc → Reloc
moved n r = record r { offset = r.offset + n }

-- so many relocations, each so many bytes behind the one before
abbrev pub every : ℕ → ℕ → Reloc → List Reloc
every zero step r = []
every (suc n) step r = r ∷ every n step (moved step r)

-- the relocations of the fields, the first of which is this one
abbrev pub relocs_in : Content → Reloc → List Reloc
relocs_in (content.Data kind count) r = every count (item_bytes kind) r
relocs_in (content.Operand kind o) r = r ∷ []

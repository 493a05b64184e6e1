-- What values, and the fields that hold them, are where the modules lie.
use Rattle.std.specs.Prelude.{ℕ, suc, ◌+◌, ◌-◌, ◌*◌, ◌%◌, ◌^◌, ◌≡◌, ◌≤◌, Bool, true, false, ◌||◌, ◌==◌, nat_lt, nat_le, if◌then◌else◌, List, [], ◌∷◌, ◌++◌, length, take, drop, map, Option, Some, None, slice_index}
use Rattle.std.specs.List.{fold}
use Rattle.byteorder.specs.Endian.{little_bytes}
use Rattle.vax_lex.specs.declared.value.Value.{Value}
use Rattle.vax_lex.specs.declared.value.Value.TheVariants.{Absolute, Section as InSection, External}
use Rattle.vax_module.specs.declared.ExternalName.{ExternalName}
use Rattle.vax_module.specs.declared.Module.{Module}
use Rattle.vax_module.specs.declared.Reloc.{Reloc}
use Rattle.vax_module.specs.declared.RelocKind.{RelocKind}
use Rattle.vax_module.specs.declared.RelocKind.TheVariants.{Byte, Word, Long, RelByte, RelWord, RelLong}
use Rattle.vax_module.specs.Formed.{width_of}
use Rattle.vax_image.specs.declared.Base.{Base}
use Rattle.vax_link.specs.declared.names.Chased.{Chased}
use Rattle.vax_link.specs.declared.names.Chased.TheVariants.{Ends, Unknown, Circles}
use Rattle.vax_link.specs.Names.{Name, entries_from, module_at, low_longword, plus, chase}
use Rattle.vax_link.specs.Layout.{pieces_of, first_piece, addresses}

abbrev pub section_address : Base → List Module → ℕ → ℕ → ℕ
section_address region modules owner section = slice_index (addresses region (pieces_of modules)) (first_piece modules owner + section)

-- a number, or a place in a section; an external name has led to one of them
abbrev pub known_value : Base → List Module → ℕ → Value → ℕ
known_value region modules owner (Absolute n) = low_longword n
known_value region modules owner (InSection section place) = plus (section_address region modules owner section) (low_longword place)
known_value region modules owner (External index place) = 0

-- A weak name that no module defines is 0, beside what is added to it.
abbrev pub chased_value : Base → List Module → Chased → ℕ
chased_value region modules (Ends owner value offset) = plus (known_value region modules owner value) offset
chased_value region modules (Unknown offset) = offset
chased_value region modules Circles = 0

unfoldable pub name_value : Base → List Module → Name → ℕ
name_value region modules name = chased_value region modules (chase modules (entries_from 0 modules) name)

abbrev pub external_value : Base → List Module → ExternalName → ℕ
external_value region modules e = name_value region modules e.name

-- the value of an external name of a module
abbrev pub value_of_external : Base → List Module → ℕ → ℕ → ℕ
value_of_external region modules owner index = slice_index (map (external_value region modules) (module_at modules owner).externals) index

-- the low 32 bits of what a value of a module stands for
unfoldable pub value_of : Base → List Module → ℕ → Value → ℕ
value_of region modules owner (Absolute n) = low_longword n
value_of region modules owner (InSection section place) = plus (section_address region modules owner section) (low_longword place)
value_of region modules owner (External index place) = plus (value_of_external region modules owner index) (low_longword place)

-- ---- fields

-- the distance from one address to another
abbrev pub distance : ℕ → ℕ → ℕ
distance from to = (to + (2 ^ 32 - from % 2 ^ 32)) % 2 ^ 32

abbrev pub is_relative : RelocKind → Bool
is_relative Byte = false
is_relative Word = false
is_relative Long = false
is_relative RelByte = true
is_relative RelWord = true
is_relative RelLong = true

-- what a field at an address holds: its target's value, or the distance to it from past the field
abbrev pub content : RelocKind → ℕ → ℕ → ℕ
content kind address value = if is_relative kind then distance (address + width_of kind) value else value

-- as a signed number it fits a field of so many bytes
abbrev pub fits_signed : ℕ → ℕ → Bool
fits_signed width n = nat_lt n (2 ^ (8 * width - 1)) || nat_le (2 ^ 32 - 2 ^ (8 * width - 1)) n

-- a longword holds the low 32 bits of each value; the others are displacements
unfoldable pub is_in_reach : RelocKind → ℕ → ℕ → Bool
is_in_reach Long address value = true
is_in_reach kind address value = fits_signed (width_of kind) (content kind address value)

-- bytes with a field put into them
unfoldable pub with_field : List ℕ → ℕ → ℕ → ℕ → List ℕ
with_field bytes offset width n = take offset bytes ++ (little_bytes width n ++ drop (offset + width) bytes)

abbrev pub field_address : Base → List Module → ℕ → Reloc → ℕ
field_address region modules owner r = plus (section_address region modules owner r.section) r.offset

abbrev pub field_content : Base → List Module → ℕ → Reloc → ℕ
field_content region modules owner r = content r.kind (field_address region modules owner r) (value_of region modules owner r.target)

-- the field lies within the bytes of the section with this number, if it is in that
abbrev pub IsWithin : ℕ → List ℕ → Reloc → Type 0
IsWithin number bytes r = r.section ≡ number → r.offset + width_of r.kind ≤ length bytes

-- the bytes of a module's section with one more relocated field filled in, if the section has it
abbrev pub with_reloc : Base → List Module → ℕ → ℕ → List ℕ → Reloc → List ℕ
with_reloc region modules owner number bytes r =
    if r.section == number then with_field bytes r.offset (width_of r.kind) (field_content region modules owner r) else bytes

-- the bytes of a module's sections, from one number on
unfoldable pub filled_sections_from : Base → List Module → ℕ → List Reloc → ℕ → List (List ℕ) → List (List ℕ)
filled_sections_from region modules owner relocs number [] = []
filled_sections_from region modules owner relocs number (bytes ∷ rest) =
    fold (with_reloc region modules owner number) bytes relocs ∷ filled_sections_from region modules owner relocs (suc number) rest

-- the bytes of all pieces
unfoldable pub filled_from : Base → List Module → ℕ → List Module → List (List ℕ)
filled_from region modules owner [] = []
filled_from region modules owner (m ∷ rest) =
    filled_sections_from region modules owner m.relocs 0 (map (λ s. s.bytes) m.sections) ++ filled_from region modules (suc owner) rest

-- the lower of two addresses, if there are
abbrev pub lower : Option ℕ → ℕ → Option ℕ
lower None address = Some address
lower (Some least) address = Some (if nat_lt address least then address else least)

-- the lowest address of a field out of reach, with that of one more field
abbrev pub with_reach : Base → List Module → ℕ → Option ℕ → Reloc → Option ℕ
with_reach region modules owner found r =
    if is_in_reach r.kind (field_address region modules owner r) (value_of region modules owner r.target) then found
    else lower found (field_address region modules owner r)

unfoldable pub unreached_from : Base → List Module → ℕ → Option ℕ → List Module → Option ℕ
unreached_from region modules owner found [] = found
unreached_from region modules owner found (m ∷ rest) = unreached_from region modules (suc owner) (fold (with_reach region modules owner) found m.relocs) rest

-- Variable-length bit fields (VAX Architecture Reference Manual, variable-length bit field data type and instructions).
-- A field is a list of bits, the lowest first. Bytes of memory hold it, or one register, or a register and the next.
use Rattle.std.specs.Prelude.{ℕ, zero, suc, ◌+◌, ◌-◌, ◌*◌, ◌/◌, ◌%◌, Bool, false, ◌==◌, ◌&&◌, ◌||◌, not, nat_lt, nat_le, if◌then◌else◌, Option, Some, None, List, [], ◌∷◌, ◌++◌, length, take, drop, replicate, pos}
use Rattle.std.specs.Int.{int_div_euclid, from_bool}
use Rattle.vax_word.specs.declared.Codes.{Codes}
use Rattle.vax_word.specs.declared.Size.TheVariants.{L}
use Rattle.vax_word.specs.Arithmetic.{signed, low_bits, compared, answer}
use Rattle.vax_isa.specs.declared.OperandKind.{OperandKind}
use Rattle.vax_isa.specs.declared.Letter.TheVariants as letter
use Rattle.vax_isa.specs.declared.actions.Field.{Field}
use Rattle.vax_isa.specs.declared.actions.Field.TheVariants as field
use Rattle.vax_flat.specs.declared.Exception.TheVariants as exception
use Rattle.vax_flat.specs.declared.Flow.{Flow}
use Rattle.vax_flat.specs.declared.Flow.TheVariants.{Done}
use Rattle.vax_flat.specs.declared.Holder.{Holder}
use Rattle.vax_flat.specs.declared.Operand.{Operand}
use Rattle.vax_flat.specs.declared.Operand.TheVariants as operand
use Rattle.vax_flat.specs.State.{State, with_conditions}
use Rattle.vax_flat.specs.Accesses.{Accesses, Raises, Leaf}
use Rattle.vax_flat.specs.Operand.{plus, next_operand}
use Rattle.vax_flat.specs.Rows.{read_value, write_place, branch_target, value_at, stored, answered, carry_of}
use Rattle.vax_flat.specs.Control.{jumped_if}

-- the lowest bits of a number
unfoldable pub bits_of : ℕ → ℕ → List Bool
bits_of zero x = []
bits_of (suc count) x = (x % 2 == 1) ∷ bits_of count (x / 2)

-- the number that bits are
unfoldable pub number_of : List Bool → ℕ
number_of [] = 0
number_of (bit ∷ bits) = from_bool bit + 2 * number_of bits

-- so many of the bits, from the first one on
unfoldable pub part : ℕ → ℕ → List Bool → List Bool
part first size bits = take size (drop first bits)

-- the bits with others in the place of as many, from the first one on
unfoldable pub with_part : ℕ → List Bool → List Bool → List Bool
with_part first new bits = take first bits ++ new ++ drop (first + length new) bits

-- where a field is based: an address, or a register
abbrev pub base_kind : OperandKind
base_kind = record { letter = letter.Field; width = 1 }

unfoldable pub base_place : State → (Operand → State → Accesses Leaf) → Accesses Leaf
base_place s next = next_operand base_kind s next

-- the bytes from an address to the one in which a signed position is, rounded down
unfoldable pub bytes_before : ℕ → ℕ
bytes_before position = low_bits L (int_div_euclid (signed L position) (pos 8))

-- the bytes of memory in which a field lies
abbrev pub bytes_at : ℕ → ℕ → ℕ → Holder
bytes_at addr position size = record { place = operand.Memory (plus addr (bytes_before position)); width = (position % 8 + size + 7) / 8; first = position % 8 }

-- what holds a field
unfoldable pub holder : ℕ → ℕ → Operand → Holder
holder position size (operand.Value x) = bytes_at 0 position size
holder position size (operand.Register n) = bytes_at 0 position size
holder position size (operand.Memory addr) = bytes_at addr position size
holder position size (operand.FieldRegister n) = record { place = operand.Register n; width = if nat_le (position + size) 32 then 4 else 8; first = position }
holder position size (operand.Target addr) = bytes_at 0 position size

-- A field has at most 32 bits. In registers it begins in the first, and PC holds no part of it.
unfoldable pub is_reserved_field : ℕ → ℕ → Operand → Bool
is_reserved_field position size (operand.Value x) = nat_lt 32 size
is_reserved_field position size (operand.Register n) = nat_lt 32 size
is_reserved_field position size (operand.Memory addr) = nat_lt 32 size
is_reserved_field position size (operand.FieldRegister n) =
    nat_lt 32 size || (not (size == 0) && (nat_lt 31 position || (n == 14 && nat_lt 32 (position + size))))
is_reserved_field position size (operand.Target addr) = nat_lt 32 size

-- all the bits of what holds a field
unfoldable pub held : Holder → State → (List Bool → State → Accesses Leaf) → Accesses Leaf
held h s next = value_at h.width h.place s (λ x s. next (bits_of (8 * h.width) x) s)

-- a field becomes other bits, and what stands beside it stays
unfoldable pub put : Holder → List Bool → List Bool → State → (State → Accesses Leaf) → Accesses Leaf
put h new bits s next = stored h.width h.place (number_of (with_part h.first new bits)) s next

-- the bits of a field; one of size 0 has none, and touches nothing
unfoldable pub field_bits : ℕ → ℕ → Operand → State → (List Bool → State → Accesses Leaf) → Accesses Leaf
field_bits position size base s next =
    if is_reserved_field position size base then Raises exception.Operand
    else if size == 0 then next [] s
    else held (holder position size base) s (λ bits s. next (part (holder position size base).first size bits) s)

-- the last of the bits
unfoldable pub highest : List Bool → Bool
highest [] = false
highest (bit ∷ []) = bit
highest (bit ∷ next ∷ bits) = highest (next ∷ bits)

-- a field as a longword, with its sign or with zeros in front
unfoldable pub widened : Bool → List Bool → ℕ
widened signed bits = number_of (bits ++ replicate (32 - length bits) (signed && highest bits))

-- how many bits come before the first that is so, all of them where none is
unfoldable pub before_first : Bool → List Bool → ℕ
before_first set [] = 0
before_first set (bit ∷ bits) = if from_bool bit == from_bool set then 0 else suc (before_first set bits)

-- EXTV, EXTZV
unfoldable pub extracted : Bool → ℕ → ℕ → Operand → Operand → State → (Flow → State → Accesses Leaf) → Accesses Leaf
extracted signed position size base place s next =
    field_bits position size base s (λ bits s. answered 4 place false (answer L (widened signed bits) false (carry_of s)) s next)

unfoldable pub extract : Bool → State → (Flow → State → Accesses Leaf) → Accesses Leaf
extract signed s next =
    read_value 4 s (λ position s. read_value 1 s (λ size s. base_place s (λ base s. write_place 4 s (λ place s.
    extracted signed position size base place s next))))

-- CMPV, CMPZV
unfoldable pub compared_field : Bool → ℕ → ℕ → Operand → ℕ → State → (Flow → State → Accesses Leaf) → Accesses Leaf
compared_field signed position size base source s next =
    field_bits position size base s (λ bits s. next Done (with_conditions s (compared L (widened signed bits) source)))

unfoldable pub compare : Bool → State → (Flow → State → Accesses Leaf) → Accesses Leaf
compare signed s next =
    read_value 4 s (λ position s. read_value 1 s (λ size s. base_place s (λ base s. read_value 4 s (λ source s.
    compared_field signed position size base source s next))))

-- FFS, FFC: Z where none is found
abbrev pub found_codes : Bool → Codes
found_codes found = record { n = false; z = not found; v = false; c = false }

unfoldable pub found : Bool → ℕ → ℕ → Operand → Operand → State → (Flow → State → Accesses Leaf) → Accesses Leaf
found set position size base place s next =
    field_bits position size base s (λ bits s.
    answered 4 place false (plus position (before_first set bits), found_codes (nat_lt (before_first set bits) (length bits))) s next)

unfoldable pub find_first : Bool → State → (Flow → State → Accesses Leaf) → Accesses Leaf
find_first set s next =
    read_value 4 s (λ position s. read_value 1 s (λ size s. base_place s (λ base s. write_place 4 s (λ place s.
    found set position size base place s next))))

-- INSV
unfoldable pub inserted : ℕ → ℕ → ℕ → Operand → State → (Flow → State → Accesses Leaf) → Accesses Leaf
inserted source position size base s next =
    if is_reserved_field position size base then Raises exception.Operand
    else if size == 0 then next Done s
    else held (holder position size base) s (λ bits s. put (holder position size base) (bits_of size source) bits s (λ s. next Done s))

unfoldable pub insert : State → (Flow → State → Accesses Leaf) → Accesses Leaf
insert s next =
    read_value 4 s (λ source s. read_value 4 s (λ position s. read_value 1 s (λ size s. base_place s (λ base s.
    inserted source position size base s next))))

-- a bit becomes what is said, if anything is
unfoldable pub becoming : Option Bool → Holder → List Bool → State → (State → Accesses Leaf) → Accesses Leaf
becoming None h bits s next = next s
becoming (Some bit) h bits s next = put h (bit ∷ []) bits s next

-- BBS, BBC, BBSS, BBCS, BBSC, BBCC, BBSSI, BBCCI: a field of one bit, tested as it was
unfoldable pub branched_on : Bool → Option Bool → ℕ → Operand → ℕ → State → (Flow → State → Accesses Leaf) → Accesses Leaf
branched_on set becomes position base target s next =
    if is_reserved_field position 1 base then Raises exception.Operand
    else held (holder position 1 base) s (λ bits s.
    becoming becomes (holder position 1 base) bits s (λ s.
    next Done (jumped_if (number_of (part (holder position 1 base).first 1 bits) == from_bool set) target s)))

unfoldable pub branch : Bool → Option Bool → State → (Flow → State → Accesses Leaf) → Accesses Leaf
branch set becomes s next =
    read_value 4 s (λ position s. base_place s (λ base s. branch_target 1 s (λ target s.
    branched_on set becomes position base target s next)))

-- by the instruction
unfoldable pub performed : Field → State → (Flow → State → Accesses Leaf) → Accesses Leaf
performed (field.Extract signed) s next = extract signed s next
performed (field.Compare signed) s next = compare signed s next
performed field.Insert s next = insert s next
performed (field.FindFirst set) s next = find_first set s next
performed (field.Branch set becomes) s next = branch set becomes s next

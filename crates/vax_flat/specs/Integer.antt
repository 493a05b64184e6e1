-- Integer arithmetic and logical instructions, and address instructions (VAX Architecture Reference Manual, instruction descriptions).
-- One definition a shape of instruction; what it makes of its operands is named by the operation.
use Rattle.std.specs.Prelude.{ℕ, ◌+◌, ◌-◌, ◌*◌, ◌/◌, ◌%◌, ◌^◌, Bool, false, ◌==◌, ◌||◌, if◌then◌else◌}
use Rattle.std.specs.Int.Bits.{bit_and, bit_or, bit_xor}
use Rattle.vax_word.specs.declared.Codes.{Codes}
use Rattle.vax_word.specs.declared.Size.{Size}
use Rattle.vax_word.specs.declared.Size.TheVariants.{B, L}
use Rattle.vax_word.specs.Arithmetic.{bytes_of, modulus, signed, is_less, compared, answer, sum, difference, product, quotient, shifted, converted, extended_product, extended_quotient}
use Rattle.vax_isa.specs.declared.actions.Unary.{Unary}
use Rattle.vax_isa.specs.declared.actions.Unary.TheVariants.{Move, Complement, Negate, ZeroExtend, Convert}
use Rattle.vax_isa.specs.declared.actions.Binary.{Binary}
use Rattle.vax_isa.specs.declared.actions.Binary.TheVariants.{Add, Subtract, Multiply, Divide, BitSet, BitClear, ExclusiveOr, AddWithCarry, SubtractWithCarry}
use Rattle.vax_isa.specs.declared.actions.Integer.{Integer}
use Rattle.vax_isa.specs.declared.actions.Integer.TheVariants as integer
use Rattle.vax_isa.specs.Actions.{size_of}
use Rattle.vax_flat.specs.declared.Flow.{Flow}
use Rattle.vax_flat.specs.declared.Flow.TheVariants as flow
use Rattle.vax_flat.specs.declared.Trap.TheVariants as trap
use Rattle.vax_flat.specs.State.{State, with_conditions}
use Rattle.vax_flat.specs.Accesses.{Accesses, Leaf}
use Rattle.vax_flat.specs.Rows.{read_value, modify_value, write_place, address_value, stored, settled, answered, pushed, carry_of}

-- the other bits
abbrev pub complement : Size → ℕ → ℕ
complement size x = modulus size - 1 - x

-- a result of one operand, with its codes; c is the carry as it was
unfoldable pub of_one : Unary → Size → Size → ℕ → Bool → ℕ × Codes
of_one Move from to x c = answer to (x % modulus to) false c
of_one Complement from to x c = answer to (complement to (x % modulus to)) false c
of_one Negate from to x c = difference to 0 (x % modulus to) false
of_one ZeroExtend from to x c = answer to (x % modulus to) false c
of_one Convert from to x c = converted from to x

-- a result of two operands, with its codes; a is the first operand
unfoldable pub of_two : Binary → Size → ℕ → ℕ → Bool → ℕ × Codes
of_two Add size a b c = sum size b a false
of_two Subtract size a b c = difference size b a false
of_two Multiply size a b c = product size b a
of_two Divide size a b c = quotient size b a
of_two BitSet size a b c = answer size (bit_or b a) false c
of_two BitClear size a b c = answer size (bit_and b (complement size a)) false c
of_two ExclusiveOr size a b c = answer size (bit_xor b a) false c
of_two AddWithCarry size a b c = sum size b a c
of_two SubtractWithCarry size a b c = difference size b a c

-- a division by 0
unfoldable pub is_by_zero : Binary → ℕ → Bool
is_by_zero Add a = false
is_by_zero Subtract a = false
is_by_zero Multiply a = false
is_by_zero Divide a = a == 0
is_by_zero BitSet a = false
is_by_zero BitClear a = false
is_by_zero ExclusiveOr a = false
is_by_zero AddWithCarry a = false
is_by_zero SubtractWithCarry a = false

-- a longword turned left by a count modulo 32
unfoldable pub rotated : ℕ → ℕ → ℕ
rotated count x = (x * 2 ^ (count % 32) + x * 2 ^ (count % 32) / 2 ^ 32) % 2 ^ 32

-- MOV, MCOM, MNEG, MOVZ, CVT
unfoldable pub unary : Unary → Size → Size → State → (Flow → State → Accesses Leaf) → Accesses Leaf
unary operation from to s next =
    read_value (bytes_of from) s (λ x s.
    write_place (bytes_of to) s (λ destination s.
    answered (bytes_of to) destination false (of_one operation from to x (carry_of s)) s next))

-- ADDx2, SUBx2, MULx2, DIVx2, BISx2, BICx2, XORx2, ADWC, SBWC
unfoldable pub two : Binary → Size → State → (Flow → State → Accesses Leaf) → Accesses Leaf
two operation size s next =
    read_value (bytes_of size) s (λ a s.
    modify_value (bytes_of size) s (λ b s.
    answered (bytes_of size) b.0 (is_by_zero operation a) (of_two operation size a b.1 (carry_of s)) s next))

-- ADDx3, SUBx3, MULx3, DIVx3, BISx3, BICx3, XORx3
unfoldable pub three : Binary → Size → State → (Flow → State → Accesses Leaf) → Accesses Leaf
three operation size s next =
    read_value (bytes_of size) s (λ a s.
    read_value (bytes_of size) s (λ b s.
    write_place (bytes_of size) s (λ destination s.
    answered (bytes_of size) destination (is_by_zero operation a) (of_two operation size a b (carry_of s)) s next)))

-- INC, DEC
unfoldable pub by_one : Binary → Size → State → (Flow → State → Accesses Leaf) → Accesses Leaf
by_one operation size s next =
    modify_value (bytes_of size) s (λ b s.
    answered (bytes_of size) b.0 (is_by_zero operation 1) (of_two operation size 1 b.1 (carry_of s)) s next)

-- CLR
unfoldable pub clear : Size → State → (Flow → State → Accesses Leaf) → Accesses Leaf
clear size s next =
    write_place (bytes_of size) s (λ destination s.
    answered (bytes_of size) destination false (answer size 0 false (carry_of s)) s next)

-- TST
unfoldable pub test_value : Size → State → (Flow → State → Accesses Leaf) → Accesses Leaf
test_value size s next = read_value (bytes_of size) s (λ x s. settled false (answer size x false false).1 s next)

-- CMP
unfoldable pub compare : Size → State → (Flow → State → Accesses Leaf) → Accesses Leaf
compare size s next =
    read_value (bytes_of size) s (λ a s.
    read_value (bytes_of size) s (λ b s.
    settled false (compared size a b) s next))

-- BIT
unfoldable pub bit_test : Size → State → (Flow → State → Accesses Leaf) → Accesses Leaf
bit_test size s next =
    read_value (bytes_of size) s (λ mask s.
    read_value (bytes_of size) s (λ x s.
    settled false (answer size (bit_and x mask) false (carry_of s)).1 s next))

-- ASH
unfoldable pub shift : Size → State → (Flow → State → Accesses Leaf) → Accesses Leaf
shift size s next =
    read_value 1 s (λ count s.
    read_value (bytes_of size) s (λ x s.
    write_place (bytes_of size) s (λ destination s.
    answered (bytes_of size) destination false (shifted size (signed B count) x) s next)))

-- ROTL
unfoldable pub rotate : State → (Flow → State → Accesses Leaf) → Accesses Leaf
rotate s next =
    read_value 1 s (λ count s.
    read_value 4 s (λ x s.
    write_place 4 s (λ destination s.
    answered 4 destination false (answer L (rotated count x) false (carry_of s)) s next)))

-- MOVA
unfoldable pub move_address : Size → State → (Flow → State → Accesses Leaf) → Accesses Leaf
move_address size s next =
    address_value (bytes_of size) s (λ addr s.
    write_place 4 s (λ destination s.
    answered 4 destination false (answer L addr false (carry_of s)) s next))

-- a longword pushed as a result
unfoldable pub pushed_result : ℕ → State → (Flow → State → Accesses Leaf) → Accesses Leaf
pushed_result x s next = pushed x s (λ s. settled false (answer L x false (carry_of s)).1 s next)

-- PUSHA
unfoldable pub push_address : Size → State → (Flow → State → Accesses Leaf) → Accesses Leaf
push_address size s next = address_value (bytes_of size) s (λ addr s. pushed_result addr s next)

-- PUSHL
unfoldable pub push : State → (Flow → State → Accesses Leaf) → Accesses Leaf
push s next = read_value 4 s (λ x s. pushed_result x s next)

-- EMUL
unfoldable pub extended_multiply : State → (Flow → State → Accesses Leaf) → Accesses Leaf
extended_multiply s next =
    read_value 4 s (λ a s.
    read_value 4 s (λ b s.
    read_value 4 s (λ addend s.
    write_place 8 s (λ product s.
    answered 8 product false (extended_product a b addend) s next))))

-- EDIV
unfoldable pub extended_divide : State → (Flow → State → Accesses Leaf) → Accesses Leaf
extended_divide s next =
    read_value 4 s (λ divisor s.
    read_value 8 s (λ dividend s.
    write_place 4 s (λ quotient s.
    write_place 4 s (λ remainder s.
    stored 4 quotient (extended_quotient divisor dividend).0 s (λ s.
    stored 4 remainder (extended_quotient divisor dividend).1 s (λ s.
    settled (divisor == 0) (extended_quotient divisor dividend).2 s next))))))

-- the trap of a subscript that is below its lowest or above its highest value
unfoldable pub subscript_flow : ℕ → ℕ → ℕ → Flow
subscript_flow subscript low high = if is_less L subscript low || is_less L high subscript then flow.Trap trap.SubscriptRange else flow.Done

-- the index so far and the subscript added, times the size
unfoldable pub index_of : ℕ → ℕ → ℕ → ℕ
index_of subscript size so_far = (product L (sum L so_far subscript false).0 size).0

-- INDEX
unfoldable pub index : State → (Flow → State → Accesses Leaf) → Accesses Leaf
index s next =
    read_value 4 s (λ subscript s.
    read_value 4 s (λ low s.
    read_value 4 s (λ high s.
    read_value 4 s (λ size s.
    read_value 4 s (λ so_far s.
    write_place 4 s (λ destination s.
    stored 4 destination (index_of subscript size so_far) s (λ s.
    next (subscript_flow subscript low high) (with_conditions s (answer L (index_of subscript size so_far) false false).1))))))))

-- by the instruction
unfoldable pub performed : Integer → State → (Flow → State → Accesses Leaf) → Accesses Leaf
performed (integer.Unary operation from to) s next = unary operation from to s next
performed (integer.Two operation size) s next = two operation (size_of size) s next
performed (integer.Three operation size) s next = three operation (size_of size) s next
performed (integer.ByOne operation size) s next = by_one operation (size_of size) s next
performed (integer.Clear size) s next = clear size s next
performed (integer.Test size) s next = test_value (size_of size) s next
performed (integer.Compare size) s next = compare (size_of size) s next
performed (integer.BitTest size) s next = bit_test (size_of size) s next
performed (integer.Shift size) s next = shift size s next
performed integer.Rotate s next = rotate s next
performed (integer.MoveAddress size) s next = move_address size s next
performed (integer.PushAddress size) s next = push_address size s next
performed integer.Push s next = push s next
performed integer.ExtendedMultiply s next = extended_multiply s next
performed integer.ExtendedDivide s next = extended_divide s next
performed integer.Index s next = index s next

use Rattle.std.specs.Prelude.{ℕ, suc, ◌+◌, ◌/◌, ◌%◌, ◌^◌, ◌==◌, Bool, true, false, not, ◌&&◌, ◌||◌, if◌then◌else◌, nat_le, nat_lt, ℤ, pos, negsuc, ◌+ℤ◌, ◌-ℤ◌, ◌*ℤ◌, neg_ℤ, unsigned_abs, int_lt, int_le, int_div, int_rem}
use Rattle.std.specs.Int.{int_rem_euclid, int_div_euclid, from_bool}
use Rattle.vax_word.specs.declared.Size.{Size}
use Rattle.vax_word.specs.declared.Size.TheVariants.{B, W, L, Q}
use Rattle.vax_word.specs.declared.Codes.{Codes}

-- Exact integer arithmetic. Each definition names the entries of the VAX Architecture Reference Manual
-- (integer arithmetic and logical instructions) whose results and codes it gives.
-- A result is the unbounded one modulo 2 to the operand's bits.

-- the bytes of an operand (data types: byte, word, longword, quadword)
abbrev pub bytes_of : Size → ℕ
bytes_of B = 1
bytes_of W = 2
bytes_of L = 4
bytes_of Q = 8

-- 2 to the operand's bits
abbrev pub modulus : Size → ℕ
modulus s = 256 ^ bytes_of s

-- the least number whose sign bit is 1
abbrev pub sign_bit : Size → ℕ
sign_bit s = modulus s / 2

-- whether the sign bit is 1
abbrev pub is_negative : Size → ℕ → Bool
is_negative s x = nat_le (sign_bit s) x

-- an operand as two's complement
unfoldable pub signed : Size → ℕ → ℤ
signed s x = if is_negative s x then pos x -ℤ pos (modulus s) else pos x

-- CMP: N, whether one operand is below another as signed numbers
unfoldable pub is_less : Size → ℕ → ℕ → Bool
is_less s a b = int_lt (signed s a) (signed s b)

-- CMP: the codes of two operands compared
unfoldable pub compared : Size → ℕ → ℕ → Codes
compared s a b = record { n = is_less s a b; z = a == b; v = false; c = nat_lt a b }

-- an integer modulo 2 to the bits
unfoldable pub low_bits : Size → ℤ → ℕ
low_bits s z = unsigned_abs (int_rem_euclid z (pos (modulus s)))

-- whether an integer is that of a signed operand, and of an unsigned one
unfoldable pub fits_signed : Size → ℤ → Bool
fits_signed s z = int_le (neg_ℤ (pos (sign_bit s))) z && int_lt z (pos (sign_bit s))

unfoldable pub fits_unsigned : Size → ℤ → Bool
fits_unsigned s z = int_le (pos 0) z && int_lt z (pos (modulus s))

-- a result with its codes: N and Z are read from it
unfoldable pub answer : Size → ℕ → Bool → Bool → ℕ × Codes
answer s r v c = (r, record { n = is_negative s r; z = r == 0; v = v; c = c })

-- the low bits of a signed result: V where it does not fit, C 0
unfoldable pub signed_answer : Size → ℤ → ℕ × Codes
signed_answer s z = answer s (low_bits s z) (not (fits_signed s z)) false

-- ADD, INC, ADWC, ADAWI: V where the signed sum does not fit, C where the unsigned one does not
unfoldable pub sum : Size → ℕ → ℕ → Bool → ℕ × Codes
sum s a b carry =
    let unsigned : ℤ = pos (a + b + from_bool carry) in
    let exact : ℤ = signed s a +ℤ signed s b +ℤ pos (from_bool carry) in
    answer s (low_bits s unsigned) (not (fits_signed s exact)) (not (fits_unsigned s unsigned))

-- SUB, DEC, SBWC, and MNEG from 0: V where the signed difference does not fit, C (borrow) where the unsigned one does not
unfoldable pub difference : Size → ℕ → ℕ → Bool → ℕ × Codes
difference s a b borrow =
    let unsigned : ℤ = pos a -ℤ pos (b + from_bool borrow) in
    let exact : ℤ = signed s a -ℤ signed s b -ℤ pos (from_bool borrow) in
    answer s (low_bits s unsigned) (not (fits_signed s exact)) (not (fits_unsigned s unsigned))

-- MUL: V where the signed product does not fit, C 0
unfoldable pub product : Size → ℕ → ℕ → ℕ × Codes
product s a b = signed_answer s (signed s a *ℤ signed s b)

-- DIV truncates towards 0; by 0, and where the quotient does not fit, it is the dividend and V is 1
unfoldable pub quotient : Size → ℕ → ℕ → ℕ × Codes
quotient s dividend divisor =
    let exact : ℤ = int_div (signed s dividend) (signed s divisor) in
    if (divisor == 0) || not (fits_signed s exact) then answer s dividend true false else signed_answer s exact

-- ASH by a count: times 2 to the count, or divided by 2 to minus the count and rounded down
unfoldable pub shifted : Size → ℤ → ℕ → ℕ × Codes
shifted s (pos count) value = signed_answer s (signed s value *ℤ pos (2 ^ count))
shifted s (negsuc count) value = signed_answer s (int_div_euclid (signed s value) (pos (2 ^ suc count)))

-- CVT between integers: V where the signed number does not fit, C 0
unfoldable pub converted : Size → Size → ℕ → ℕ × Codes
converted from to value = signed_answer to (signed from value)

-- EMUL: it always fits a quadword
unfoldable pub extended_product : ℕ → ℕ → ℕ → ℕ × Codes
extended_product a b add = signed_answer Q (signed L a *ℤ signed L b +ℤ signed L add)

-- EDIV: quotient and remainder, whose sign is the dividend's; by 0, and where the quotient does not fit, the
-- dividend's low longword and 0, and V is 1
unfoldable pub extended_quotient : ℕ → ℕ → ℕ × ℕ × Codes
extended_quotient divisor dividend =
    let exact : ℤ = int_div (signed Q dividend) (signed L divisor) in
    if (divisor == 0) || not (fits_signed L exact)
    then (let low = answer L (dividend % modulus L) true false in (low.0, 0, low.1))
    else (let whole = signed_answer L exact in (whole.0, low_bits L (int_rem (signed Q dividend) (signed L divisor)), whole.1))

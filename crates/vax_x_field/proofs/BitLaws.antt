-- The bits of a number, by its quotients and remainders.
use Rattle.std.proofs.Common.{◌≡◌, ℕ, zero, suc, ◌+◌, ◌-◌, ◌*◌, ◌/◌, ◌%◌, ◌^◌, ◌<◌, ◌≤◌, Bool, true, false, ◌&&◌, List, [], ◌∷◌, ◌++◌, length, take, drop, refl, sym, ap, subst, ◌∙◌, arith, length-append}
use Rattle.std.specs.Prelude.{◌==◌, nat_lt, if◌then◌else◌, replicate}
use Rattle.std.proofs.Math.Nat.{div-one, mod-eq_of_lt, pow-suc, div-mul-le_self}
use Rattle.std.proofs.lemmas.Nat.{pow_pos, pow-add, shr-shr, shr_below, mod-pow-add, and_mask, one_shl, or_shifted, shl_below, shl_whole}
use Rattle.std.proofs.lemmas.Nat.{field_of as quotient_of_low}
use Rattle.std.specs.Int.{from_bool}
use Rattle.std.specs.Int.Bits.{bit_and, bit_or}
use Rattle.std.specs.Int.Count.{count_trailing_zeros, under}
use Rattle.vax_flat.specs.Field.{bits_of, number_of, part, with_part, highest, widened, before_first}

pub no_bits : (x : ℕ) → bits_of 0 x ≡ []
unfolding bits_of
no_bits x = refl

pub length_of : (size x : ℕ) → length (bits_of size x) ≡ size
unfolding bits_of
length_of zero x = refl
length_of (suc size) x = ap suc (length_of size (x / 2))

-- a bit as a number
bit_number : (d : ℕ) → d < 2 → from_bool (d == 1) ≡ d
bit_number zero h = refl
bit_number (suc zero) h = refl
bit_number (suc (suc k)) h = absurd (omega arith)

pub one_bit : (b : Bool) → bits_of 1 (from_bool b) ≡ b ∷ []
unfolding bits_of
one_bit true = refl
one_bit false = refl

-- ---- numbers of bits

pub number_of_bits : (size x : ℕ) → number_of (bits_of size x) ≡ x % 2 ^ size
unfolding bits_of number_of
number_of_bits zero x = omega arith
number_of_bits (suc size) x =
    let e : suc size ≡ size + 1 = omega arith in
    let split : x % 2 ^ suc size ≡ (x / 2 % 2 ^ size) * 2 + x % 2 = ap (λ k. x % 2 ^ k) e ∙ mod-pow-add x size 1 in
    omega (arith, bit_number (x % 2) (omega arith), number_of_bits size (x / 2), split)

pub number_of_small : (size x : ℕ) → x < 2 ^ size → number_of (bits_of size x) ≡ x
number_of_small size x h = number_of_bits size x ∙ mod-eq_of_lt h

number_of_joined : (xs ys : List Bool) → number_of (xs ++ ys) ≡ number_of xs + 2 ^ length xs * number_of ys
unfolding number_of
number_of_joined [] ys = omega arith
number_of_joined (x ∷ xs) ys =
    let h = number_of_joined xs ys in
    let p : 2 ^ suc (length xs) ≡ 2 ^ length xs * 2 = pow-suc 2 (length xs) in
    let q : 2 ^ suc (length xs) * number_of ys ≡ 2 * (2 ^ length xs * number_of ys) = ap (λ y. y * number_of ys) p ∙ omega arith in
    omega arith

number_below : (bits : List Bool) → number_of bits < 2 ^ length bits
unfolding number_of
number_below [] = omega arith
number_below (b ∷ bits) = let one : from_bool b ≤ 1 = bit b in omega (arith, number_below bits, pow-suc 2 (length bits))
  where
    bit : (b : Bool) → from_bool b ≤ 1
    bit true = omega arith
    bit false = omega arith

-- the bits of the low part are those of the whole
low_only : (size x : ℕ) → bits_of size (x % 2 ^ size) ≡ bits_of size x
unfolding bits_of
low_only zero x = refl
low_only (suc size) x =
    let e : suc size ≡ size + 1 = omega arith in
    let half : x % 2 ^ suc size / 2 ≡ x / 2 % 2 ^ size = ap (λ k. x % 2 ^ k / 2) e ∙ quotient_of_low x size 1 in
    let split : x % 2 ^ suc size ≡ (x / 2 % 2 ^ size) * 2 + x % 2 = ap (λ k. x % 2 ^ k) e ∙ mod-pow-add x size 1 in
    let low : x % 2 ^ suc size % 2 ≡ x % 2 = omega arith in
    (λ i. (low i == 1) ∷ bits_of size (half i)) ∙ ap (λ bits. (x % 2 == 1) ∷ bits) (low_only size (x / 2))

-- ---- parts

dropped : (first rest count x : ℕ) → count ≡ first + rest → drop first (bits_of count x) ≡ bits_of rest (x / 2 ^ first)
unfolding bits_of
dropped zero rest count x e = let same : count ≡ rest = omega arith in ap (λ k. bits_of k x) same ∙ ap (bits_of rest) (sym (div-one x))
dropped (suc first) rest zero x e = absurd (omega arith)
dropped (suc first) rest (suc count) x e =
    let one : 1 + first ≡ suc first = omega arith in
    dropped first rest count (x / 2) (omega arith) ∙ ap (bits_of rest) (shr-shr x 1 first ∙ ap (λ k. x / 2 ^ k) one)

fronts : (size rest count x : ℕ) → count ≡ size + rest → take size (bits_of count x) ≡ bits_of size x
unfolding bits_of
fronts zero rest count x e = refl
fronts (suc size) rest zero x e = absurd (omega arith)
fronts (suc size) rest (suc count) x e = ap (λ bits. (x % 2 == 1) ∷ bits) (fronts size rest count (x / 2) (omega arith))

part_of : (first size count x : ℕ) → first + size ≤ count → part first size (bits_of count x) ≡ bits_of size (x / 2 ^ first)
unfolding part
part_of first size count x h =
    ap (take size) (dropped first (count - first) count x (omega arith)) ∙ fronts size (count - first - size) (count - first) (x / 2 ^ first) (omega arith)

-- a part is what a shift and a mask give
pub part_is : (first size count x ones : ℕ) → ones ≡ 2 ^ size - 1 → first + size ≤ count → part first size (bits_of count x) ≡ bits_of size (bit_and (x / 2 ^ first) ones)
part_is first size count x ones e h =
    part_of first size count x h ∙ sym (low_only size (x / 2 ^ first)) ∙ ap (bits_of size) (sym (ap (bit_and (x / 2 ^ first)) e ∙ and_mask (x / 2 ^ first) size))

pub part_number : (first size count x ones : ℕ) → ones ≡ 2 ^ size - 1 → first + size ≤ count → number_of (part first size (bits_of count x)) ≡ bit_and (x / 2 ^ first) ones
part_number first size count x ones e h =
    ap number_of (part_of first size count x h) ∙ number_of_bits size (x / 2 ^ first) ∙ sym (ap (bit_and (x / 2 ^ first)) e ∙ and_mask (x / 2 ^ first) size)

-- ---- others in the place of a part

changed_number : (first size count x y : ℕ) → first + size ≤ count → x < 2 ^ count →
    number_of (with_part first (bits_of size y) (bits_of count x)) ≡ x % 2 ^ first + 2 ^ first * (y % 2 ^ size) + 2 ^ (first + size) * (x / 2 ^ (first + size))
unfolding with_part
changed_number first size count x y h fits =
    let front : take first (bits_of count x) ≡ bits_of first x = fronts first (count - first) count x (omega arith) in
    let behind : drop (first + length (bits_of size y)) (bits_of count x) ≡ bits_of (count - (first + size)) (x / 2 ^ (first + size)) =
    ap (λ k. drop (first + k) (bits_of count x)) (length_of size y) ∙ dropped (first + size) (count - (first + size)) count x (omega arith) in
    let parts : count ≡ count - (first + size) + (first + size) = omega arith in
    let small : x / 2 ^ (first + size) < 2 ^ (count - (first + size)) = shr_below x (count - (first + size)) (first + size) (subst (λ k. x < 2 ^ k) parts fits) in
    let joined : length (bits_of first x ++ bits_of size y) ≡ first + size = length-append (bits_of first x) (bits_of size y) ∙ (λ i. length_of first x i + length_of size y i) in
    (λ i. number_of (front i ++ bits_of size y ++ behind i))
    ∙ number_of_joined (bits_of first x ++ bits_of size y) _
    ∙ (λ i. number_of_joined (bits_of first x) (bits_of size y) i + 2 ^ joined i * number_of_small _ _ small i)
    ∙ (λ i. number_of_bits first x i + 2 ^ length_of first x i * number_of_bits size y i + 2 ^ (first + size) * (x / 2 ^ (first + size)))

bytes_pow : (width : ℕ) → 256 ^ width ≡ 2 ^ (8 * width)
bytes_pow zero = refl
bytes_pow (suc width) =
    let e : 8 * suc width ≡ 8 * width + 8 = omega arith in
    pow-suc 256 width ∙ ap (λ x. x * 256) (bytes_pow width) ∙ sym (pow-add 2 (8 * width) 8) ∙ ap (λ k. 2 ^ k) (sym e)

-- what shifts and masks make of a number of so many bytes
pub changed_is : (first size width x y low high behind : ℕ) → low ≡ 2 ^ first - 1 → high ≡ 2 ^ size - 1 → behind ≡ first + size → behind < 64 → behind ≤ 8 * width → x < 256 ^ width → x < 18446744073709551616 →
    number_of (with_part first (bits_of size y) (bits_of (8 * width) x))
    ≡ bit_or (bit_or (x / 2 ^ behind * 2 ^ behind % 18446744073709551616) (bit_and y high * 2 ^ first % 18446744073709551616)) (bit_and x low)
changed_is first size width x y low high behind is_low is_high is_behind near within fits short =
    let j = first + size in
    let turned : size + first ≡ j = omega arith in
    let quotient = x / 2 ^ j in
    let kept : quotient * 2 ^ j % 18446744073709551616 ≡ quotient * 2 ^ j = mod-eq_of_lt (omega (arith, div-mul-le_self x (2 ^ j))) in
    let new : bit_and y high ≡ y % 2 ^ size = ap (bit_and y) is_high ∙ and_mask y size in
    let new_small : y % 2 ^ size < 2 ^ size = omega (arith, pow_pos size) in
    let moved : (y % 2 ^ size) * 2 ^ first % 18446744073709551616 ≡ (y % 2 ^ size) * 2 ^ first = shl_whole (y % 2 ^ size) size first 64 new_small (omega arith) in
    let moved_small : (y % 2 ^ size) * 2 ^ first < 2 ^ j = subst (λ k. (y % 2 ^ size) * 2 ^ first < 2 ^ k) turned (shl_below (y % 2 ^ size) size first new_small) in
    let bottom : bit_and x low ≡ x % 2 ^ first = ap (bit_and x) is_low ∙ and_mask x first in
    let bottom_small : x % 2 ^ first < 2 ^ first = omega (arith, pow_pos first) in
    let power : 2 ^ j ≡ 2 ^ size * 2 ^ first = ap (λ k. 2 ^ k) (sym turned) ∙ pow-add 2 size first in
    let above : quotient * 2 ^ j + (y % 2 ^ size) * 2 ^ first ≡ (quotient * 2 ^ size + y % 2 ^ size) * 2 ^ first = ap (λ p. quotient * p + (y % 2 ^ size) * 2 ^ first) power ∙ omega arith in
    let all : bit_or (bit_or (quotient * 2 ^ j % 18446744073709551616) (bit_and y high * 2 ^ first % 18446744073709551616)) (bit_and x low) ≡ quotient * 2 ^ j + (y % 2 ^ size) * 2 ^ first + x % 2 ^ first =
    (λ i. bit_or (bit_or (kept i) (new i * 2 ^ first % 18446744073709551616)) (bottom i))
    ∙ (λ i. bit_or (bit_or (quotient * 2 ^ j) (moved i)) (x % 2 ^ first))
    ∙ ap (λ u. bit_or u (x % 2 ^ first)) (or_shifted quotient j ((y % 2 ^ size) * 2 ^ first) moved_small ∙ above)
    ∙ or_shifted (quotient * 2 ^ size + y % 2 ^ size) first (x % 2 ^ first) bottom_small
    ∙ ap (λ u. u + x % 2 ^ first) (sym above) in
    changed_number first size (8 * width) x y (omega arith) (subst (λ p. x < p) (bytes_pow width) fits)
    ∙ omega arith
    ∙ sym all
    ∙ ap (λ k. bit_or (bit_or (x / 2 ^ k * 2 ^ k % 18446744073709551616) (bit_and y high * 2 ^ first % 18446744073709551616)) (bit_and x low)) (sym is_behind)

length_changed : (first size count x y : ℕ) → first + size ≤ count → length (with_part first (bits_of size y) (bits_of count x)) ≡ count
unfolding with_part
length_changed first size count x y h =
    let front : take first (bits_of count x) ≡ bits_of first x = fronts first (count - first) count x (omega arith) in
    let behind : drop (first + length (bits_of size y)) (bits_of count x) ≡ bits_of (count - (first + size)) (x / 2 ^ (first + size)) =
    ap (λ k. drop (first + k) (bits_of count x)) (length_of size y) ∙ dropped (first + size) (count - (first + size)) count x (omega arith) in
    (λ i. length (front i ++ bits_of size y ++ behind i))
    ∙ length-append (bits_of first x ++ bits_of size y) _
    ∙ (λ i. length-append (bits_of first x) (bits_of size y) i + length_of (count - (first + size)) (x / 2 ^ (first + size)) i)
    ∙ (λ i. length_of first x i + length_of size y i + (count - (first + size)))
    ∙ omega arith

pub changed_fits : (first size width x y : ℕ) → first + size ≤ 8 * width → number_of (with_part first (bits_of size y) (bits_of (8 * width) x)) < 256 ^ width
changed_fits first size width x y h =
    let below = number_below (with_part first (bits_of size y) (bits_of (8 * width) x)) in
    subst (λ p. number_of (with_part first (bits_of size y) (bits_of (8 * width) x)) < p) (ap (λ k. 2 ^ k) (length_changed first size (8 * width) x y h) ∙ sym (bytes_pow width)) below

-- ---- a sign in front

ones_number : (count : ℕ) → number_of (replicate count true) + 1 ≡ 2 ^ count
unfolding number_of
ones_number zero = refl
ones_number (suc count) = omega (arith, ones_number count, pow-suc 2 count)

zeros_number : (count : ℕ) → number_of (replicate count false) ≡ 0
unfolding number_of
zeros_number zero = refl
zeros_number (suc count) = omega (arith, zeros_number count)

-- the last bit is the highest one
highest_of : (size x : ℕ) → highest (bits_of (suc size) x) ≡ (x / 2 ^ size % 2 == 1)
unfolding highest bits_of
highest_of zero x = ap (λ y. y % 2 == 1) (sym (div-one x))
highest_of (suc size) x =
    let one : 1 + size ≡ suc size = omega arith in
    highest_of size (x / 2) ∙ ap (λ y. y % 2 == 1) (shr-shr x 1 size ∙ ap (λ k. x / 2 ^ k) one)

pub highest_some : (size x : ℕ) → 0 < size → x < 2 ^ size → (x / 2 ^ (size - 1) == 1) ≡ highest (bits_of size x)
highest_some zero x h fits = absurd (omega arith)
highest_some (suc size) x h fits =
    let bit : x / 2 ^ size < 2 ^ 1 = shr_below x 1 size (let e : suc size ≡ 1 + size = omega arith in subst (λ k. x < 2 ^ k) e fits) in
    let same : x / 2 ^ size % 2 ≡ x / 2 ^ size = mod-eq_of_lt bit in
    let back : suc size - 1 ≡ size = omega arith in
    (λ i. x / 2 ^ back i == 1) ∙ (λ i. sym same i == 1) ∙ sym (highest_of size x)

pub highest_none : (size x : ℕ) → size ≤ 0 → nat_lt 0 size ≡ highest (bits_of size x)
unfolding highest bits_of
highest_none zero x h = refl
highest_none (suc size) x h = absurd (omega arith)

pub unsigned_is : (signed negative : Bool) (size x : ℕ) → x < 2 ^ size → negative ≡ highest (bits_of size x) → (signed && negative) ≡ false → x ≡ widened signed (bits_of size x)
unfolding widened
unsigned_is signed negative size x fits e none =
    let rest = 32 - length (bits_of size x) in
    let zeros : number_of (replicate rest (signed && highest (bits_of size x))) ≡ 0 = ap (λ b. number_of (replicate rest (signed && b))) (sym e) ∙ ap (λ b. number_of (replicate rest b)) none ∙ zeros_number rest in
    sym (number_of_joined (bits_of size x) (replicate rest (signed && highest (bits_of size x))) ∙ (λ i. number_of_small size x fits i + 2 ^ length (bits_of size x) * zeros i) ∙ omega arith)

pub signed_is : (signed negative : Bool) (size x : ℕ) → size ≤ 32 → x < 2 ^ size → negative ≡ highest (bits_of size x) → (signed && negative) ≡ true → x + (4294967296 - 1 * 2 ^ size % 18446744073709551616) ≡ widened signed (bits_of size x)
unfolding widened
signed_is signed negative size x short fits e is =
    let rest = 32 - length (bits_of size x) in
    let left : rest ≡ 32 - size = ap (λ k. 32 - k) (length_of size x) in
    let ones : number_of (replicate rest (signed && highest (bits_of size x))) + 1 ≡ 2 ^ rest = ap (λ b. number_of (replicate rest (signed && b)) + 1) (sym e) ∙ ap (λ b. number_of (replicate rest b) + 1) is ∙ ones_number rest in
    let both : 2 ^ size * 2 ^ rest ≡ 4294967296 = ap (λ k. 2 ^ size * 2 ^ k) left ∙ sym (pow-add 2 size (32 - size)) ∙ (let e : size + (32 - size) ≡ 32 = omega arith in ap (λ k. 2 ^ k) e) in
    let digits = number_of (replicate rest (signed && highest (bits_of size x))) in
    let all : 2 ^ size * digits + 2 ^ size ≡ 4294967296 = omega (arith, ap (λ y. 2 ^ size * y) ones, both) in
    let place : 1 * 2 ^ size % 18446744073709551616 ≡ 2 ^ size = one_shl size 64 (omega arith) in
    sym (number_of_joined (bits_of size x) (replicate rest (signed && highest (bits_of size x)))
    ∙ (λ i. number_of_small size x fits i + 2 ^ length_of size x i * digits)
    ∙ omega arith)

-- ---- the first bit that is so

-- an odd number has none before its lowest bit that is 1, an even one has one more than its half
one_more : (d t : ℕ) → d < 2 → (if from_bool (d == 1) == 1 then 0 else suc t) ≡ under d t
one_more zero t h = refl
one_more (suc zero) t h = refl
one_more (suc (suc k)) t h = absurd (omega arith)

before_set : (size x : ℕ) → before_first true (bits_of size x) ≡ count_trailing_zeros size x
unfolding before_first bits_of count_trailing_zeros
before_set zero x = refl
before_set (suc size) x = one_more (x % 2) _ (omega arith) ∙ ap (under (x % 2)) (before_set size (x / 2))

turned : (d t : ℕ) → d < 2 → (if from_bool (d == 1) == 0 then 0 else suc t) ≡ (if from_bool (1 - d == 1) == 1 then 0 else suc t)
turned zero t h = refl
turned (suc zero) t h = refl
turned (suc (suc k)) t h = absurd (omega arith)

-- the first 0 is the complement's first 1
before_clear : (size x : ℕ) → x < 2 ^ size → before_first false (bits_of size x) ≡ before_first true (bits_of size (2 ^ size - 1 - x))
unfolding before_first bits_of
before_clear zero x h = refl
before_clear (suc size) x h =
    let half : (2 ^ suc size - 1 - x) / 2 ≡ 2 ^ size - 1 - x / 2 = omega (arith, pow-suc 2 size) in
    let low : (2 ^ suc size - 1 - x) % 2 ≡ 1 - x % 2 = omega (arith, pow-suc 2 size) in
    ap (λ t. if from_bool (x % 2 == 1) == 0 then 0 else suc t) (before_clear size (x / 2) (omega (arith, pow-suc 2 size)))
    ∙ turned (x % 2) _ (omega arith)
    ∙ (λ i. if from_bool (sym low i == 1) == 1 then 0 else suc (before_first true (bits_of size (sym half i))))

-- a 1 behind the bits ends the search
stopped : (size width x : ℕ) → size < width → x < 2 ^ size → count_trailing_zeros width (x + 2 ^ size) ≡ count_trailing_zeros size x
unfolding count_trailing_zeros
stopped size zero x h fits = absurd (omega arith)
stopped zero (suc width) x h fits = let none : x ≡ 0 = omega arith in ap (λ y. under ((y + 1) % 2) (count_trailing_zeros width ((y + 1) / 2))) none
stopped (suc size) (suc width) x h fits =
    let low : (x + 2 ^ suc size) % 2 ≡ x % 2 = omega (arith, pow-suc 2 size) in
    let half : (x + 2 ^ suc size) / 2 ≡ x / 2 + 2 ^ size = omega (arith, pow-suc 2 size) in
    (λ i. under (low i) (count_trailing_zeros width (half i))) ∙ ap (under (x % 2)) (stopped size width (x / 2) (omega arith) (omega (arith, pow-suc 2 size)))

pub first_set : (size x : ℕ) → size ≤ 32 → x < 2 ^ size → count_trailing_zeros 64 (x + 1 * 2 ^ size % 18446744073709551616) ≡ before_first true (bits_of size x)
first_set size x short fits =
    ap (λ p. count_trailing_zeros 64 (x + p)) (one_shl size 64 (omega arith)) ∙ stopped size 64 x (omega arith) fits ∙ sym (before_set size x)

pub first_clear : (size x ones : ℕ) → ones ≡ 2 ^ size - 1 → x < 2 ^ size → before_first true (bits_of size (ones - x)) ≡ before_first false (bits_of size x)
first_clear size x ones e fits = ap (λ n. before_first true (bits_of size (n - x))) e ∙ sym (before_clear size x fits)

no_further : (here : Bool) (before size : ℕ) → before ≤ size → (if here then 0 else suc before) ≤ suc size
no_further true before size h = omega arith
no_further false before size h = omega arith

pub before_within : (set : Bool) (size x : ℕ) → before_first set (bits_of size x) ≤ size
unfolding before_first bits_of
before_within set zero x = omega arith
before_within set (suc size) x = no_further (from_bool (x % 2 == 1) == from_bool set) _ size (before_within set size (x / 2))

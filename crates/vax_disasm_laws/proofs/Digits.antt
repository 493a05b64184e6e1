-- Digits, read back.
use Rattle.std.proofs.Common.{◌≡◌, ℕ, zero, suc, ◌+◌, ◌*◌, ◌/◌, ◌%◌, ◌^◌, ◌<◌, true, List, [], ◌∷◌, length, refl, ap, ◌∙◌, sym, arith}
use Rattle.std.specs.Prelude.{decimal}
use Rattle.std.specs.Char.{digit_value}
use Rattle.std.specs.List.{list_all}
use Rattle.std.specs.Str.Parse.{AllDigits, IsNumeral, digits_value, digits_value_after}
use Rattle.std.proofs.Math.Nat.{pow-suc, add-mul, mul_assoc, mul_comm, one-le-pow, mod-eq_of_lt}
use Rattle.std.proofs.Math.Arith.{mod-mul}
use Rattle.std.proofs.lemmas.Bool.Decides.{nat_tests}
use Rattle.std.proofs.lemmas.Fmt.{decimal_is_IsNumeral}
use Rattle.vax_lex.specs.Characters.{is_digit, number_after, number_of}
use Rattle.vax_outside.specs.Hex.{hex, hex_digit}

pub hex_digit_passes : (d : ℕ) → d < 16 → is_digit 16 (hex_digit d) ≡ true
hex_digit_passes d h = grind (arith, nat_tests)

hex_digit_value : (d : ℕ) → d < 16 → digit_value (hex_digit d) ≡ d
hex_digit_value d h = grind (arith, nat_tests)

pub hex_passes : (places n : ℕ) → list_all (is_digit 16) (hex places n) ≡ true
unfolding hex
hex_passes zero n = refl
hex_passes (suc places) n =
    let one : is_digit 16 (hex_digit (n / 16 ^ places % 16)) ≡ true = hex_digit_passes (n / 16 ^ places % 16) (omega arith) in
    rw one (hex_passes places n)

pub hex_length : (places n : ℕ) → length (hex places n) ≡ places
unfolding hex
hex_length zero n = refl
hex_length (suc places) n = ap suc (hex_length places n)

spread : (a d q : ℕ) → (a * 16 + d) * q ≡ a * (q * 16) + d * q
spread a d q = add-mul (a * 16) d q ∙ ap (λ (x : ℕ). x + d * q) (mul_assoc a 16 q ∙ ap (λ (x : ℕ). a * x) (mul_comm 16 q))

hex_after : (places n acc : ℕ) → number_after 16 acc (hex places n) ≡ acc * 16 ^ places + n % 16 ^ places
unfolding hex number_after
hex_after zero n acc = omega arith
hex_after (suc places) n acc =
    let positive : 0 < 16 ^ places = one-le-pow places 16 (omega arith) in
    let split : n % (16 * 16 ^ places) ≡ (n / 16 ^ places % 16) * 16 ^ places + n % 16 ^ places = mod-mul n (omega arith) positive in
    let digit : digit_value (hex_digit (n / 16 ^ places % 16)) ≡ n / 16 ^ places % 16 = hex_digit_value (n / 16 ^ places % 16) (omega arith) in
    let rest : number_after 16 (acc * 16 + n / 16 ^ places % 16) (hex places n) ≡ (acc * 16 + n / 16 ^ places % 16) * 16 ^ places + n % 16 ^ places = hex_after places n (acc * 16 + n / 16 ^ places % 16) in
    let power : 16 ^ suc places ≡ 16 ^ places * 16 = pow-suc 16 places in
    let turned : 16 ^ places * 16 ≡ 16 * 16 ^ places = mul_comm (16 ^ places) 16 in
    let sum : (acc * 16 + n / 16 ^ places % 16) * 16 ^ places + n % 16 ^ places ≡ acc * 16 ^ suc places + n % 16 ^ suc places =
    rw (power, spread acc (n / 16 ^ places % 16) (16 ^ places), turned, split) (omega arith) in
    ap (λ (d : ℕ). number_after 16 (acc * 16 + d) (hex places n)) digit ∙ rest ∙ sum

pub hex_value : (places n : ℕ) → n < 16 ^ places → number_of 16 (hex places n) ≡ n
hex_value places n h = let rest : number_after 16 0 (hex places n) ≡ 0 * 16 ^ places + n % 16 ^ places = hex_after places n 0 in let same : n % 16 ^ places ≡ n = mod-eq_of_lt h in omega arith

same_value : (radix n : ℕ) (ds : List ℕ) → digits_value_after radix n ds ≡ number_after radix n ds
unfolding number_after
same_value radix n [] = refl
same_value radix n (d ∷ ds) = same_value radix (n * radix + digit_value d) ds

digits_pass : (ds : List ℕ) → AllDigits 10 ds → list_all (is_digit 10) ds ≡ true
digits_pass [] all = refl
digits_pass (d ∷ ds) all = let one : is_digit 10 d ≡ true = let less : digit_value d < 10 = all.0 in grind (arith, nat_tests) in rw one (digits_pass ds all.1)

pub record IsDecimal (n : ℕ) : Type 0 where
  pub first : ℕ
  pub more : List ℕ
  pub spelled : decimal n ≡ first ∷ more
  pub digits : list_all (is_digit 10) (first ∷ more) ≡ true
  pub value : number_of 10 (first ∷ more) ≡ n

decimal_of : (n : ℕ) (ds : List ℕ) → decimal n ≡ ds → IsNumeral 10 ds → digits_value 10 ds ≡ n → IsDecimal n
decimal_of n [] e is v = absurd (omega (arith, is.0))
decimal_of n (d ∷ ds) e is v = record { first = d; more = ds; spelled = e; digits = digits_pass (d ∷ ds) is.1; value = sym (same_value 10 0 (d ∷ ds)) ∙ v }

pub is_decimal : (n : ℕ) → n < 2 ^ 64 → IsDecimal n
is_decimal n h = let is = decimal_is_IsNumeral n h in decimal_of n (decimal n) refl is.0 is.1

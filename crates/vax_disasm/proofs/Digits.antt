-- Digits that are written one after the other.
use Rattle.std.proofs.Common.{◌≡◌, ℕ, zero, suc, ◌+◌, ◌-◌, ◌*◌, ◌/◌, ◌%◌, ◌^◌, ◌<◌, ◌≤◌, [], ◌∷◌, List, ◌++◌, length, refl, arith, append_assoc, append-nil}
use Rattle.std.specs.Prelude.{decimal}
use Rattle.std.proofs.Math.Nat.{pow-suc}
use Rattle.std.proofs.lemmas.Fmt.{length-decimal-le}
use Rattle.vax_outside.specs.Hex.{hex, hex_digit}

sixteen : (k : ℕ) → 2 ^ (4 * k) ≡ 16 ^ k
sixteen zero = refl
sixteen (suc k) =
    let four : 4 * suc k ≡ suc (suc (suc (suc (4 * k)))) = omega arith in
    rw four (omega (arith, pow-suc 2 (suc (suc (suc (4 * k)))), pow-suc 2 (suc (suc (4 * k))), pow-suc 2 (suc (4 * k)), pow-suc 2 (4 * k), pow-suc 16 k, sixteen k))

pub digit_more : (bytes : List ℕ) (left n d : ℕ) → 0 < left → d ≡ hex_digit (n / 2 ^ (4 * (left - 1)) % 16) → (bytes ++ d ∷ []) ++ hex (left - 1) n ≡ bytes ++ hex left n
unfolding hex
digit_more bytes zero n d h e = absurd (omega arith)
digit_more bytes (suc p) n d h e =
    let low : suc p - 1 ≡ p = omega arith in
    let same : d ≡ hex_digit (n / 16 ^ p % 16) = rw (low, sixteen p) at e in
    rw (low, append_assoc, same) refl

pub no_digit_more : (bytes : List ℕ) (left n : ℕ) → left ≤ 0 → bytes ++ hex left n ≡ bytes
unfolding hex
no_digit_more bytes zero n h = append-nil bytes
no_digit_more bytes (suc p) n h = absurd (omega arith)

pub register_digits : (n : ℕ) → n < 16 → length (decimal n) ≤ 2
register_digits n h = length-decimal-le 2 n (omega arith) (omega arith) (omega arith)

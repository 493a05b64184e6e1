-- The number that at most eight bytes are.
use Rattle.std.proofs.Common.{◌≡◌, ◌<◌, ◌≤◌, ℕ, zero, suc, ◌+◌, ◌-◌, ◌*◌, ◌^◌, List, [], ◌∷◌, length, get_or, drop, ap, arith, ◌∙◌, sym}
use Rattle.std.proofs.lemmas.List.{drop_more, drop_all, length-drop, get_or-drop}
use Rattle.vax_flat.specs.Grammar.{value_of_bytes}

power-suc : (n : ℕ) → 256 ^ suc n ≡ 256 * 256 ^ n
power-suc n = grind arith

pub value_below : (n : ℕ) (xs : List ℕ) → length xs ≤ n → ((i : ℕ) → get_or xs i 0 < 256) → value_of_bytes xs < 256 ^ n
unfolding value_of_bytes
value_below zero [] h f = omega arith
value_below zero (c ∷ xs) h f = absurd (omega arith)
value_below (suc n) [] h f = omega (arith, power-suc n, value_below n [] (omega arith) (λ i. omega arith))
value_below (suc n) (c ∷ xs) h f =
    let c_fits : c < 256 = f 0 in
    omega (arith, power-suc n, value_below n xs (omega arith) (λ i. f (suc i)))

value_fits : (xs : List ℕ) (at : ℕ) → length xs ≤ 8 → ((i : ℕ) → get_or xs i 0 < 256) → value_of_bytes (drop at xs) < 2 ^ 64
value_fits xs at h f =
    value_below 8 (drop at xs) (omega (arith, length-drop at xs)) (λ i. omega (arith, get_or-drop at xs i 0, f (at + i)))

-- one byte lower
pub byte_before : (xs : List ℕ) (at : ℕ) → at < length xs → value_of_bytes (drop at xs) ≡ get_or xs at 0 + 256 * value_of_bytes (drop (at + 1) xs)
unfolding value_of_bytes
byte_before xs at h = ap value_of_bytes (drop_more xs at 0 h)

pub no_byte : (xs : List ℕ) (at : ℕ) → length xs ≤ at → value_of_bytes (drop at xs) ≡ 0
unfolding value_of_bytes
no_byte xs at h = ap value_of_bytes (drop_all at xs h)

-- a byte lower still fits
pub byte_fits : (xs : List ℕ) (at value : ℕ) → 0 < at → at ≤ length xs → length xs ≤ 8 → ((i : ℕ) → get_or xs i 0 < 256)
    → value ≡ value_of_bytes (drop at xs) → value * 256 + get_or xs (at - 1) 0 < 2 ^ 64
byte_fits xs zero value z h k f e = absurd (omega arith)
byte_fits xs (suc at) value z h k f e =
    let low : suc at - 1 ≡ at = omega arith in
    let here : value_of_bytes (drop at xs) ≡ get_or xs at 0 + 256 * value_of_bytes (drop (at + 1) xs) = byte_before xs at (omega arith) in
    let same : at + 1 ≡ suc at = omega arith in
    let next : value_of_bytes (drop (at + 1) xs) ≡ value = ap (λ (k : ℕ). value_of_bytes (drop k xs)) same ∙ sym e in
    rw low (omega (arith, here, next, value_fits xs at k f))

pub value_whole : (xs : List ℕ) (at value : ℕ) → at ≤ 0 → value ≡ value_of_bytes (drop at xs) → ((i : ℕ) → get_or xs i 0 < 256) → value < 256 ^ length xs
value_whole xs zero value z e f = rw e (value_below (length xs) xs (omega arith) f)
value_whole xs (suc at) value z e f = absurd (omega arith)

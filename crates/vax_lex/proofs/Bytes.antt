-- A number of up to eight bytes.
use Rattle.std.proofs.Common.{◌≡◌, ◌<◌, ◌≤◌, ℕ, zero, suc, ◌+◌, ◌-◌, ◌*◌, ◌^◌, List, [], ◌∷◌, length, get_or, drop, ap, arith, ◌∙◌, sym}
use Rattle.std.proofs.lemmas.List.{drop_more, drop_all, length-drop, get_or-drop}
use Rattle.vax_lex.specs.Values.{little_endian}

power-suc : (n : ℕ) → 256 ^ suc n ≡ 256 * 256 ^ n
power-suc n = grind arith

little_endian_below : (n : ℕ) (xs : List ℕ) → length xs ≤ n → ((i : ℕ) → get_or xs i 0 < 256) → little_endian xs < 256 ^ n
little_endian_below zero [] h f = omega arith
little_endian_below zero (c ∷ xs) h f = absurd (omega arith)
little_endian_below (suc n) [] h f = omega (arith, power-suc n, little_endian_below n [] (omega arith) (λ i. omega arith))
little_endian_below (suc n) (c ∷ xs) h f =
    let c_fits : c < 256 = f 0 in
    omega (arith, power-suc n, little_endian_below n xs (omega arith) (λ i. f (suc i)))

pub little_endian_fits : (xs : List ℕ) (at : ℕ) → length xs ≤ 8 → ((i : ℕ) → get_or xs i 0 < 256) → little_endian (drop at xs) < 2 ^ 64
little_endian_fits xs at h f =
    little_endian_below 8 (drop at xs) (omega (arith, length-drop at xs)) (λ i. omega (arith, get_or-drop at xs i 0, f (at + i)))

-- one byte lower
pub byte_before : (xs : List ℕ) (at : ℕ) → at < length xs → little_endian (drop at xs) ≡ get_or xs at 0 + 256 * little_endian (drop (at + 1) xs)
byte_before xs at h = ap little_endian (drop_more xs at 0 h)

pub no_byte : (xs : List ℕ) (at : ℕ) → length xs ≤ at → little_endian (drop at xs) ≡ 0
no_byte xs at h = ap little_endian (drop_all at xs h)

-- a byte lower still fits
pub byte_fits : (xs : List ℕ) (at value : ℕ) → 0 < at → at ≤ length xs → length xs ≤ 8 → ((i : ℕ) → get_or xs i 0 < 256)
    → value ≡ little_endian (drop at xs) → value * 256 + get_or xs (at - 1) 0 < 2 ^ 64
byte_fits xs zero value z h k f e = absurd (omega arith)
byte_fits xs (suc at) value z h k f e =
    let low : suc at - 1 ≡ at = omega arith in
    let here : little_endian (drop at xs) ≡ get_or xs at 0 + 256 * little_endian (drop (at + 1) xs) = byte_before xs at (omega arith) in
    let same : at + 1 ≡ suc at = omega arith in
    let next : little_endian (drop (at + 1) xs) ≡ value = ap (λ (k : ℕ). little_endian (drop k xs)) same ∙ sym e in
    rw low (omega (arith, here, next, little_endian_fits xs at k f))

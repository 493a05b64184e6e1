-- What was written as a field is read again, and leaves what stands behind it.
use Rattle.std.proofs.Common.{◌≡◌, ℕ, zero, suc, ◌+◌, ◌^◌, ◌<◌, ◌≤◌, Bool, false, List, [], ◌∷◌, ◌++◌, length, Result, Ok, refl, sym, ap, ◌∙◌, append_assoc, arith}
use Rattle.std.specs.Prelude.{All, nat_lt, codes}
use Rattle.std.specs.List.{flat_map}
use Rattle.std.proofs.lemmas.Bool.{le-ltb}
use Rattle.std.proofs.lemmas.List.{take_at, drop_at, length-append}
use Rattle.std.proofs.lemmas.List.Elements.{All-head, All-tail}
use Rattle.byteorder.specs.Endian.{little_bytes, little_number}
use Rattle.byteorder.specs.Numbers.{length-bytes_low_first, little_from-append, little_number-reads_back}
use Rattle.vax_save.specs.declared.SaveError.{SaveError}
use Rattle.vax_save.specs.Restoring.{Cursor, ◌>>=◌, bytes_at, input_at, longwords_at, magic_at, number_at, sound_at, steps_at}
use Rattle.vax_save.specs.Saved.{longword, quadword, word}
use Rattle.vax_save_laws.specs.Saveable.{IsLong}

abbrev pub at : ℕ → List ℕ → Cursor
at place rest = record { place = place; rest = rest }

-- a step that met no fault, and what follows it
pub step : {X Y : Type 0} {r : Result X SaveError} (f : X → Result Y SaveError) {x : X} {y : Y} → r ≡ Ok x → f x ≡ Ok y → (r >>= f) ≡ Ok y
step {X = X} f e g = ap (λ (r : Result X SaveError). r >>= f) e ∙ g

-- the place behind so many longwords
abbrev pub past : ℕ → ℕ → ℕ
past place zero = place
past place (suc n) = past (place + 4) n

-- reading gives the value, and leaves the rest
pub record Reads {X : Type 0} (read : Result (X × Cursor) SaveError) (x : X) (rest : List ℕ) : Type 0 where
  pub behind : ℕ
  pub is : read ≡ Ok (x, at behind rest)

pub bytes_again : (n : ℕ) (text rest : List ℕ) (place : ℕ) → length text ≡ n → bytes_at n (at place (text ++ rest)) ≡ Ok (text, at (place + n) rest)
unfolding bytes_at
bytes_again n text rest place len =
    let long : nat_lt (length (text ++ rest)) n ≡ false = le-ltb _ _ (omega (arith, length-append text rest)) in
    rw (long, take_at text rest n len, drop_at text rest n len) refl

pub number_back : (n x : ℕ) → x < 256 ^ n → little_number n (little_bytes n x) ≡ x
number_back n x fits =
    let len = length-bytes_low_first 0 n x in
    sym (little_from-append n (little_bytes n x) [] (omega arith)) ∙ little_number-reads_back n x [] fits

pub number_again : (n x : ℕ) (rest : List ℕ) (place : ℕ) → x < 256 ^ n → number_at n (at place (little_bytes n x ++ rest)) ≡ Ok (x, at (place + n) rest)
unfolding number_at
number_again n x rest place fits =
    let e = bytes_again n (little_bytes n x) rest place (length-bytes_low_first 0 n x) in
    ap (λ (r : Result (List ℕ × Cursor) SaveError). r >>= λ field. Ok (little_number n field.0, field.1)) e ∙ ap (λ (k : ℕ). Ok (k, at (place + n) rest)) (number_back n x fits)

pub sound_again : (n kind : ℕ) (faulty : ℕ → Bool) (x : ℕ) (rest : List ℕ) (place : ℕ) → x < 256 ^ n → faulty x ≡ false
    → sound_at n kind faulty (at place (little_bytes n x ++ rest)) ≡ Ok (x, at (place + n) rest)
sound_again n kind faulty x rest place fits sound = rw (number_again n x rest place fits, sound) refl

pub longwords_again : (xs rest : List ℕ) (place : ℕ) → All IsLong xs → longwords_at (length xs) (at place (flat_map longword xs ++ rest)) ≡ Ok (xs, at (past place (length xs)) rest)
unfolding longwords_at
longwords_again [] rest place longs = refl
longwords_again (x ∷ xs) rest place longs =
    let small : x < 256 ^ 4 = let long : x < 2 ^ 32 = All-head IsLong x xs longs in omega (arith, long) in
    let parts : flat_map longword (x ∷ xs) ++ rest ≡ longword x ++ (flat_map longword xs ++ rest) = append_assoc (longword x) (flat_map longword xs) rest in
    rw (parts, number_again 4 x (flat_map longword xs ++ rest) place small, longwords_again xs rest (place + 4) (All-tail IsLong x xs longs)) refl

pub magic_again : (rest : List ℕ) (place : ℕ) → magic_at (at place (codes "VAXS" ++ rest)) ≡ Ok (at (place + 4) rest)
unfolding magic_at
magic_again rest place = rw (bytes_again 4 (codes "VAXS") rest place refl) refl

pub steps_again : (steps : ℕ) (rest : List ℕ) (place : ℕ) → steps ≤ 10 ^ 18 → steps_at (at place (word 1 ++ (word 0 ++ (quadword steps ++ rest)))) ≡ Ok (steps, at (place + 2 + 2 + 8) rest)
unfolding steps_at
steps_again steps rest place few =
    rw (
      number_again 2 1 (word 0 ++ (quadword steps ++ rest)) place (omega arith),
      number_again 2 0 (quadword steps ++ rest) (place + 2) (omega arith),
      number_again 8 steps rest (place + 2 + 2) (omega (arith, few)),
      le-ltb (10 ^ 18) steps few,
    ) refl

pub input_again : (taken : ℕ) (input rest : List ℕ) (place : ℕ) → taken ≤ length input → IsLong (length input) → Reads (input_at (at place (longword taken ++ (longword (length input) ++ (input ++ rest))))) (taken, input) rest
unfolding input_at
input_again taken input rest place few long = record {
  behind = place + 4 + 4 + length input;
  is =
      rw (
        number_again 4 taken (longword (length input) ++ (input ++ rest)) place (omega (arith, few, long)),
        number_again 4 (length input) (input ++ rest) (place + 4) (omega (arith, long)),
        le-ltb (length input) taken few,
        bytes_again (length input) input rest (place + 4 + 4) refl,
      ) refl;
}

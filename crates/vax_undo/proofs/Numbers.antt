-- Numbers and their bytes, the lowest first.
use Rattle.std.proofs.Common.{◌≡◌, ℕ, suc, zero, ◌+◌, ◌*◌, ◌/◌, ◌%◌, ◌^◌, ◌≤◌, cond, eqb, List, [], ◌∷◌, length, get_or, take, drop, refl, sym, ap, ◌∙◌, arith}
use Rattle.std.proofs.lemmas.List.{drop_all}
use Rattle.std.proofs.Math.Nat.{div-div-eq-div-mul, pow-suc}
use Rattle.std.specs.Int.{bytes_low_first, byte_at as nth_byte}
use Rattle.std.specs.Prelude.{slice_set}
use Rattle.vax_flat.specs.Memory.{after, number, bytes_from}
use Rattle.vax_flat.specs.Port.{put, put_run}
use Rattle.vax_undo.specs.Blocks.{number_in, low_bytes}

-- the number of the bytes from a place on
number_from : (xs : List ℕ) (i : ℕ) → number_in (drop i xs) ≡ get_or xs i 0 + 256 * number_in (drop (suc i) xs)
unfolding number_in
number_from [] zero = refl
number_from [] (suc i) = refl
number_from (x ∷ xs) zero = refl
number_from (x ∷ xs) (suc i) = number_from xs i

none_left : (n : ℕ) (xs : List ℕ) → length xs ≤ n → number_in (drop n xs) ≡ 0
unfolding number_in
none_left n xs h = ap number_in (drop_all n xs h)

pub number_1 : (xs : List ℕ) → length xs ≤ 1 → number_in xs ≡ get_or xs 0 0
number_1 xs h = omega (arith, number_from xs 0, none_left 1 xs h)

pub number_2 : (xs : List ℕ) → length xs ≤ 2 → number_in xs ≡ get_or xs 0 0 + 256 * get_or xs 1 0
number_2 xs h = omega (arith, number_from xs 0, number_from xs 1, none_left 2 xs h)

pub number_4 : (xs : List ℕ) → length xs ≤ 4 → number_in xs ≡ get_or xs 0 0 + 256 * (get_or xs 1 0 + 256 * (get_or xs 2 0 + 256 * get_or xs 3 0))
number_4 xs h = omega (arith, number_from xs 0, number_from xs 1, number_from xs 2, number_from xs 3, none_left 4 xs h)

pub number_8 : (xs : List ℕ) → length xs ≤ 8 → number_in xs ≡ get_or xs 0 0 + 256 * (get_or xs 1 0 + 256 * (get_or xs 2 0 + 256 * (get_or xs 3 0 + 256 * (get_or xs 4 0 + 256 * (get_or xs 5 0 + 256 * (get_or xs 6 0 + 256 * get_or xs 7 0))))))
number_8 xs h = omega (arith, number_from xs 0, number_from xs 1, number_from xs 2, number_from xs 3, number_from xs 4, number_from xs 5, number_from xs 6, number_from xs 7, none_left 8 xs h)

byte_is : (i v : ℕ) → v / 256 ^ i % 256 ≡ nth_byte i v
byte_is zero v = omega arith
byte_is (suc i) v = refl

quotient_more : (i v : ℕ) → v / 256 ^ i / 256 ≡ v / 256 ^ suc i
quotient_more i v = div-div-eq-div-mul v (256 ^ i) 256 ∙ ap (λ k. v / k) (sym (pow-suc 256 i))

low_from : (n i v : ℕ) → low_bytes n (v / 256 ^ i) ≡ bytes_low_first i n v
unfolding low_bytes
low_from zero i v = refl
low_from (suc n) i v =
    ap (λ b. b ∷ low_bytes n (v / 256 ^ i / 256)) (byte_is i v)
    ∙ ap (λ bs. nth_byte i v ∷ bs) (ap (low_bytes n) (quotient_more i v) ∙ low_from n (suc i) v)

pub low_is : (n v : ℕ) → low_bytes n v ≡ bytes_low_first 0 n v
low_is n v = let e : v ≡ v / 256 ^ 0 = omega arith in ap (low_bytes n) e ∙ low_from n 0 v

pub low_take : (n m v : ℕ) → n ≤ m → take n (low_bytes m v) ≡ low_bytes n v
unfolding low_bytes
low_take zero m v h = refl
low_take (suc n) zero v h = absurd (omega arith)
low_take (suc n) (suc m) v h = ap (λ bs. v % 256 ∷ bs) (low_take n m (v / 256) (omega arith))

pub low-length : (n v : ℕ) → length (low_bytes n v) ≡ n
unfolding low_bytes
low-length zero v = refl
low-length (suc n) v = ap suc (low-length n (v / 256))

-- all bytes of a list are set
pub sets_1 : (xs : List ℕ) (p : ℕ) → length xs ≡ 1 → slice_set xs 0 p ≡ p ∷ []
sets_1 [] p h = absurd (omega arith)
sets_1 (a ∷ []) p h = refl
sets_1 (a ∷ b ∷ xs) p h = absurd (omega arith)

pub sets_2 : (xs : List ℕ) (p q : ℕ) → length xs ≡ 2 → slice_set (slice_set xs 0 p) 1 q ≡ p ∷ q ∷ []
sets_2 [] p q h = absurd (omega arith)
sets_2 (a ∷ xs) p q h = ap (λ ys. p ∷ ys) (sets_1 xs q (omega arith))

pub sets_4 : (xs : List ℕ) (p q r s : ℕ) → length xs ≡ 4 → slice_set (slice_set (slice_set (slice_set xs 0 p) 1 q) 2 r) 3 s ≡ p ∷ q ∷ r ∷ s ∷ []
sets_4 [] p q r s h = absurd (omega arith)
sets_4 (a ∷ []) p q r s h = absurd (omega arith)
sets_4 (a ∷ b ∷ xs) p q r s h = ap (λ ys. p ∷ q ∷ ys) (sets_2 xs r s (omega arith))

pub sets_8 : (xs : List ℕ) (p q r s t u v w : ℕ) → length xs ≡ 8 → slice_set (slice_set (slice_set (slice_set (slice_set (slice_set (slice_set (slice_set xs 0 p) 1 q) 2 r) 3 s) 4 t) 5 u) 6 v) 7 w ≡ p ∷ q ∷ r ∷ s ∷ t ∷ u ∷ v ∷ w ∷ []
sets_8 [] p q r s t u v w h = absurd (omega arith)
sets_8 (a ∷ []) p q r s t u v w h = absurd (omega arith)
sets_8 (a ∷ b ∷ []) p q r s t u v w h = absurd (omega arith)
sets_8 (a ∷ b ∷ c ∷ []) p q r s t u v w h = absurd (omega arith)
sets_8 (a ∷ b ∷ c ∷ d ∷ xs) p q r s t u v w h = ap (λ ys. p ∷ q ∷ r ∷ s ∷ ys) (sets_4 xs t u v w (omega arith))

-- a number in memory, by its bytes
pub number_is : (f : ℕ → ℕ) (addr n : ℕ) → number f addr n ≡ number_in (bytes_from f addr n)
unfolding number number_in bytes_from
number_is f addr zero = refl
number_is f addr (suc n) = ap (λ r. f addr + 256 * r) (number_is f (after addr) n)

pub put_is : (f : ℕ → ℕ) (addr n value place : ℕ) → put f addr n value place ≡ put_run f addr (low_bytes n value) place
unfolding put put_run low_bytes
put_is f addr zero value place = refl
put_is f addr (suc n) value place = ap (cond (eqb place addr) (value % 256)) (put_is f (after addr) n (value / 256) place)

-- Marks in words of 64 bits.
use Rattle.std.proofs.Common.{ℕ, zero, suc, ◌≡◌, ◌≢◌, ◌*◌, ◌/◌, ◌%◌, ◌^◌, ◌<◌, true, List, [], ◌∷◌, length, slice_index, slice_index_or, slice_set, get_or-set_same, get_or-set_other, refl, ap, ◌∙◌, arith, inl, inr, replicate, bit_and, bit_or, w64}
use Rattle.std.specs.Prelude.{◌==◌}
use Rattle.std.proofs.Math.Path.{fun_ext}
use Rattle.std.proofs.lemmas.Bool.{cases_eq}
use Rattle.std.proofs.lemmas.Nat.Bits.{bit_at_set_other, bit_at_set_same, bit_at-zero, shr_and_one}
use Rattle.std.proofs.lemmas.List.{length-replicate}
use Rattle.vax_pager.specs.Marks.{has_mark, no_mark}
use Rattle.vax_pager.specs.Steps.{at}
use Rattle.vax_pager.proofs.Moves.{at_other, at_same}

no_word : (n k : ℕ) → slice_index (replicate n 0) k ≡ 0
no_word zero k = refl
no_word (suc n) zero = refl
no_word (suc n) (suc k) = no_word n k

pub no_marks_in : (n : ℕ) (words : List ℕ) → words ≡ replicate n 0 → has_mark words ≡ no_mark
unfolding has_mark
no_marks_in n words e = fun_ext (λ number.
    ap (λ (w : ℕ). w / 2 ^ (number % 64) % 2 == 1) (ap (λ (z : List ℕ). slice_index z (number / 64)) e ∙ no_word n (number / 64)) ∙ ap (λ (b : ℕ). b == 1) (bit_at-zero (number % 64)))

mark_at : (words : List ℕ) (n : ℕ) → (slice_index words (n / 64) / 2 ^ (n % 64) % 2 == 1) ≡ has_mark words n
unfolding has_mark
mark_at words n = refl

mark_same : (words : List ℕ) (n : ℕ) → n / 64 < length words → has_mark (slice_set words (n / 64) (bit_or (slice_index words (n / 64)) (1 * 2 ^ (n % 64) % 2 ^ 64))) n ≡ true
unfolding has_mark
mark_same words n low =
    let word = slice_index words (n / 64) in
    ap (λ (w : ℕ). w / 2 ^ (n % 64) % 2 == 1) (get_or-set_same {A = ℕ} words (n / 64) (bit_or word (1 * 2 ^ (n % 64) % 2 ^ 64)) 0 low)
    ∙ ap (λ (b : ℕ). b == 1) (bit_at_set_same w64 word (n % 64) (omega arith))

mark_other : (words : List ℕ) (n q : ℕ) → n / 64 < length words → q ≢ n → has_mark (slice_set words (n / 64) (bit_or (slice_index words (n / 64)) (1 * 2 ^ (n % 64) % 2 ^ 64))) q ≡ has_mark words q
unfolding has_mark
mark_other words n q low o =
    let word = slice_index words (n / 64) in
    elim (cases_eq (q / 64) (n / 64)) [
      | inl e ↦
          let far : q % 64 ≢ n % 64 = λ k. o (omega arith) in
          rw (e, get_or-set_same {A = ℕ} words (n / 64) (bit_or word (1 * 2 ^ (n % 64) % 2 ^ 64)) 0 low) (ap (λ (b : ℕ). b == 1) (bit_at_set_other w64 word (n % 64) (omega arith) (q % 64) far))
      | inr d ↦ ap (λ (w : ℕ). w / 2 ^ (q % 64) % 2 == 1) (get_or-set_other {A = ℕ} words (n / 64) (q / 64) (bit_or word (1 * 2 ^ (n % 64) % 2 ^ 64)) 0 d)
    ]

-- a value that was read of an array
read : (xs : List ℕ) (i x : ℕ) → i < length xs → x ≡ slice_index_or xs i x → x ≡ slice_index xs i
read [] i x low e = absurd (omega arith)
read (y ∷ ys) zero x low e = e
read (y ∷ ys) (suc i) x low e = read ys i x (omega arith) e

pub no_marks_length : (words : List ℕ) → words ≡ replicate 1088 0 → length words ≡ 1088
no_marks_length words e = ap (length {A = ℕ}) e ∙ length-replicate {A = ℕ} 1088 0

pub has_is : (words : List ℕ) (n w : ℕ) → w ≡ slice_index_or words (n / 64) w → n / 64 < length words → (bit_and (w / 2 ^ (n % 64)) 1 == 1) ≡ has_mark words n
has_is words n w was low =
    ap (λ (b : ℕ). b == 1) (shr_and_one w (n % 64) ∙ ap (λ (x : ℕ). x / 2 ^ (n % 64) % 2) (read words (n / 64) w low was)) ∙ mark_at words n

pub marks_set : (words : List ℕ) (n w : ℕ) → w ≡ slice_index_or words (n / 64) w → n / 64 < length words → has_mark (slice_set words (n / 64) (bit_or w (1 * 2 ^ (n % 64) % 2 ^ 64))) ≡ at n true (has_mark words)
marks_set words n w was low =
    ap (λ (x : ℕ). has_mark (slice_set words (n / 64) (bit_or x (1 * 2 ^ (n % 64) % 2 ^ 64)))) (read words (n / 64) w low was)
    ∙ fun_ext (λ q. elim (cases_eq q n) [
      | inl e ↦ rw (e, at_same n true (has_mark words)) (mark_same words n low)
      | inr o ↦ rw (at_other n q true (has_mark words) o) (mark_other words n q low o)
    ])

-- The last so many of a list.
use Rattle.std.proofs.Common.{ℕ, zero, suc, ◌≡◌, ◌+◌, ◌-◌, ◌<◌, ◌≤◌, true, false, List, [], ◌∷◌, ◌++◌, drop, length, length-append, refl, ap, ◌∙◌, arith, inl, inr}
use Rattle.std.proofs.lemmas.Bool.{cases_Bool, cases_eq, eq-eqb, ne_eqb, false≢true}
use Rattle.std.proofs.lemmas.List.{length-drop}
use Rattle.vax_pager.specs.Listing.{is_listed, leave_out}
use Rattle.vax_pager.specs.Store.{last_of, lowered_if}

pub drop_push : (n p : ℕ) (xs : List ℕ) → n ≤ length xs → drop n (xs ++ p ∷ []) ≡ drop n xs ++ p ∷ []
drop_push zero p xs few = refl
drop_push (suc n) p [] few = absurd (omega arith)
drop_push (suc n) p (x ∷ xs) few = drop_push n p xs (omega arith)

drop_front : (front end : List ℕ) → drop (length front) (front ++ end) ≡ end
drop_front [] end = refl
drop_front (x ∷ front) end = drop_front front end

pub last_parts : (n : ℕ) (front end : List ℕ) → length end ≡ n → last_of n (front ++ end) ≡ end
last_parts n front end e =
    let size : length (front ++ end) - n ≡ length front = omega (arith, length-append front end) in
    ap (λ (k : ℕ). drop k (front ++ end)) size ∙ drop_front front end

pub last-length : (n : ℕ) (xs : List ℕ) → n ≤ length xs → length (last_of n xs) ≡ n
last-length n xs few = omega (arith, length-drop (length xs - n) xs)

drop_all : (xs : List ℕ) → drop (length xs) xs ≡ []
drop_all [] = refl
drop_all (x ∷ xs) = drop_all xs

pub last_none : (xs : List ℕ) → last_of 0 xs ≡ []
last_none xs = let k : length xs - 0 ≡ length xs = omega arith in ap (λ (n : ℕ). drop n xs) k ∙ drop_all xs

out_few : (p : ℕ) (xs : List ℕ) → length (leave_out p xs) ≤ length xs
unfolding leave_out
out_few p [] = omega arith
out_few p (x ∷ xs) = elim (cases_eq x p) [
  | inl e ↦ rw (eq-eqb x p e) (omega (arith, out_few p xs))
  | inr o ↦ rw (ne_eqb x p o) (omega (arith, out_few p xs))
]

out_less : (p : ℕ) (xs : List ℕ) → is_listed p xs ≡ true → length (leave_out p xs) < length xs
unfolding is_listed leave_out
out_less p [] h = absurd (false≢true h)
out_less p (x ∷ xs) h = elim (cases_eq x p) [
  | inl e ↦ rw (eq-eqb x p e) (omega (arith, out_few p xs))
  | inr o ↦ rw (ne_eqb x p o) (omega (arith, out_less p xs (rw (ne_eqb x p o) at h)))
]

out_same : (p : ℕ) (xs : List ℕ) → is_listed p xs ≡ false → length (leave_out p xs) ≡ length xs
unfolding is_listed leave_out
out_same p [] h = refl
out_same p (x ∷ xs) h = elim (cases_eq x p) [
  | inl e ↦ let bad : true ≡ false = rw (eq-eqb x p e) at h in cc
  | inr o ↦ rw (ne_eqb x p o) (ap suc (out_same p xs (rw (ne_eqb x p o) at h)))
]

pub one_less : (p : ℕ) (front end : List ℕ) → length (leave_out p front) + length (leave_out p end) + 1 ≡ length front + length end → length (leave_out p end) ≡ lowered_if (is_listed p end) (length end)
one_less p front end total = elim (cases_Bool (is_listed p end)) [
  | inl t ↦ rw t (omega (arith, total, out_few p front, out_less p end t))
  | inr f ↦ rw f (out_same p end f)
]

-- Lists in which each page stands once.
use Rattle.std.proofs.Common.{ℕ, ◌≡◌, ◌<◌, ◌≤◌, true, false, ◌==◌, List, [], ◌∷◌, length, refl, ap, sym, ◌∙◌, arith, inl, inr, Some, None}
use Rattle.std.proofs.lemmas.Bool.{cases_Bool, cases_eq, eq-eqb, ne_eqb}
use Rattle.vax_pager.specs.Listing.{is_listed, leave_out, first_outside, AreOnce}
use Rattle.vax_pager.proofs.Listing.{in_without}

pub out-length : (page : ℕ) (xs : List ℕ) → length (leave_out page xs) ≤ length xs
unfolding leave_out
out-length page [] = omega arith
out-length page (x ∷ xs) =
    let h = out-length page xs in
    elim (cases_Bool (x == page)) [ inl e ↦ rw e (omega (arith, h)) | inr e ↦ rw e (omega (arith, h)) ]

pub shorter : (page : ℕ) (xs : List ℕ) → is_listed page xs ≡ true → length (leave_out page xs) < length xs
unfolding leave_out is_listed
shorter page [] h = cc
shorter page (x ∷ xs) h = elim (cases_Bool (x == page)) [
  | inl e ↦ let k = out-length page xs in rw e (omega (arith, k))
  | inr e ↦ let k = shorter page xs (rw e at h) in rw e (omega (arith, k))
]

-- what is no more in a list
pub still_out : (page other : ℕ) (xs : List ℕ) → is_listed page xs ≡ false → is_listed page (leave_out other xs) ≡ false
still_out page other xs h = elim (cases_Bool (page == other)) [
  | inl e ↦ in_without page other xs ∙ rw e refl
  | inr e ↦ in_without page other xs ∙ rw e h
]

-- a list in which each page stands once is no longer than one that has all its pages
pub fits : (xs ys : List ℕ) → AreOnce xs → ((page : ℕ) → is_listed page xs ≡ true → is_listed page ys ≡ true) → length xs ≤ length ys
unfolding AreOnce is_listed
fits [] ys once all = omega arith
fits (x ∷ xs) ys once all =
    let here : is_listed x ys ≡ true = all x (rw (eq-eqb x x refl) refl) in
    let less = shorter x ys here in
    let rest = fits xs (leave_out x ys) once.1 (λ page h. elim (cases_eq page x) [
      | inl e ↦ let no : false ≡ true = sym once.0 ∙ (ap (λ (z : ℕ). is_listed z xs) (sym e) ∙ h) in cc
      | inr o ↦ in_without page x ys ∙ rw (ne_eqb page x o) (all page (elim (cases_Bool (x == page)) [ inl t ↦ rw t refl | inr f ↦ rw f h ]))
    ]) in
    omega (arith, less, rest)

none_outside : (others xs : List ℕ) → first_outside others xs ≡ None → (page : ℕ) → is_listed page xs ≡ true → is_listed page others ≡ true
unfolding first_outside is_listed
none_outside others [] e page h = cc
none_outside others (x ∷ xs) e page h = elim (cases_Bool (is_listed x others)) [
  | inl t ↦ elim (cases_eq x page) [
    | inl same ↦ ap (λ (z : ℕ). is_listed z others) (sym same) ∙ t
    | inr o ↦ none_outside others xs (rw t at e) page (rw (ne_eqb x page o) at h)
  ]
  | inr f ↦ let no : Some x ≡ None = rw f at e in cc
]

-- of more pages than are pinned, one isn't
pub some_outside : (pins order : List ℕ) → AreOnce order → length pins < length order → first_outside pins order ≡ None → ⊥
some_outside pins order once few e =
    let h = fits order pins once (none_outside pins order e) in
    absurd (omega (arith, h, few))

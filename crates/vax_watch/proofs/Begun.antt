-- The bytes up to the first that isn't there.
use Rattle.std.proofs.Common.{ℕ, zero, suc, ◌≡◌, ◌≤◌, ◌+◌, ◌++◌, List, [], ◌∷◌, Option, None, Some, append-nil, append_assoc, drop, get_or, length, refl, ap, sym, ◌∙◌, arith}
use Rattle.vax_watch.specs.Listing.{present}

pub present_none : (k : ℕ) (cells : List (Option ℕ)) → get_or cells k None ≡ None → present (drop k cells) ≡ []
unfolding present
present_none zero [] e = refl
present_none zero (None ∷ cells) e = refl
present_none zero (Some byte ∷ cells) e = absurd (cc e)
present_none (suc k) [] e = refl
present_none (suc k) (cell ∷ cells) e = present_none k cells e

pub present_all : (k : ℕ) (cells : List (Option ℕ)) → length cells ≤ k → present (drop k cells) ≡ []
unfolding present
present_all zero [] low = refl
present_all zero (cell ∷ cells) low = absurd (omega (arith, low))
present_all (suc k) [] low = refl
present_all (suc k) (cell ∷ cells) low = present_all k cells (omega (arith, low))

present_more : (k : ℕ) (cells : List (Option ℕ)) (byte : ℕ) → get_or cells k None ≡ Some byte → present (drop k cells) ≡ byte ∷ present (drop (suc k) cells)
unfolding present
present_more zero [] byte e = absurd (cc e)
present_more zero (None ∷ cells) byte e = absurd (cc e)
present_more zero (Some b ∷ cells) byte e = let same : b ≡ byte = cc in ap (λ (z : ℕ). z ∷ present cells) same
present_more (suc k) [] byte e = absurd (cc e)
present_more (suc k) (cell ∷ cells) byte e = present_more k cells byte e

pub present_next : (k : ℕ) (cells : List (Option ℕ)) (byte : ℕ) (bytes : List ℕ) → get_or cells k None ≡ Some byte → bytes ++ present (drop k cells) ≡ present cells → (bytes ++ byte ∷ []) ++ present (drop (k + 1) cells) ≡ present cells
present_next k cells byte bytes e h =
    let n : suc k ≡ k + 1 = omega arith in
    append_assoc bytes (byte ∷ []) (present (drop (k + 1) cells))
    ∙ (ap (λ (z : ℕ). bytes ++ (byte ∷ present (drop z cells))) (sym n) ∙ (ap (λ (zs : List ℕ). bytes ++ zs) (sym (present_more k cells byte e)) ∙ h))

pub present_whole : (bytes rest all : List ℕ) → rest ≡ [] → bytes ++ rest ≡ all → bytes ≡ all
present_whole bytes rest all e h = sym (append-nil bytes) ∙ (ap (λ (zs : List ℕ). bytes ++ zs) (sym e) ∙ h)

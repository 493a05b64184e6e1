-- The place of a text in another.
use Rattle.std.proofs.Common.{◌≡◌, ◌+◌, ◌<◌, ℕ, true, false, List, [], ◌∷◌, length, take, drop, refl, ap, ◌∙◌, arith, length-drop}
use Rattle.std.proofs.lemmas.List.{drop-drop}
use Rattle.std.specs.Str.{bytes_eq}
use Rattle.vax_macro.specs.Strings.{place_from}

here : (at : ℕ) (wanted text : List ℕ) → 0 < length text → bytes_eq wanted (take (length wanted) text) ≡ true → place_from at wanted text ≡ at
unfolding place_from
here at wanted [] h e = absurd (omega (arith, h))
here at wanted (b ∷ text) h e = rw e refl

later : (at : ℕ) (wanted text : List ℕ) → 0 < length text → bytes_eq wanted (take (length wanted) text) ≡ false → place_from at wanted text ≡ place_from (at + 1) wanted (drop 1 text)
unfolding place_from
later at wanted [] h e = absurd (omega (arith, h))
later at wanted (b ∷ text) h e = rw e refl

-- it stands at this place, or is looked for from the next one on
pub found_here : (at : ℕ) (wanted text : List ℕ) → at < length text → bytes_eq wanted (take (length wanted) (drop at text)) ≡ true → place_from at wanted (drop at text) ≡ at
found_here at wanted text h e = here at wanted (drop at text) (omega (arith, h, length-drop at text)) e

pub found_later : (at : ℕ) (wanted text : List ℕ) → at < length text → bytes_eq wanted (take (length wanted) (drop at text)) ≡ false → place_from at wanted (drop at text) ≡ place_from (at + 1) wanted (drop (at + 1) text)
found_later at wanted text h e =
    later at wanted (drop at text) (omega (arith, h, length-drop at text)) e ∙ ap (λ (l : List ℕ). place_from (at + 1) wanted l) (drop-drop 1 at text)

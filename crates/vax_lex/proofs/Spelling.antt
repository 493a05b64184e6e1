-- What a loop needs that compares a text with a word.
use Rattle.std.proofs.Common.{◌≡◌, ◌<◌, ◌≢◌, ℕ, ◌+◌, true, false, List, [], ◌∷◌, length, get_or, drop, refl, ap, arith, ◌∙◌}
use Rattle.std.specs.Prelude.{◌&&◌, ◌==◌}
use Rattle.std.specs.Char.{to_ascii_uppercase}
use Rattle.std.proofs.lemmas.List.{drop_more}
use Rattle.vax_lex.specs.Characters.{spells}

-- a word has its own length
pub spells_length : (word text : List ℕ) → length text ≢ length word → spells word text ≡ false
spells_length [] [] h = absurd (h refl)
spells_length [] (b ∷ text) h = refl
spells_length (c ∷ word) [] h = refl
spells_length (c ∷ word) (b ∷ text) h =
    elim (to_ascii_uppercase b == c) as (λ v. (v && spells word text) ≡ false) [ true ↦ spells_length word text (λ e. h (omega (arith, e))) | false ↦ refl ]

-- one place further
pub spells_more : (word text : List ℕ) (i : ℕ) → i < length word → i < length text
    → spells (drop i word) (drop i text) ≡ ((to_ascii_uppercase (get_or text i 0) == get_or word i 0) && spells (drop (i + 1) word) (drop (i + 1) text))
spells_more word text i h k = ap (λ w. spells w (drop i text)) (drop_more word i 0 h) ∙ ap (λ t. spells (get_or word i 0 ∷ drop (i + 1) word) t) (drop_more text i 0 k)

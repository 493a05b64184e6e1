-- The parts of a text between its commas, one after another.
use Rattle.std.proofs.Common.{◌≡◌, ◌<◌, ◌+◌, ℕ, Bool, true, false, List, [], ◌∷◌, length, refl, arith}
use Rattle.std.proofs.lemmas.List.Splits.{slice_split-cons_no, slice_split_first}
use Rattle.std.specs.List.{after_first, before_first, position_or_len, slice_split}
use Rattle.vax_cli.specs.Values.{is_comma}

whole_at : (c : ℕ) (cs : List ℕ) (b : Bool) → is_comma c ≡ b → position_or_len is_comma (c ∷ cs) ≡ length (c ∷ cs) → (position_or_len is_comma cs ≡ length cs → slice_split is_comma cs ≡ cs ∷ []) → slice_split is_comma (c ∷ cs) ≡ (c ∷ cs) ∷ []
whole_at c cs true is e rest =
    let none : 0 ≡ length (c ∷ cs) = rw is at e in
    absurd (omega arith)
whole_at c cs false is e rest =
    let more : 1 + position_or_len is_comma cs ≡ length (c ∷ cs) = rw is at e in
    let one : slice_split is_comma cs ≡ cs ∷ [] = rest (omega arith) in
    rw (slice_split-cons_no is_comma c cs is, one) refl

-- a text without a comma is one part
pub parts_whole : (text : List ℕ) → position_or_len is_comma text ≡ length text → slice_split is_comma text ≡ text ∷ []
parts_whole [] e = refl
parts_whole (c ∷ cs) e = whole_at c cs _ refl e (parts_whole cs)

-- the first part ends at the first comma
pub parts_cut : (text first rest : List ℕ) → first ≡ before_first is_comma text → rest ≡ after_first is_comma text → position_or_len is_comma text < length text → slice_split is_comma text ≡ first ∷ slice_split is_comma rest
parts_cut text first rest e f l = rw (e, f) (slice_split_first is_comma text 0 l)

-- A line that was taken.
use Rattle.std.proofs.Common.{◌≡◌, ℕ, List, [], ◌∷◌, take, None, Some, refl, ap}
use Rattle.vax_lines.specs.Lines.{lines}
use Rattle.vax_input.specs.Lines.{Takes}

-- from a text
pub took_one : (text behind next line : List ℕ) → lines text ≡ next ∷ lines behind → line ≡ take 1025 next → Takes (Some (lines text)) (Some (lines behind)) (line ∷ [])
took_one text behind next line e c = record { whole = next ∷ []; next = ap Some e; cuts = ap (λ (z : List ℕ). z ∷ []) c }

-- from where nothing is told
pub took_untold : (bytes line : List ℕ) → line ≡ take 1025 bytes → Takes None None (line ∷ [])
took_untold bytes line c = record { whole = bytes ∷ []; next = refl; cuts = ap (λ (z : List ℕ). z ∷ []) c }

-- How the errors of a program's files begin.
use Rattle.std.specs.Prelude.{◌≡◌, ◌⊎◌, ℕ, suc, List, [], ◌∷◌, ◌++◌}
use Rattle.vax_asm_errors.specs.Errors.{place}
use Rattle.vax_lines.specs.Lines.{Text}
use Rattle.vax_prelude.specs.Preludes.{Title}

-- the title of the file with this number, where the first has that one
abbrev pub IsNamed : (first file : ℕ) → List Title → Title → Type 0
IsNamed first file [] title = ⊥
IsNamed first file (other ∷ titles) title = ((first ≡ file) × (other ≡ title)) ⊎ IsNamed (suc first) file titles title

-- What was added begins with an error on a line of the file with this number.
pub record BeginsAtLine (titles : List Title) (first file line : ℕ) (before after : Text) : Type 0 where
  pub title : Title
  pub named : IsNamed first file titles title
  pub column : ℕ
  pub rest : Text
  pub text : after ≡ before ++ place title line column ++ rest

-- The names of a text, wherever they stand: in a quoted text and a comment they are looked for as elsewhere.
use Rattle.std.specs.Prelude.{◌≡◌, ℕ, ◌+◌, true, false, ◌&&◌, ◌==◌, List, [], ◌∷◌, ◌++◌, length}
use Rattle.vax_lex.specs.Parts.{Element, gap, token, wide, stray, characters, Part, part_of, behind_operator, behind_size}
use Rattle.vax_lex.specs.Vocabulary.{Longest}
use Rattle.vax_lex.specs.Written.{written}
use Rattle.vax_lex.specs.declared.token.TokenKind.TheVariants.{Name, Number, Mark, Text}
use Rattle.vax_lex.specs.declared.token.Span.{Span}

-- Behind these parts, and in front of the rest, stands this element: the letter of an operator such as `^C`, the `^` of
-- an operand such as `B^5`, the longest word that begins there, or the sign of a comment.
pub data StandsAnywhere (before : List Part) (e : Element) (rest : List ℕ) : Type 0 where
  letter_there : (b : ℕ) → behind_operator before ≡ true → e ≡ token Name (b ∷ []) → StandsAnywhere before e rest
  caret_there : behind_operator before ≡ false → behind_size before ≡ true → e ≡ token (Mark 94) (94 ∷ []) → StandsAnywhere before e rest
  longest_there : (b : ℕ) (bytes : List ℕ) → behind_operator before ≡ false → characters e ++ rest ≡ b ∷ bytes → (behind_size before && (b == 94)) ≡ false → Longest e rest → StandsAnywhere before e rest
  comment_there : behind_operator before ≡ false → e ≡ stray 59 → StandsAnywhere before e rest

abbrev pub AreFound : List Part → List Element → Type 0
AreFound before [] = Unit {0}
AreFound before (e ∷ elements) = StandsAnywhere before e (written elements) × AreFound (part_of e ∷ before) elements

-- where the names among elements lie, the first element at this byte
abbrev pub names_at : ℕ → List Element → List Span
names_at at [] = []
names_at at (gap b ∷ elements) = names_at (at + 1) elements
names_at at (token Name text ∷ elements) = record { start = at; end = at + length text } ∷ names_at (at + length text) elements
names_at at (token (Number n) text ∷ elements) = names_at (at + length text) elements
names_at at (token (Mark m) text ∷ elements) = names_at (at + length text) elements
names_at at (token Text text ∷ elements) = names_at (at + length text) elements
names_at at (wide text ∷ elements) = names_at (at + length text) elements
names_at at (stray b ∷ elements) = names_at (at + 1) elements

-- The text has names at these places.
pub record HasNames (text : List ℕ) (names : List Span) : Type 0 where
  pub elements : List Element
  pub spells : written elements ≡ text
  pub found : AreFound [] elements
  pub are : names_at 0 elements ≡ names

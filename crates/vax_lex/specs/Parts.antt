-- What a line is written in: blanks, tokens, and what is no token (VAX MACRO and Instruction Set Reference Manual,
-- "Character set" and "Components of MACRO source statements").
use Rattle.std.specs.Prelude.{ℕ, Bool, false, not, ◌&&◌, ◌==◌, List, [], ◌∷◌, if◌then◌else◌, codes}
use Rattle.vax_lex.specs.Characters.{spells}
use Rattle.vax_lex.specs.Statements.{is_size_letter}
use Rattle.vax_lex.specs.declared.token.TokenKind.{TokenKind}
use Rattle.vax_lex.specs.declared.token.TokenKind.TheVariants as kinds

-- a blank, a token with its characters, the digits of a number above 64 bits, or a byte where no token begins
pub data Element : Type 0 where
  gap : ℕ → Element
  token : TokenKind → List ℕ → Element
  wide : List ℕ → Element
  stray : ℕ → Element

abbrev pub characters : Element → List ℕ
characters (gap b) = b ∷ []
characters (token kind text) = text
characters (wide text) = text
characters (stray b) = b ∷ []

-- What matters of an element for those behind it: a blank, a word (a name, with its characters), a sign (a mark), a
-- quoted text, or a number.
pub data Part : Type 0 where
  space : Part
  word : List ℕ → Part
  sign : ℕ → Part
  quotation : Part
  numeric : Part

abbrev pub token_part : TokenKind → List ℕ → Part
token_part kinds.Name characters = word characters
token_part (kinds.Number n) characters = numeric
token_part (kinds.Mark m) characters = sign m
token_part kinds.Text characters = quotation

-- A byte where no token begins stands for a mark; but such a `^` is no operator.
abbrev pub part_of : Element → Part
part_of (gap b) = space
part_of (token kind characters) = token_part kind characters
part_of (wide characters) = numeric
part_of (stray b) = if b == 94 then numeric else sign b

-- In all that follows a list of parts is what stands before a place of a line, the nearest first.

-- Right before stands a `^` that is an operator, or a name such as `B` behind which a `^` belongs to the operand.
abbrev mutual
  pub behind_operator : List Part → Bool
  behind_operator [] = false
  behind_operator (space ∷ before) = false
  behind_operator (word name ∷ before) = false
  behind_operator (sign m ∷ before) = (m == 94) && not (behind_size before)
  behind_operator (quotation ∷ before) = false
  behind_operator (numeric ∷ before) = false

  pub behind_size : List Part → Bool
  behind_size [] = false
  behind_size (space ∷ before) = false
  behind_size (word name ∷ before) = not (behind_operator before) && is_size_letter name
  behind_size (sign m ∷ before) = false
  behind_size (quotation ∷ before) = false
  behind_size (numeric ∷ before) = false

-- before stands the operator `^A`, perhaps with blanks behind it
abbrev pub behind_text_operator : List Part → Bool
behind_text_operator [] = false
behind_text_operator (space ∷ before) = behind_text_operator before
behind_text_operator (word name ∷ before) = behind_operator before && spells (codes "A") name
behind_text_operator (sign m ∷ before) = false
behind_text_operator (quotation ∷ before) = false
behind_text_operator (numeric ∷ before) = false

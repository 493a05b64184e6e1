-- The words of the language: blanks, names, numbers and marks, and which of them begins at a place (VAX MACRO and
-- Instruction Set Reference Manual, "Character set", "Symbols", "Numbers" and "ASCII operator").
use Rattle.std.specs.Prelude.{◌≡◌, ◌⊎◌, ℕ, ◌<◌, ◌≤◌, ◌^◌, true, false, not, ◌==◌, List, [], ◌∷◌, ◌++◌, length}
use Rattle.std.specs.List.{list_all}
use Rattle.std.specs.Char.{is_ascii_graphic}
use Rattle.vax_lex.specs.Characters.{is_blank, is_digit, is_name_character, radix_of, number_of}
use Rattle.vax_lex.specs.Tokens.{is_operator_letter}
use Rattle.vax_lex.specs.Parts.{Element, gap, token, wide, stray, characters}
use Rattle.vax_lex.specs.declared.token.TokenKind.TheVariants.{Name, Number, Mark, Text}

-- at most 31 letters, digits, `_`, `$` and `.`, the first of them no digit
abbrev pub IsName : List ℕ → Type 0
IsName [] = ⊥
IsName (b ∷ text) = (is_digit 10 b ≡ false) × (list_all is_name_character (b ∷ text) ≡ true) × (length (b ∷ text) ≤ 31)

-- digits of a radix, at least one
abbrev pub AreDigits : ℕ → List ℕ → Type 0
AreDigits radix [] = ⊥
AreDigits radix (b ∷ text) = list_all (is_digit radix) (b ∷ text) ≡ true

-- a local label: digits that write 1 to 65535, and a `$`
pub record IsLocalLabel (text : List ℕ) : Type 0 where
  pub digits : List ℕ
  pub are : AreDigits 10 digits
  pub is : text ≡ digits ++ 36 ∷ []
  pub least : 1 ≤ number_of 10 digits
  pub most : number_of 10 digits ≤ 65535

-- a number: decimal digits, or `^B`, `^O`, `^D` or `^X` and digits of that radix
pub data IsNumber (n : ℕ) : List ℕ → Type 0 where
  decimal : (digits : List ℕ) → AreDigits 10 digits → number_of 10 digits ≡ n → IsNumber n digits
  based : (letter : ℕ) (digits : List ℕ) → AreDigits (radix_of letter) digits → number_of (radix_of letter) digits ≡ n → IsNumber n (94 ∷ letter ∷ digits)

abbrev pub BeginsOperator : List ℕ → Type 0
BeginsOperator [] = ⊥
BeginsOperator (b ∷ bytes) = is_operator_letter b ≡ true

-- A mark: a printable character that stands in no name and begins no comment. A `^` is one before `A`, `C` or `M`.
pub record IsMark (m : ℕ) (rest : List ℕ) : Type 0 where
  pub printable : is_ascii_graphic m ≡ true
  pub of_no_name : is_name_character m ≡ false
  pub no_comment : (m == 59) ≡ false
  pub caret : (m == 94) ≡ true → BeginsOperator rest

-- a word of the language, in front of the rest
abbrev pub IsWord : Element → List ℕ → Type 0
IsWord (gap b) rest = is_blank b ≡ true
IsWord (token Name text) rest = IsName text ⊎ IsLocalLabel text
IsWord (token (Number n) text) rest = IsNumber n text × (n < 2 ^ 64)
IsWord (token (Mark m) text) rest = (text ≡ m ∷ []) × IsMark m rest
IsWord (token Text text) rest = ⊥
IsWord (wide text) rest = (n : ℕ) × IsNumber n text × (2 ^ 64 ≤ n)
IsWord (stray b) rest = ⊥

-- The longest word that begins at a place, or a byte where none begins and no comment.
pub data Longest (e : Element) (rest : List ℕ) : Type 0 where
  longest_word : IsWord e rest → ((f : Element) (more : List ℕ) → IsWord f more → characters f ++ more ≡ characters e ++ rest → length (characters f) ≤ length (characters e)) → Longest e rest
  no_word : (b : ℕ) → e ≡ stray b → (b == 59) ≡ false → ((f : Element) (more : List ℕ) → IsWord f more → characters f ++ more ≡ b ∷ rest → ⊥) → Longest e rest

-- a quoted text between two of these delimiters, or a delimiter that has no second one
pub data Quoted (delimiter : ℕ) (e : Element) (rest : List ℕ) : Type 0 where
  quotation : (inner : List ℕ) → list_all (λ b. not (b == delimiter)) inner ≡ true → e ≡ token Text (delimiter ∷ inner ++ delimiter ∷ []) → Quoted delimiter e rest
  unclosed : list_all (λ b. not (b == delimiter)) rest ≡ true → e ≡ stray delimiter → Quoted delimiter e rest

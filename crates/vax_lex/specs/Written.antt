-- How a line of a dialect is read: as elements of which each is what the language has at its place.
use Rattle.std.specs.Prelude.{◌≡◌, ◌⊎◌, ℕ, ◌+◌, true, false, ◌&&◌, ◌==◌, List, [], ◌∷◌, ◌++◌, length, Result, Vec}
use Rattle.std.specs.List.{flat_map}
use Rattle.vax_dialect.specs.declared.Dialect.{Dialect}
use Rattle.vax_dialect.specs.declared.Dialect.TheVariants.{Vax}
use Rattle.vax_lex.specs.Characters.{is_delimiter}
use Rattle.vax_lex.specs.Tokens.{piece, Answers, tokens_in}
use Rattle.vax_lex.specs.Parts.{Element, gap, token, wide, stray, characters, Part, part_of, behind_operator, behind_size, behind_text_operator}
use Rattle.vax_lex.specs.Directives.{PieceDue}
use Rattle.vax_lex.specs.Vocabulary.{Longest, Quoted}
use Rattle.vax_lex.specs.declared.token.TokenKind.TheVariants.{Name, Mark}
use Rattle.vax_lex.specs.declared.token.Token.{Token}
use Rattle.vax_lex.specs.declared.token.LexError.{LexError}
use Rattle.vax_lex.specs.declared.token.Piece.{Piece}
use Rattle.vax_lex.specs.declared.token.PieceKind.TheVariants as kinds

-- A quoted text may begin with this byte: behind `^A`, or where a piece of text is due.
abbrev pub TextDue : Dialect → ℕ → List Part → Type 0
TextDue d b before = (is_delimiter b ≡ true) × ((behind_text_operator before ≡ true) ⊎ PieceDue d b before)

-- Behind these parts, and in front of the rest, stands this element: the letter of an operator such as `^C`, a quoted
-- text, the `^` of an operand such as `B^5`, or the longest word that begins there.
pub data Stands (d : Dialect) (before : List Part) (e : Element) (rest : List ℕ) : Type 0 where
  operator_letter : (b : ℕ) → behind_operator before ≡ true → e ≡ token Name (b ∷ []) → Stands d before e rest
  quoted_text : (b : ℕ) (bytes : List ℕ) → behind_operator before ≡ false → characters e ++ rest ≡ b ∷ bytes → TextDue d b before → Quoted b e rest → Stands d before e rest
  operand_caret : behind_operator before ≡ false → (TextDue d 94 before → ⊥) → behind_size before ≡ true → e ≡ token (Mark 94) (94 ∷ []) → Stands d before e rest
  longest : (b : ℕ) (bytes : List ℕ) → behind_operator before ≡ false → characters e ++ rest ≡ b ∷ bytes → (TextDue d b before → ⊥) → (behind_size before && (b == 94)) ≡ false → Longest e rest → Stands d before e rest

abbrev pub written : List Element → List ℕ
written elements = flat_map characters elements

-- The line ends, or its comment begins.
abbrev pub Ends : List Part → List ℕ → Type 0
Ends before [] = Unit {0}
Ends before (b ∷ bytes) = (b ≡ 59) × (behind_operator before ≡ false)

-- Each of the elements stands behind those before it, and then the line ends or its comment begins.
abbrev pub AreWritten : Dialect → List Part → List Element → List ℕ → Type 0
AreWritten d before [] comment = Ends before comment
AreWritten d before (e ∷ elements) comment = Stands d before e (written elements ++ comment) × AreWritten d (part_of e ∷ before) elements comment

-- the pieces that elements are, the first at this byte
abbrev pub pieces_at : ℕ → List Element → List Piece
pieces_at at [] = []
pieces_at at (gap b ∷ elements) = pieces_at (at + 1) elements
pieces_at at (token kind text ∷ elements) = piece (kinds.Token kind) at (length text) ∷ pieces_at (at + length text) elements
pieces_at at (wide text ∷ elements) = piece kinds.Wide at (length text) ∷ pieces_at (at + length text) elements
pieces_at at (stray b ∷ elements) = piece kinds.Bad at 1 ∷ pieces_at (at + 1) elements

-- The line is written as these pieces.
pub record IsWritten (d : Dialect) (line : List ℕ) (pieces : List Piece) : Type 0 where
  pub elements : List Element
  pub comment : List ℕ
  pub spells : written elements ++ comment ≡ line
  pub stand : AreWritten d [] elements comment
  pub are : pieces_at 0 elements ≡ pieces

-- What was answered is what the pieces that the line is written as in the smaller dialect give: their tokens, or the first
-- that is none.
abbrev pub Scans : {A : Type 0} → List ℕ → Result (Vec Token A) LexError → Type 0
Scans line result = (pieces : List Piece) × IsWritten Vax line pieces × Answers result (tokens_in pieces)

-- Where in a line a fault is marked, as far as the line alone decides it.
use Rattle.std.specs.Prelude.{◌≡◌, ℕ, ◌==◌, ◌&&◌, ◌||◌, Bool, true, false, nat_lt, if◌then◌else◌, List, [], ◌∷◌, length}
use Rattle.vax_asm_causes.specs.Places.{is_mark, piece_text}
use Rattle.vax_asm_causes.specs.Remarks.{operation_of, without_mark}
use Rattle.vax_lex.specs.declared.token.Piece.{Piece}
use Rattle.vax_lex.specs.declared.token.PieceKind.{PieceKind}
use Rattle.vax_lex.specs.declared.token.PieceKind.TheVariants as kinds
use Rattle.vax_lines.specs.Lines.{Text}
use Rattle.vax_macro.specs.declared.error.FaultKind.{FaultKind}
use Rattle.vax_macro.specs.declared.error.FaultKind.TheVariants as fault

abbrev pub head_or : (other : Piece) → List Piece → Piece
head_or other [] = other
head_or other (p ∷ pieces) = p

abbrev pub tail_of : List Piece → List Piece
tail_of [] = []
tail_of (p ∷ pieces) = pieces

-- ---- the parts of a statement

-- a label or an assignment begins with its name
abbrev pub has_label : List Piece → Bool
has_label [] = false
has_label (p ∷ []) = false
has_label (p ∷ q ∷ pieces) = is_mark q 58 || is_mark q 61

-- the operator, and of a label alone or an assignment the first piece
abbrev pub operator_in : (first : Piece) → List Piece → Piece
operator_in first pieces = head_or first (operation_of pieces)

-- what is after the operator, or after the `=` of an assignment
abbrev pub operands_in : List Piece → List Piece
operands_in [] = []
operands_in (p ∷ []) = []
operands_in (p ∷ q ∷ pieces) =
    if is_mark q 58 then tail_of (without_mark 58 pieces) else (if is_mark q 61 then without_mark 61 pieces else q ∷ pieces)

-- ---- which piece is meant

-- a number above 64 bits, or a byte where no token begins
abbrev pub is_stray_kind : PieceKind → Bool
is_stray_kind (kinds.Token kind) = false
is_stray_kind kinds.Wide = true
is_stray_kind kinds.Bad = true

-- the first such piece; another one where there is none
abbrev pub stray_or : (other : Piece) → List Piece → Piece
stray_or other [] = other
stray_or other (p ∷ pieces) = if is_stray_kind p.kind then p else stray_or other pieces

-- of a line that is too long its first piece
abbrev pub stray_in : (line : Text) → (first : Piece) → List Piece → Piece
stray_in line first pieces = if nat_lt 1024 (length line) then first else stray_or first pieces

abbrev pub begins_with_dot : Text → Bool
begins_with_dot [] = false
begins_with_dot (b ∷ text) = b == 46

-- a name of a directive
abbrev pub is_directive : (line : Text) → Piece → Bool
is_directive line p = begins_with_dot (piece_text line p)

-- the name that a directive defines: its first operand; of another statement its operator
abbrev pub name_defined : (line : Text) → (operator : Piece) → (operands : List Piece) → Piece
name_defined line operator [] = operator
name_defined line operator (p ∷ operands) = if is_directive line operator then p else operator

-- A name that is defined twice is that one, or the label.
abbrev pub is_twice : (line : Text) → (first : Piece) → List Piece → (column : ℕ) → Bool
is_twice line first pieces column =
    (column == (name_defined line (operator_in first pieces) (operands_in pieces)).start) || (has_label pieces && (column == first.start))

-- Where a fault of a kind is marked in a line of these pieces, of which this is the first. Of the kinds that aren't here the operands decide.
abbrev pub IsMarked : FaultKind → (line : Text) → (first : Piece) → List Piece → (column : ℕ) → Type 0
IsMarked fault.Token line first pieces column = column ≡ (stray_in line first pieces).start
IsMarked fault.UnknownOperator line first pieces column = column ≡ (operator_in first pieces).start
IsMarked fault.Count line first pieces column = Unit {0}
IsMarked fault.Form line first pieces column = Unit {0}
IsMarked fault.Undefined line first pieces column = Unit {0}
IsMarked fault.Duplicate line first pieces column = is_twice line first pieces column ≡ true
IsMarked fault.Range line first pieces column = Unit {0}
IsMarked fault.Nesting line first pieces column = column ≡ (operator_in first pieces).start
IsMarked fault.Depth line first pieces column = column ≡ (operator_in first pieces).start
IsMarked fault.Lines line first pieces column = column ≡ (operator_in first pieces).start
IsMarked fault.Large line first pieces column = column ≡ (operator_in first pieces).start
IsMarked fault.Message line first pieces column = column ≡ (operator_in first pieces).start

-- The same of a line in a dialect. Without a piece it is marked at its begin.
abbrev pub IsMarkedIn : FaultKind → (line : Text) → List Piece → (column : ℕ) → Type 0
IsMarkedIn kind line [] column = column ≡ 0
IsMarkedIn kind line (p ∷ pieces) column = IsMarked kind line p (p ∷ pieces) column

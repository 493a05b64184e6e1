-- The label and the operator of a line.
use Rattle.std.specs.Prelude.{ℕ, ◌+◌, ◌-◌, Bool, true, false, not, ◌&&◌, ◌||◌, ◌==◌, List, [], ◌∷◌, length, take, drop, Option, Some, None, codes, slice_index, if◌then◌else◌}
use Rattle.std.specs.List.{list_any}
use Rattle.std.specs.Char.{is_ascii_graphic}
use Rattle.vax_lex.specs.Characters.{spells}
use Rattle.vax_lex.specs.declared.token.Piece.{Piece}
use Rattle.vax_lex.specs.declared.token.PieceKind.{PieceKind}
use Rattle.vax_lex.specs.declared.token.PieceKind.TheVariants as kinds
use Rattle.vax_lex.specs.declared.token.TokenKind.TheVariants.{Name, Mark}

abbrev pub is_name_piece : PieceKind → Bool
is_name_piece (kinds.Token Name) = true
is_name_piece _ = false

abbrev pub is_mark_piece : ℕ → PieceKind → Bool
is_mark_piece m (kinds.Token (Mark b)) = b == m
is_mark_piece m _ = false

abbrev pub is_bad : PieceKind → Bool
is_bad kinds.Bad = true
is_bad _ = false

abbrev pub is_wide : PieceKind → Bool
is_wide kinds.Wide = true
is_wide _ = false

-- the text of a piece
abbrev pub piece_text : List ℕ → Piece → List ℕ
piece_text text p = take (p.end - p.start) (drop p.start text)

-- the second colon of a label stands right behind the first
abbrev pub is_second_colon : Piece → List Piece → Bool
is_second_colon colon [] = false
is_second_colon colon (p ∷ pieces) = is_mark_piece 58 p.kind && (p.start == colon.end)

-- how many pieces a label is: a name and one or two colons, or nothing
unfoldable pub label_pieces : List Piece → ℕ
label_pieces [] = 0
label_pieces (name ∷ []) = 0
label_pieces (name ∷ colon ∷ pieces) =
    if is_name_piece name.kind && is_mark_piece 58 colon.kind then (if is_second_colon colon pieces then 3 else 2) else 0

-- where the last of so many pieces ends, if there are so many
abbrev pub first_end : List Piece → ℕ
first_end [] = 0
first_end (p ∷ pieces) = p.end

abbrev pub end_of : ℕ → List Piece → ℕ
end_of n pieces = first_end (drop (n - 1) pieces)

-- An `=` behind the first name of a line assigns to it.
abbrev pub is_assigned : ℕ → List Piece → Bool
is_assigned label [] = false
is_assigned label (p ∷ pieces) = (label == 0) && is_mark_piece 61 p.kind

-- the operator, of the pieces behind a label of so many pieces
unfoldable pub operator_in : ℕ → List Piece → Option Piece
operator_in label [] = None
operator_in label (p ∷ pieces) = if is_name_piece p.kind && not (is_assigned label pieces) then Some p else None

-- What the expander sees of a line: where its label ends (0 for none), its operator, and the pieces behind that.
pub record Head : Type 0 where
  pub label_end : ℕ
  pub operator : Option Piece
  pub operands : List Piece

unfoldable pub head_in : List Piece → Head
head_in pieces =
    let label = label_pieces pieces in record {
      label_end = if label == 0 then 0 else end_of label pieces;
      operator = operator_in label (drop label pieces);
      operands = drop (label + 1) pieces;
    }

-- the directives of the expander
pub data Word : Type 0 where
  macro_word : Word
  end_macro : Word
  repeat : Word
  repeat_arguments : Word
  repeat_characters : Word
  end_repeat : Word
  if_word : Word
  if_false : Word
  if_true : Word
  if_true_false : Word
  end_if : Word
  immediate_if : Word
  leave_word : Word
  argument_count : Word
  character_count : Word
  delete_word : Word
  opcode_word : Word
  end_word : Word
  other_word : Word

unfoldable pub condition_word : List ℕ → Word
condition_word name =
    if spells (codes ".IF") name then if_word
    else (if spells (codes ".IFF") name || spells (codes ".IF_FALSE") name then if_false
    else (if spells (codes ".IFT") name || spells (codes ".IF_TRUE") name then if_true
    else (if spells (codes ".IFTF") name || spells (codes ".IF_TRUE_FALSE") name then if_true_false
    else (if spells (codes ".ENDC") name then end_if
    else (if spells (codes ".IIF") name then immediate_if
    else (if spells (codes ".MEXIT") name then leave_word
    else (if spells (codes ".NARG") name then argument_count
    else (if spells (codes ".NCHR") name then character_count
    else (if spells (codes ".MDELETE") name then delete_word
    else (if spells (codes ".END") name then end_word
    else other_word))))))))))

unfoldable pub word_of : List ℕ → Word
word_of name =
    if spells (codes ".MACRO") name then macro_word
    else (if spells (codes ".ENDM") name then end_macro
    else (if spells (codes ".REPT") name || spells (codes ".REPEAT") name then repeat
    else (if spells (codes ".IRP") name then repeat_arguments
    else (if spells (codes ".IRPC") name then repeat_characters
    else (if spells (codes ".ENDR") name then end_repeat
    else (if spells (codes ".OPDEF") name then opcode_word
    else condition_word name))))))

-- the directive that the operator of a line is
abbrev pub word_in : List ℕ → Option Piece → Word
word_in text None = other_word
word_in text (Some p) = word_of (piece_text text p)

-- the directives that only the larger language has are no words of the other
abbrev pub known_word : Bool → Word → Word
known_word larger leave_word = if larger then leave_word else other_word
known_word larger argument_count = if larger then argument_count else other_word
known_word larger character_count = if larger then character_count else other_word
known_word larger delete_word = if larger then delete_word else other_word
known_word larger opcode_word = if larger then opcode_word else other_word
known_word larger word = word

-- Bytes that belong to no token: some of these pieces is one, or is one that isn't printable either.
abbrev pub has_bad : List Piece → Bool
has_bad pieces = list_any (λ p. is_bad p.kind) pieces

abbrev pub is_unprintable : List ℕ → Piece → Bool
is_unprintable text p = is_bad p.kind && not (is_ascii_graphic (slice_index text p.start))

abbrev pub has_unprintable : List ℕ → List Piece → Bool
has_unprintable text pieces = list_any (is_unprintable text) pieces

-- where the last piece ends: the comment begins behind it, if there is one
abbrev pub code_end : List Piece → ℕ
code_end pieces = end_of (length pieces) pieces

-- the text from a place up to the end of these pieces
abbrev pub code_from : ℕ → List Piece → List ℕ → List ℕ
code_from at pieces text = drop at (take (code_end pieces) text)

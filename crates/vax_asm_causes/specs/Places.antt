-- On which lines of a source a name stands.
use Rattle.std.specs.Prelude.{ℕ, ◌-◌, ◌==◌, ◌&&◌, ◌||◌, Bool, true, false, nat_le, if◌then◌else◌, List, [], ◌∷◌, length, take, drop, codes, Option}
use Rattle.std.specs.List.{list_any, position_from}
use Rattle.std.specs.Str.{str_eq_ignore_ascii_case}
use Rattle.vax_asm_causes.specs.declared.places.Sought.{Sought}
use Rattle.vax_asm_causes.specs.declared.places.Sought.TheVariants.{Anywhere, Definition}
use Rattle.vax_dialect.specs.declared.Dialect.{Dialect}
use Rattle.vax_lex.specs.Tokens.{pieces_of}
use Rattle.vax_lex.specs.declared.token.Piece.{Piece}
use Rattle.vax_lex.specs.declared.token.PieceKind.{PieceKind}
use Rattle.vax_lex.specs.declared.token.PieceKind.TheVariants.{Token}
use Rattle.vax_lex.specs.declared.token.TokenKind.TheVariants.{Name, Mark}
use Rattle.vax_lines.specs.Lines.{Text, lines}

-- The pieces of a line in a dialect, of a long one those of its front.
abbrev pub line_pieces : Dialect → Text → List Piece
line_pieces dialect line = pieces_of dialect (take 1024 line)

-- the bytes of a piece
unfoldable pub piece_text : Text → Piece → Text
piece_text line p = if nat_le p.start p.end && nat_le p.end (length line) then take (p.end - p.start) (drop p.start line) else []

abbrev pub is_name_kind : PieceKind → Bool
is_name_kind (Token Name) = true
is_name_kind _ = false

abbrev pub is_mark_kind : (mark : ℕ) → PieceKind → Bool
is_mark_kind mark (Token (Mark byte)) = byte == mark
is_mark_kind mark _ = false

abbrev pub is_name : Piece → Bool
is_name p = is_name_kind p.kind

abbrev pub is_mark : Piece → (mark : ℕ) → Bool
is_mark p mark = is_mark_kind mark p.kind

-- names are the same in letters of either case
abbrev pub are_same : (a b : Text) → Bool
are_same a b = str_eq_ignore_ascii_case a b

-- a piece of a line is this name
abbrev pub is_called : (name line : Text) → Piece → Bool
is_called name line p = is_name p && are_same (piece_text line p) name

-- a label or an assignment begins with the name, and `.ENTRY` stands before it
abbrev pub begins_with_definition : (name line : Text) → List Piece → Bool
begins_with_definition name line [] = false
begins_with_definition name line (p ∷ []) = false
begins_with_definition name line (p ∷ q ∷ more) = (is_called name line p && (is_mark q 58 || is_mark q 61)) || (is_called (codes ".ENTRY") line p && is_called name line q)

-- a name stands on a line, or is defined there
abbrev pub is_on : Dialect → Sought → (name line : Text) → Bool
is_on dialect Anywhere name line = list_any (is_called name line) (line_pieces dialect line)
is_on dialect Definition name line = begins_with_definition name line (line_pieces dialect line)

-- the number of the first such line of a source, counted from 1
abbrev pub first_line : Dialect → Sought → (name source : Text) → Option ℕ
first_line dialect sought name source = position_from (is_on dialect sought name) 1 (lines source)

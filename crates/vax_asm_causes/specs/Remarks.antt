-- What is worth a remark in a source: it may assemble, and yet not be what was meant.
use Rattle.std.specs.Prelude.{ℕ, ◌+◌, ◌==◌, ◌&&◌, ◌||◌, Bool, true, false, not, nat_le, if◌then◌else◌, List, [], ◌∷◌, ◌++◌, length, map, take, drop, codes, slice_get, Option, None, Some}
use Rattle.std.specs.Char.{is_ascii_digit, to_ascii_uppercase}
use Rattle.std.specs.List.{filter, flat_map, list_any, prefix_len}
use Rattle.std.specs.Str.{bytes_eq}
use Rattle.vax_asm_causes.specs.Places.{are_same, first_line, is_called, is_mark, is_name, line_pieces, piece_text}
use Rattle.vax_asm_causes.specs.declared.made.Maker.{Maker}
use Rattle.vax_asm_causes.specs.declared.made.Maker.TheVariants.{Joint, Split}
use Rattle.vax_asm_causes.specs.declared.places.Sought.TheVariants.{Anywhere}
use Rattle.vax_asm_causes.specs.declared.remarks.About.{About}
use Rattle.vax_asm_causes.specs.declared.remarks.About.TheVariants as about
use Rattle.vax_asm_causes.specs.declared.remarks.Remark.{Remark}
use Rattle.vax_dialect.specs.declared.Dialect.{Dialect}
use Rattle.vax_lex.specs.Characters.{is_blank}
use Rattle.vax_lex.specs.declared.token.Piece.{Piece}
use Rattle.vax_lines.specs.Lines.{Text, lines}

-- Which remarks are asked for beside those on names that look like registers.
pub record Asked : Type 0 where
  -- on masks of procedures, which the bare machine runs as instructions
  pub bare : Bool
  -- on labels that nothing uses
  pub unused : Bool
  -- where this name stands first; none, if it is empty
  pub name : Text

-- a remark on a piece of the line with this number
unfoldable pub remark_on : About → (number : ℕ) → Piece → Remark
remark_on about number p = record { about = about; line = number; piece = p }

-- ---- names that look like registers

-- a digit, or a letter that is taken for one: `O`, `I` or `L`
abbrev pub is_like_digit : ℕ → Bool
is_like_digit c = is_ascii_digit c || (to_ascii_uppercase c == 79) || (to_ascii_uppercase c == 73) || (to_ascii_uppercase c == 76)

-- 10 to 15
abbrev pub is_ten_to_fifteen : Text → Bool
is_ten_to_fifteen (a ∷ b ∷ []) = (a == 49) && nat_le 48 b && nat_le b 53
is_ten_to_fifteen digits = false

-- a digit, and one or two more that are like digits
abbrev pub is_like_number : Text → Bool
is_like_number (a ∷ b ∷ []) = is_ascii_digit a && is_like_digit b
is_like_number (a ∷ b ∷ c ∷ []) = is_ascii_digit a && is_like_digit b && is_like_digit c
is_like_number digits = false

-- `R` and what is like a number of two or three digits, but is none of 10 to 15
abbrev pub looks_like_register : Text → Bool
looks_like_register [] = false
looks_like_register (r ∷ digits) = (to_ascii_uppercase r == 82) && is_like_number digits && not (is_ten_to_fifteen digits)

abbrev pub is_false_register : (line : Text) → Piece → Bool
is_false_register line p = is_name p && looks_like_register (piece_text line p)

abbrev pub register_remarks : (number : ℕ) → (line : Text) → List Piece → List Remark
register_remarks number line pieces = map (remark_on about.Register number) (filter (is_false_register line) pieces)

-- ---- masks of procedures

abbrev pub head_of : List Piece → Option Piece
head_of [] = None
head_of (p ∷ pieces) = Some p

-- without one such mark at the front
abbrev pub without_mark : (mark : ℕ) → List Piece → List Piece
without_mark mark [] = []
without_mark mark (p ∷ pieces) = if is_mark p mark then pieces else p ∷ pieces

-- A statement from its operator on: from its first piece, or from the first behind a label with its colon or two. An assignment has none.
abbrev pub operation_of : List Piece → List Piece
operation_of [] = []
operation_of (p ∷ []) = p ∷ []
operation_of (p ∷ q ∷ pieces) = if is_mark q 58 then without_mark 58 pieces else (if is_mark q 61 then [] else p ∷ q ∷ pieces)

-- the name behind an operator `.END`; empty where there is none
unfoldable pub end_name : (line : Text) → List Piece → Text
end_name line [] = []
end_name line (p ∷ []) = []
end_name line (p ∷ q ∷ more) = if is_called (codes ".END") line p && is_name q then piece_text line q else []

abbrev pub name_or : Text → Text → Text
name_or [] other = other
name_or (b ∷ name) other = b ∷ name

-- the first such name in some lines
unfoldable pub first_end : Dialect → List Text → Text
first_end dialect [] = []
first_end dialect (line ∷ more) = name_or (end_name line (operation_of (line_pieces dialect line))) (first_end dialect more)

-- where a source says that its program begins
abbrev pub start_of : Dialect → (source : Text) → Text
start_of dialect source = first_end dialect (lines source)

abbrev pub mask_at : (start : Text) → (number : ℕ) → (line : Text) → List Piece → List Remark
mask_at start number line [] = []
mask_at start number line (p ∷ []) = []
mask_at start number line (p ∷ q ∷ more) = if is_called (codes ".ENTRY") line p && is_called start line q then remark_on about.Mask number p ∷ [] else []

-- `.ENTRY` with the name at which the program begins
abbrev pub mask_remarks : (start : Text) → (number : ℕ) → (line : Text) → List Piece → List Remark
mask_remarks start number line pieces = mask_at start number line (operation_of pieces)

-- ---- names of a source

-- the names of a line, and of a source
abbrev pub line_names : Dialect → (line : Text) → List Text
line_names dialect line = map (piece_text line) (filter is_name (line_pieces dialect line))

abbrev pub names_in : Dialect → (source : Text) → List Text
names_in dialect source = flat_map (line_names dialect) (lines source)

-- a name stands in a source once, in letters of either case
abbrev pub stands_once : Dialect → (source name : Text) → Bool
stands_once dialect source name = length (filter (λ other. are_same other name) (names_in dialect source)) == 1

-- ---- names that expansions make

-- a letter that may stand before a `^`
abbrev pub is_size : (line : Text) → Piece → Bool
is_size line p =
    is_called (codes "B") line p || is_called (codes "W") line p || is_called (codes "L") line p || is_called (codes "G") line p
    || is_called (codes "S") line p || is_called (codes "I") line p

abbrev pub is_byte : (byte : ℕ) → Option ℕ → Bool
is_byte byte None = false
is_byte byte (Some other) = other == byte

-- a name right before a `^`, of which an argument makes such a letter
abbrev pub is_prefix : (line : Text) → Piece → Bool
is_prefix line p = is_name p && not (is_size line p) && is_byte 94 (slice_get line p.end)

-- nothing, a blank or a comment
abbrev pub is_gap : Option ℕ → Bool
is_gap None = true
is_gap (Some byte) = is_blank byte || (byte == 59)

-- a name right before a `-` that is last on its line, and so joins the next line to it
abbrev pub is_continued : (line : Text) → Piece → Bool
is_continued line p = is_name p && is_byte 45 (slice_get line p.end) && is_gap (slice_get line (p.end + 1))

-- An apostrophe joins an argument to what stands beside it, and a line may be continued within a name. `.IRPC`, the `%` of an operator on texts and a prefix take apart what stands in the text.
abbrev pub makes : Maker → (line : Text) → Piece → Bool
makes Joint line p = is_mark p 39 || is_continued line p
makes Split line p = is_called (codes ".IRPC") line p || is_mark p 37 || is_prefix line p

abbrev pub has_maker : Dialect → Maker → (source : Text) → Bool
has_maker dialect maker source = list_any (λ line. list_any (makes maker line) (line_pieces dialect line)) (lines source)

-- a name stands in a source, in letters of either case
abbrev pub stands : Dialect → (source name : Text) → Bool
stands dialect source name = list_any (λ other. are_same other name) (names_in dialect source)

-- a shorter front of a name passes a test: this one, or one with more of the characters behind it
unfoldable pub has_front : (test : Text → Bool) → (front behind : Text) → Bool
has_front test front [] = false
has_front test front (b ∷ behind) = test front || has_front test (front ++ b ∷ []) behind

-- what an argument or a text beside it can give as the end of a name: it begins with a digit, or passes a test
abbrev pub is_end : (test : Text → Bool) → (end : Text) → Bool
is_end test [] = false
is_end test (b ∷ end) = is_ascii_digit b || test (b ∷ end)

-- one of the shorter ends of a name is such
unfoldable pub has_end : (test : Text → Bool) → (name : Text) → Bool
has_end test [] = false
has_end test (b ∷ end) = is_end test end || has_end test end

-- A name may be joined of others: one that stands in the source is its front, and one its end.
abbrev pub may_be_joined : Dialect → (source name : Text) → Bool
may_be_joined dialect source name = has_maker dialect Joint source && has_front (stands dialect source) [] name && has_end (stands dialect source) name

-- A name may stand in an expansion that doesn't stand in the source as a whole.
abbrev pub may_be_made : Dialect → (source name : Text) → Bool
may_be_made dialect source name = has_maker dialect Split source || may_be_joined dialect source name

-- ---- labels that nothing uses

-- a local label: digits and a `$`
abbrev pub is_local : (name : Text) → Bool
is_local name = bytes_eq (drop (prefix_len is_ascii_digit name) name) (codes "$")

-- the label of a line that other files don't see: it has one colon
abbrev pub own_label : List Piece → Option Piece
own_label (p ∷ q ∷ []) = if is_name p && is_mark q 58 then Some p else None
own_label (p ∷ q ∷ r ∷ pieces) = if is_name p && is_mark q 58 && not (is_mark r 58) then Some p else None
own_label pieces = None

abbrev pub is_unused : Dialect → (source name : Text) → Bool
is_unused dialect source name = not (is_local name) && stands_once dialect source name && not (may_be_made dialect source name)

abbrev pub unused_at : Dialect → (source : Text) → (number : ℕ) → (line : Text) → Option Piece → List Remark
unused_at dialect source number line None = []
unused_at dialect source number line (Some p) = if is_unused dialect source (piece_text line p) then remark_on about.Unused number p ∷ [] else []

-- a label that is no local one, whose name stands nowhere else and isn't one that an expansion may make
abbrev pub unused_remarks : Dialect → (source : Text) → (number : ℕ) → (line : Text) → List Piece → List Remark
unused_remarks dialect source number line pieces = unused_at dialect source number line (own_label pieces)

-- ---- where a name stands first

-- the number of that line, of no name none
abbrev pub first_place : Dialect → (name source : Text) → Option ℕ
first_place dialect [] source = None
first_place dialect (b ∷ name) source = first_line dialect Anywhere (b ∷ name) source

abbrev pub is_at : ℕ → Option ℕ → Bool
is_at number None = false
is_at number (Some other) = other == number

-- the first place in a line
abbrev pub place_in : (name : Text) → (number : ℕ) → (line : Text) → List Piece → List Remark
place_in name number line pieces = map (remark_on about.Place number) (take 1 (filter (is_called name line) pieces))

abbrev pub remarks_if : Bool → List Remark → List Remark
remarks_if asked remarks = if asked then remarks else []

-- that of the first such line
abbrev pub place_remarks : Dialect → (name source : Text) → (number : ℕ) → (line : Text) → List Piece → List Remark
place_remarks dialect name source number line pieces = remarks_if (is_at number (first_place dialect name source)) (place_in name number line pieces)

-- ---- all of them

-- those on a line of these pieces
unfoldable pub pieces_remarks : Dialect → Asked → (source : Text) → (number : ℕ) → (line : Text) → List Piece → List Remark
pieces_remarks dialect asked source number line pieces =
    place_remarks dialect asked.name source number line pieces ++ register_remarks number line pieces
    ++ remarks_if asked.bare (mask_remarks (start_of dialect source) number line pieces) ++ remarks_if asked.unused (unused_remarks dialect source number line pieces)

abbrev pub line_remarks : Dialect → Asked → (source : Text) → (number : ℕ) → (line : Text) → List Remark
line_remarks dialect asked source number line = pieces_remarks dialect asked source number line (line_pieces dialect line)

-- those on lines of a source, of which the first has this number
unfoldable pub lines_remarks : Dialect → Asked → (source : Text) → (number : ℕ) → List Text → List Remark
lines_remarks dialect asked source number [] = []
lines_remarks dialect asked source number (line ∷ more) = line_remarks dialect asked source number line ++ lines_remarks dialect asked source (number + 1) more

-- the first hundred of those on a source
abbrev pub remarks : Dialect → Asked → (source : Text) → List Remark
remarks dialect asked source = take 100 (lines_remarks dialect asked source 1 (lines source))

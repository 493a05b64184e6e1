-- The tokens of a line (VAX MACRO and Instruction Set Reference Manual, "Components of MACRO source statements",
-- "Symbols", "Numbers" and "ASCII operator"): each is the longest that begins at its place.
use Rattle.std.specs.Prelude.{◌≡◌, ◌⊎◌, ℕ, zero, suc, ◌+◌, ◌-◌, ◌^◌, ◌<◌, ◌≤◌, min, Bool, true, false, ◌&&◌, ◌||◌, ◌==◌, nat_lt, nat_le, List, [], ◌∷◌, length, slice_index, Any, take, drop, position, Option, Some, None, Result, Ok, Err, Vec, if◌then◌else◌}
use Rattle.std.specs.List.{prefix_len}
use Rattle.std.specs.Char.{is_ascii_graphic, to_ascii_uppercase}
use Rattle.vax_dialect.specs.declared.Dialect.{Dialect}
use Rattle.vax_lex.specs.Characters.{is_blank, is_digit, is_name_character, radix_of, number_of, canonical_name}
use Rattle.vax_lex.specs.Statements.{Context, text_due, is_caret, is_size, context_after, context_after_blank, line_start}
use Rattle.vax_lex.specs.declared.token.TokenKind.{TokenKind}
use Rattle.vax_lex.specs.declared.token.TokenKind.TheVariants.{Name, Number, Mark, Text}
use Rattle.vax_lex.specs.declared.token.Token.{Token}
use Rattle.vax_lex.specs.declared.token.Piece.{Piece}
use Rattle.vax_lex.specs.declared.token.Span.{Span}
use Rattle.vax_lex.specs.declared.token.PieceKind.{PieceKind}
use Rattle.vax_lex.specs.declared.token.PieceKind.TheVariants as kinds
use Rattle.vax_lex.specs.declared.token.LexError.{LexError}
use Rattle.vax_lex.specs.declared.token.LexError.TheVariants as errors

-- What stands at the head of the bytes that are left of a line.
pub data Head : Type 0 where
  blank : Head
  -- the comment, or the end of the line
  no_more : Head
  -- a token of so many bytes
  begins : TokenKind → ℕ → Head
  -- a number above 64 bits, of so many bytes
  too_wide : ℕ → Head
  no_token : Head

-- how many bytes at the head are digits of this radix
abbrev pub digit_run : ℕ → List ℕ → ℕ
digit_run radix bytes = prefix_len (is_digit radix) bytes

-- a number of so many bytes, if it has at most 64 bits
abbrev pub number_head : ℕ → ℕ → Head
number_head number bytes = if nat_lt number (2 ^ 64) then begins (Number number) bytes else too_wide bytes

-- Digits. With a `$` behind them they are a local label where they write 1 to 65535, else they are a number.
abbrev pub is_label_number : ℕ → List ℕ → Bool
is_label_number number [] = false
is_label_number number (b ∷ bytes) = (b == 36) && nat_le 1 number && nat_le number 65535

unfoldable pub numeral : List ℕ → Head
numeral bytes =
    let digits = digit_run 10 bytes in
    let number = number_of 10 (take digits bytes) in
    if is_label_number number (drop digits bytes) then begins Name (digits + 1)
    else number_head number digits

-- A number in the radix that the letter behind a `^` names.
unfoldable pub based : ℕ → List ℕ → Head
based radix bytes =
    let digits = digit_run radix bytes in
    if digits == 0 then no_token else number_head (number_of radix (take digits bytes)) (digits + 2)

-- The letters behind a `^` that are names by themselves: `^A`, `^C` and `^M`.
abbrev pub is_operator_letter : ℕ → Bool
is_operator_letter c = (to_ascii_uppercase c == 65) || (to_ascii_uppercase c == 67) || (to_ascii_uppercase c == 77)

-- A `^`, and these bytes behind it.
abbrev pub caret : List ℕ → Head
caret [] = no_token
caret (c ∷ bytes) = if is_operator_letter c then begins (Mark 94) 1 else based (radix_of c) bytes

-- A text with so many bytes between its delimiters, if there is a second one.
abbrev pub text_head : Option ℕ → Head
text_head (Some bytes) = begins Text (bytes + 2)
text_head None = no_token

-- A text up to the next byte that is its delimiter.
unfoldable pub quoted : ℕ → List ℕ → Head
quoted delimiter bytes = text_head (position (λ b. b == delimiter) bytes)

-- What the bytes begin with where no text is due.
unfoldable pub plain : List ℕ → Head
plain [] = no_more
plain (b ∷ bytes) =
    if is_blank b then blank
    else (if b == 59 then no_more
    else (if is_digit 10 b then numeral (b ∷ bytes)
    else (if is_name_character b then begins Name (min 31 (prefix_len is_name_character (b ∷ bytes)))
    else (if b == 94 then caret bytes
    else (if is_ascii_graphic b then begins (Mark b) 1
    else no_token)))))

-- What the bytes begin with. Behind the `^` of an operator such as `^C` its letter is a name by itself, and right
-- behind a name such as `B` a `^` is a mark.
unfoldable pub head_of : Context → List ℕ → Head
head_of c [] = no_more
head_of c (b ∷ bytes) =
    if is_caret c.before then begins Name 1
    else (if text_due c b then quoted b bytes
    else (if is_size c.before && (b == 94) then begins (Mark 94) 1
    else plain (b ∷ bytes)))

-- a piece of so many bytes
abbrev pub piece : PieceKind → ℕ → ℕ → Piece
piece kind at n = record { kind = kind; start = at; end = at + n }

-- A byte where no token begins counts as a mark; but such a `^` is no operator.
abbrev pub stray_kind : ℕ → TokenKind
stray_kind b = if b == 94 then Number 0 else Mark b

-- The pieces of a line of a dialect from byte `at` on, where the first bytes to come may still be those of the piece before. A number
-- above 64 bits is one piece, and a byte where no token begins is one by itself.
unfoldable pub pieces_from : Dialect → Context → ℕ → ℕ → List ℕ → List Piece
pieces_from d c at inside [] = []
pieces_from d c at (suc inside) (b ∷ bytes) = pieces_from d c (at + 1) inside bytes
pieces_from d c at zero (b ∷ bytes) = elim (head_of c (b ∷ bytes)) [
  | blank ↦ pieces_from d (context_after_blank c) (at + 1) zero bytes
  | no_more ↦ []
  | begins kind n ↦ piece (kinds.Token kind) at n ∷ pieces_from d (context_after d c kind (take n (b ∷ bytes))) (at + 1) (n - 1) bytes
  | too_wide n ↦ piece kinds.Wide at n ∷ pieces_from d (context_after d c (Number 0) (take n (b ∷ bytes))) (at + 1) (n - 1) bytes
  | no_token ↦ piece kinds.Bad at 1 ∷ pieces_from d (context_after d c (stray_kind b) (b ∷ [])) (at + 1) zero bytes
]

-- The pieces of a line.
unfoldable pub pieces_of : Dialect → List ℕ → List Piece
pieces_of d line = pieces_from d line_start 0 zero line

-- A token, and what is to come.
abbrev pub with_first : Token → Result (List Token) LexError → Result (List Token) LexError
with_first t (Ok tokens) = Ok (t ∷ tokens)
with_first t (Err e) = Err e

abbrev pub with_piece : PieceKind → ℕ → ℕ → Result (List Token) LexError → Result (List Token) LexError
with_piece (kinds.Token kind) start end tokens = with_first (record { kind = kind; start = start; end = end }) tokens
with_piece kinds.Wide start end tokens = Err (errors.Wide start)
with_piece kinds.Bad start end tokens = Err (errors.Token start)

-- The tokens that the pieces are, or the first of them that is none.
abbrev pub tokens_in : List Piece → Result (List Token) LexError
tokens_in [] = Ok []
tokens_in (p ∷ pieces) = with_piece p.kind p.start p.end (tokens_in pieces)

-- The tokens of a line, or the first place where there is none.
abbrev pub tokens_of : Dialect → List ℕ → Result (List Token) LexError
tokens_of d line = tokens_in (pieces_of d line)

-- What was answered is what the definition gives, unless memory was refused.
abbrev pub Answers : {A : Type 0} → Result (Vec Token A) LexError → Result (List Token) LexError → Type 0
Answers (Ok v) tokens = tokens ≡ Ok v.items
Answers (Err errors.NoMemory) tokens = Unit {0}
Answers (Err (errors.Token at)) tokens = tokens ≡ Err (errors.Token at)
Answers (Err (errors.Wide at)) tokens = tokens ≡ Err (errors.Wide at)

-- the bytes of a token
abbrev pub token_text : List ℕ → Token → List ℕ
token_text line t = take (t.end - t.start) (drop t.start line)

-- what is known of the text of a token of some kind
abbrev pub KindFits : TokenKind → List ℕ → Type 0
KindFits Name text = length (canonical_name text) ≤ 31
KindFits Text text = 2 ≤ length text
KindFits (Number n) text = Unit {0}
KindFits (Mark m) text = Unit {0}

abbrev pub PieceFits : PieceKind → List ℕ → Type 0
PieceFits (kinds.Token kind) text = KindFits kind text
PieceFits kinds.Wide text = Unit {0}
PieceFits kinds.Bad text = Unit {0}

-- The token lies within the line. A name has at most 31 characters, and a text two delimiters.
pub record IsTokenOf (line : List ℕ) (t : Token) : Type 0 where
  pub some : t.start < t.end
  pub within : t.end ≤ length line
  pub kind : KindFits t.kind (token_text line t)

-- The piece lies within the line.
pub record IsPieceOf (line : List ℕ) (p : Piece) : Type 0 where
  pub some : p.start < p.end
  pub within : p.end ≤ length line
  pub kind : PieceFits p.kind (take (p.end - p.start) (drop p.start line))

-- s ends before t begins
abbrev pub Precedes : Token → Token → Type 0
Precedes s t = s.end ≤ t.start

abbrev pub PiecePrecedes : Piece → Piece → Type 0
PiecePrecedes p q = p.end ≤ q.start

-- where a piece or a token lies
abbrev pub span_of : Token → Span
span_of t = record { start = t.start; end = t.end }

abbrev pub piece_span : Piece → Span
piece_span p = record { start = p.start; end = p.end }

-- a byte lies within
abbrev pub Holds : ℕ → Span → Type 0
Holds k s = (s.start ≤ k) × (k < s.end)

-- The spans cover the bytes before this one but the blanks among them.
abbrev pub CoversTo : ℕ → List ℕ → List Span → Type 0
CoversTo at line spans = (k : ℕ) → k < at → Any (Holds k) spans ⊎ (is_blank (slice_index line k) ≡ true)

-- The spans cover a line but its blanks and its comment, which begins with a `;`.
pub record Covers (line : List ℕ) (spans : List Span) : Type 0 where
  pub comment : ℕ
  pub begins_it : (comment ≡ length line) ⊎ (slice_index line comment ≡ 59)
  pub covered : CoversTo comment line spans

-- what a line begins with lies within the line
abbrev pub HeadFits : List ℕ → Head → Type 0
HeadFits bytes (begins kind n) = (0 < n) × (n ≤ length bytes) × KindFits kind (take n bytes)
HeadFits bytes blank = (0 < length bytes) × (is_blank (slice_index bytes 0) ≡ true)
HeadFits bytes no_more = (length bytes ≡ 0) ⊎ (slice_index bytes 0 ≡ 59)
HeadFits bytes (too_wide n) = (0 < n) × (n ≤ length bytes)
HeadFits bytes no_token = 0 < length bytes

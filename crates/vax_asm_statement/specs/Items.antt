-- The items of data, and the names of directives (VAX MACRO and Instruction Set Reference Manual, "VAX MACRO assembler
-- directives").
use Rattle.std.specs.Prelude.{ℕ, ◌+◌, ◌-◌, Bool, false, ◌&&◌, ◌==◌, not, if◌then◌else◌, List, [], ◌∷◌, ◌++◌, length, take, drop, Option, Some, None, slice_get, map, option_map}
use Rattle.std.specs.Char.{is_ascii_digit}
use Rattle.vax_lex.specs.Tokens.{token_text}
use Rattle.vax_lex.specs.declared.token.Token.{Token}
use Rattle.vax_asm_statement.specs.Tokens.{is_mark, is_name_token, is_text_token}
use Rattle.vax_asm_statement.specs.Parts.{depth_after}
use Rattle.std.specs.Global.{Vec}
use Rattle.vax_asm_statement.specs.declared.items.Item.{Item as CodeItem}
use Rattle.vax_asm_statement.specs.declared.items.Piece.{Piece as CodePiece}
use Rattle.vax_asm_statement.specs.declared.items.Piece.TheVariants as code

-- An item: `e`, or `e[n]`, which is e so many times.
pub record Item : Type 0 where
  pub expression : List Token
  pub count : Option (List Token)

-- the place of the first `[`
abbrev pub bracket_from : ℕ → List Token → Option ℕ
bracket_from i [] = None
bracket_from i (t ∷ tokens) = if is_mark 91 t then Some i else bracket_from (i + 1) tokens

abbrev pub ends_with_bracket : Option Token → Bool
ends_with_bracket (Some t) = is_mark 93 t
ends_with_bracket None = false

abbrev pub whole : List Token → Item
whole tokens = record { expression = tokens; count = None }

-- the two sides of the first `[` before the last token
abbrev pub item_at : List Token → List Token → Option ℕ → Item
item_at tokens front (Some i) = record { expression = take i front; count = Some (drop (i + 1) front) }
item_at tokens front None = whole tokens

unfoldable pub item_of : List Token → Item
item_of tokens =
    let front = take (length tokens - 1) tokens in
    if ends_with_bracket (slice_get tokens (length tokens - 1)) then item_at tokens front (bracket_from 0 front) else whole tokens

-- Pieces of text: `/characters/`, and `<e>` for one byte.
pub data Piece : Type 0 where
  Characters : Token → Piece
  Value : List Token → Piece

abbrev pub with_piece : Piece → Option (List Piece) → Option (List Piece)
with_piece piece (Some pieces) = Some (piece ∷ pieces)
with_piece piece None = None

-- the bracket that ends a value
abbrev pub closes : ℕ → Token → Bool
closes depth t = depth == 1 && is_mark 62 t

-- the pieces from a place where so many brackets are open around these tokens
abbrev pub pieces_from : ℕ → List Token → List Token → Option (List Piece)
pieces_from depth part [] = if depth == 0 then Some [] else None
pieces_from depth part (t ∷ tokens) =
    if depth == 0 then
    (if is_text_token t then with_piece (Characters t) (pieces_from 0 [] tokens)
    else (if is_mark 60 t then pieces_from 1 [] tokens else None))
    else
    (if closes depth t then with_piece (Value part) (pieces_from 0 [] tokens)
    else pieces_from (depth_after depth t) (part ++ t ∷ []) tokens)

-- these pieces, and then more
abbrev pub prefixed : List Piece → Option (List Piece) → Option (List Piece)
prefixed front (Some pieces) = Some (front ++ pieces)
prefixed front None = None

abbrev pub pieces_of : List Token → Option (List Piece)
pieces_of tokens = pieces_from 0 [] tokens

-- A local label begins with a digit.
abbrev pub is_local : List ℕ → Bool
is_local [] = false
is_local (c ∷ name) = is_ascii_digit c

-- the name, but no local label, that the tokens are
abbrev pub name_alone : List ℕ → List Token → Option Token
name_alone line (t ∷ []) = if is_name_token t && not (is_local (token_text line t)) then Some t else None
name_alone line _ = None

-- what the code's types mean

abbrev pub item_seen : CodeItem → Item
item_seen i = record { expression = i.expression.now; count = option_map (λ s. s.now) i.count }

abbrev pub piece_seen : CodePiece → Piece
piece_seen (code.Characters t) = Characters t
piece_seen (code.Value e) = Value e.now

abbrev pub pieces_seen : Option (Vec CodePiece) → Option (List Piece)
pieces_seen None = None
pieces_seen (Some v) = Some (map piece_seen v.items)

-- The tokens in place of pieces lie within the line, and so do some of its pieces.
use Rattle.std.proofs.Common.{◌≡◌, ◌≤◌, ℕ, true, List, [], ◌∷◌, length, map, sym}
use Rattle.std.specs.Prelude.{All}
use Rattle.std.proofs.lemmas.List.Elements.{All-map, All-weaker, All-take, All-drop, All-tail, All-rest, All-head, All-same}
use Rattle.std.proofs.lemmas.Bool.{false≢true}
use Rattle.vax_lex.specs.Characters.{canonical_name}
use Rattle.vax_lex.specs.Tokens.{IsPieceOf, IsTokenOf, KindFits, PieceFits}
use Rattle.vax_lex.specs.declared.token.Piece.{Piece}
use Rattle.vax_lex.specs.declared.token.PieceKind.{PieceKind}
use Rattle.vax_lex.specs.declared.token.PieceKind.TheVariants as kinds
use Rattle.vax_lex.specs.declared.token.TokenKind.TheVariants as tokens
use Rattle.vax_macro.specs.Heads.{is_name_piece, piece_text}
use Rattle.vax_macro.specs.Conditions.{token_kind, token_of}

pub ruleset parts = (All-take, All-drop, All-tail, All-rest)

kind_fits : (kind : PieceKind) (text : List ℕ) → PieceFits kind text → KindFits (token_kind kind) text
kind_fits (kinds.Token kind) text h = h
kind_fits kinds.Wide text h = tt
kind_fits kinds.Bad text h = tt

token_fits : (line : List ℕ) (p : Piece) → IsPieceOf line p → IsTokenOf line (token_of p)
token_fits line p h = record { some = h.some; within = h.within; kind = kind_fits p.kind _ h.kind }

pub tokens_fit : (line : List ℕ) (pieces : List Piece) → All (IsPieceOf line) pieces → All (IsTokenOf line) (map token_of pieces)
tokens_fit line pieces h = All-map (IsTokenOf line) token_of pieces (All-weaker (IsPieceOf line) (λ p. IsTokenOf line (token_of p)) (token_fits line) pieces h)

named_fits : (kind : PieceKind) (text : List ℕ) → is_name_piece kind ≡ true → PieceFits kind text → length (canonical_name text) ≤ 31
named_fits (kinds.Token tokens.Name) text e h = h
named_fits (kinds.Token (tokens.Number n)) text e h = absurd (false≢true e)
named_fits (kinds.Token (tokens.Mark m)) text e h = absurd (false≢true e)
named_fits (kinds.Token tokens.Text) text e h = absurd (false≢true e)
named_fits kinds.Wide text e h = absurd (false≢true e)
named_fits kinds.Bad text e h = absurd (false≢true e)

-- a name is kept in 31 characters
pub name_fits : (line : List ℕ) (p : Piece) → IsPieceOf line p → is_name_piece p.kind ≡ true → length (canonical_name (piece_text line p)) ≤ 31
name_fits line p h e = named_fits p.kind (piece_text line p) e h.kind

-- the one piece of a line
pub one_name_fits : (line : List ℕ) (pieces : List Piece) (p : Piece) → pieces ≡ p ∷ [] → All (IsPieceOf line) pieces → is_name_piece p.kind ≡ true → length (canonical_name (piece_text line p)) ≤ 31
one_name_fits line pieces p is h e = name_fits line p (All-head (IsPieceOf line) p [] (All-same (IsPieceOf line) (p ∷ []) pieces (sym is) h)) e

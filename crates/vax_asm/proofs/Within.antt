-- The tokens of a line lie within it, and are at most as many as its bytes.
use Rattle.std.proofs.Common.{◌≡◌, ◌≤◌, ℕ, zero, suc, ◌+◌, ◌-◌, List, [], ◌∷◌, All, length, map, take, get_or, subst, arith}
use Rattle.std.proofs.lemmas.List.{length-map}
use Rattle.std.proofs.lemmas.List.Elements.{All-map}
use Rattle.vax_dialect.specs.declared.Dialect.{Dialect}
use Rattle.vax_lex.specs.Statements.{Context, context_after, context_after_blank, line_start}
use Rattle.vax_lex.specs.Tokens.{Head, blank, no_more, begins, too_wide, no_token, IsPieceOf, IsTokenOf, KindFits, PieceFits, head_of, piece, pieces_from, pieces_of, stray_kind}
use Rattle.vax_lex.specs.declared.token.Piece.{Piece}
use Rattle.vax_lex.specs.declared.token.PieceKind.{PieceKind}
use Rattle.vax_lex.specs.declared.token.PieceKind.TheVariants as kinds
use Rattle.vax_lex.specs.declared.token.Token.{Token}
use Rattle.vax_lex.specs.declared.token.TokenKind.TheVariants.{Number}
use Rattle.vax_asm.specs.Placing.{kind_of, token_of}

kind_fits : (k : PieceKind) (text : List ℕ) → PieceFits k text → KindFits (kind_of k) text
kind_fits (kinds.Token kind) text h = h
kind_fits kinds.Wide text h = tt
kind_fits kinds.Bad text h = tt

token_within : (line : List ℕ) (p : Piece) → IsPieceOf line p → IsTokenOf line (token_of p)
token_within line p h = record { some = h.some; within = h.within; kind = kind_fits p.kind _ h.kind }

pub tokens_within : (line : List ℕ) (pieces : List Piece) → All (IsPieceOf line) pieces → All (IsTokenOf line) (map token_of pieces)
tokens_within line pieces h = All-map (IsTokenOf line) token_of pieces (λ i d lt. token_within line (get_or pieces i d) (h i d lt))

module _ (dialect : Dialect) where
  abbrev cut : Context → ℕ → ℕ → List ℕ → Head → List Piece
  cut c at b bytes h = elim h [
    | blank ↦ pieces_from dialect (context_after_blank c) (at + 1) zero bytes
    | no_more ↦ []
    | begins kind n ↦ piece (kinds.Token kind) at n ∷ pieces_from dialect (context_after dialect c kind (take n (b ∷ bytes))) (at + 1) (n - 1) bytes
    | too_wide n ↦ piece kinds.Wide at n ∷ pieces_from dialect (context_after dialect c (Number 0) (take n (b ∷ bytes))) (at + 1) (n - 1) bytes
    | no_token ↦ piece kinds.Bad at 1 ∷ pieces_from dialect (context_after dialect c (stray_kind b) (b ∷ [])) (at + 1) zero bytes
  ]

  cut_few : (c : Context) (at b : ℕ) (bytes : List ℕ) (h : Head) → ((c : Context) (at inside : ℕ) → length (pieces_from dialect c at inside bytes) ≤ length bytes)
      → length (cut c at b bytes h) ≤ suc (length bytes)
  cut_few c at b bytes blank few = omega (arith, few (context_after_blank c) (at + 1) zero)
  cut_few c at b bytes no_more few = omega arith
  cut_few c at b bytes (begins kind n) few = omega (arith, few (context_after dialect c kind (take n (b ∷ bytes))) (at + 1) (n - 1))
  cut_few c at b bytes (too_wide n) few = omega (arith, few (context_after dialect c (Number 0) (take n (b ∷ bytes))) (at + 1) (n - 1))
  cut_few c at b bytes no_token few = omega (arith, few (context_after dialect c (stray_kind b) (b ∷ [])) (at + 1) zero)

  few_from : (c : Context) (at inside : ℕ) (bytes : List ℕ) → length (pieces_from dialect c at inside bytes) ≤ length bytes
  unfolding pieces_from
  few_from c at inside [] = omega arith
  few_from c at (suc inside) (b ∷ bytes) = omega (arith, few_from c (at + 1) inside bytes)
  few_from c at zero (b ∷ bytes) = cut_few c at b bytes (head_of c (b ∷ bytes)) (λ c at inside. few_from c at inside bytes)

  pub few_tokens : (line : List ℕ) → length (map token_of (pieces_of dialect line)) ≤ length line
  unfolding pieces_of
  few_tokens line = omega (arith, length-map (pieces_of dialect line) token_of, few_from line_start 0 zero line)

-- the same tokens, of the same line
pub all_within : (a b : List ℕ) (x y : List Token) → a ≡ b → x ≡ y → All (IsTokenOf a) x → All (IsTokenOf b) y
all_within a b x y e f h = subst (λ (l : List ℕ). All (IsTokenOf l) y) e (subst (λ (ts : List Token). All (IsTokenOf a) ts) f h)

-- The pieces of a line lie within it.
use Rattle.std.proofs.Common.{◌≡◌, ℕ, zero, suc, ◌+◌, ◌-◌, List, [], ◌∷◌, All, drop, take, refl, ap, subst, sym, ◌∙◌, arith}
use Rattle.std.proofs.lemmas.List.{drop-drop}
use Rattle.std.proofs.lemmas.List.Elements.{All-cons, All-nil}
use Rattle.vax_dialect.specs.declared.Dialect.{Dialect}
use Rattle.vax_lex.specs.Statements.{Context, context_after, context_after_blank, line_start}
use Rattle.vax_lex.specs.Tokens.{Head, blank, no_more, begins, too_wide, no_token, HeadFits, IsPieceOf, head_of, piece, pieces_from, pieces_of, stray_kind}
use Rattle.vax_lex.specs.declared.token.Piece.{Piece}
use Rattle.vax_lex.specs.declared.token.PieceKind.TheVariants as kinds
use Rattle.vax_lex.specs.declared.token.TokenKind.TheVariants.{Number}
use Rattle.vax_lex.proofs.Heads.{head_fits}
use Rattle.vax_lex.proofs.Lines.{piece_is}

module _ (dialect : Dialect) where
  abbrev cut : Context → ℕ → ℕ → List ℕ → Head → List Piece
  cut c at b bytes h = elim h [
    | blank ↦ pieces_from dialect (context_after_blank c) (at + 1) zero bytes
    | no_more ↦ []
    | begins kind n ↦ piece (kinds.Token kind) at n ∷ pieces_from dialect (context_after dialect c kind (take n (b ∷ bytes))) (at + 1) (n - 1) bytes
    | too_wide n ↦ piece kinds.Wide at n ∷ pieces_from dialect (context_after dialect c (Number 0) (take n (b ∷ bytes))) (at + 1) (n - 1) bytes
    | no_token ↦ piece kinds.Bad at 1 ∷ pieces_from dialect (context_after dialect c (stray_kind b) (b ∷ [])) (at + 1) zero bytes
  ]

  module _ (line : List ℕ) where
    cut_within : (c : Context) (at b : ℕ) (bytes : List ℕ) (h : Head) → HeadFits (drop at line) h
        → ((c : Context) (inside : ℕ) → All (IsPieceOf line) (pieces_from dialect c (at + 1) inside bytes))
        → All (IsPieceOf line) (cut c at b bytes h)
    cut_within c at b bytes blank fits more = more (context_after_blank c) zero
    cut_within c at b bytes no_more fits more = All-nil (IsPieceOf line)
    cut_within c at b bytes (begins kind n) fits more =
        All-cons (IsPieceOf line) (piece (kinds.Token kind) at n) _ (piece_is line at (kinds.Token kind) n fits.0 fits.1 fits.2).1 (more (context_after dialect c kind (take n (b ∷ bytes))) (n - 1))
    cut_within c at b bytes (too_wide n) fits more =
        All-cons (IsPieceOf line) (piece kinds.Wide at n) _ (piece_is line at kinds.Wide n fits.0 fits.1 tt).1 (more (context_after dialect c (Number 0) (take n (b ∷ bytes))) (n - 1))
    cut_within c at b bytes no_token fits more =
        All-cons (IsPieceOf line) (piece kinds.Bad at 1) _ (piece_is line at kinds.Bad 1 (omega arith) fits tt).1 (more (context_after dialect c (stray_kind b) (b ∷ [])) zero)

    from_place : (c : Context) (at inside : ℕ) (bytes : List ℕ) → bytes ≡ drop at line → All (IsPieceOf line) (pieces_from dialect c at inside bytes)
    unfolding pieces_from
    from_place c at inside [] e = All-nil (IsPieceOf line)
    from_place c at (suc inside) (b ∷ bytes) e = from_place c (at + 1) inside bytes (ap (drop 1) e ∙ drop-drop 1 at line)
    from_place c at zero (b ∷ bytes) e =
        cut_within c at b bytes (head_of c (b ∷ bytes)) (subst (λ (rest : List ℕ). HeadFits rest (head_of c (b ∷ bytes))) e (head_fits c (b ∷ bytes)))
        (λ c inside. from_place c (at + 1) inside bytes (ap (drop 1) e ∙ drop-drop 1 at line))

    pub pieces_within : All (IsPieceOf line) (pieces_of dialect line)
    unfolding pieces_of
    pieces_within = from_place line_start 0 zero line refl

  -- these pieces lie within their line
  pub cut_within_line : (line : List ℕ) (pieces : List Piece) → pieces ≡ pieces_of dialect line → All (IsPieceOf line) pieces
  cut_within_line line pieces e = subst (λ (ps : List Piece). All (IsPieceOf line) ps) (sym e) (pieces_within line)

  -- a text of nothing has none
  no_pieces : [] ≡ pieces_of dialect []
  unfolding pieces_of pieces_from
  no_pieces = refl

  pub nothing_cut : (pieces : List Piece) (text : List ℕ) → pieces ≡ [] → text ≡ [] → pieces ≡ pieces_of dialect text
  nothing_cut pieces text e f = rw (e, f) no_pieces

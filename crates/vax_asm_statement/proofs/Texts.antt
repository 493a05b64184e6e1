-- The pieces of a text, one token after another.
use Rattle.std.proofs.Common.{◌≡◌, ℕ, ◌+◌, ◌-◌, ◌<◌, ◌≤◌, true, false, ◌==◌, List, [], ◌∷◌, ◌++◌, length, take, drop, get_or, refl, sym, ap, ◌∙◌, arith, append_assoc, append-nil, Option, Some, None}
use Rattle.std.proofs.lemmas.Bool.Decides.{nat_tests}
use Rattle.std.proofs.lemmas.List.{drop_more, drop_all}
use Rattle.vax_lex.specs.declared.token.Token.{Token}
use Rattle.vax_asm_statement.specs.Tokens.{is_mark, is_text_token}
use Rattle.vax_asm_statement.specs.Parts.{depth_after}
use Rattle.vax_asm_statement.specs.Items.{Piece, Characters, Value, with_piece, closes, pieces_from, prefixed}
use Rattle.vax_asm_statement.proofs.Splitting.{part_more}

-- where no bracket is open, nothing is kept
no_part : (p q tokens : List Token) → pieces_from 0 p tokens ≡ pieces_from 0 q tokens
no_part p q [] = refl
no_part p q (t ∷ tokens) = refl

with_front : (front : List Piece) (piece : Piece) (o : Option (List Piece)) → prefixed front (with_piece piece o) ≡ prefixed (front ++ piece ∷ []) o
with_front front piece (Some pieces) = ap Some (sym (append_assoc front (piece ∷ []) pieces))
with_front front piece None = refl

pub text_piece : (front : List Piece) (p q tokens : List Token) (i : ℕ) (d : Token) → i < length tokens → is_text_token (get_or tokens i d) ≡ true →
    prefixed front (pieces_from 0 p (drop i tokens)) ≡ prefixed (front ++ Characters (get_or tokens i d) ∷ []) (pieces_from 0 q (drop (i + 1) tokens))
text_piece front p q tokens i d high text =
    rw (drop_more tokens i d high, text) (with_front front (Characters (get_or tokens i d)) (pieces_from 0 [] (drop (i + 1) tokens)) ∙ ap (prefixed (front ++ Characters (get_or tokens i d) ∷ [])) (no_part [] q (drop (i + 1) tokens)))

pub value_begins : (p tokens : List Token) (i : ℕ) (d : Token) → i < length tokens → is_text_token (get_or tokens i d) ≡ false → is_mark 60 (get_or tokens i d) ≡ true →
    pieces_from 0 p (drop i tokens) ≡ pieces_from 1 (take (i + 1 - (i + 1)) (drop (i + 1) tokens)) (drop (i + 1) tokens)
value_begins p tokens i d high text bracket =
    let none : i + 1 - (i + 1) ≡ 0 = omega arith in
    rw (none, drop_more tokens i d high, text, bracket) refl

pub no_piece : (p tokens : List Token) (i : ℕ) (d : Token) → i < length tokens → is_text_token (get_or tokens i d) ≡ false → is_mark 60 (get_or tokens i d) ≡ false →
    pieces_from 0 p (drop i tokens) ≡ None
no_piece p tokens i d high text bracket = rw (drop_more tokens i d high, text, bracket) refl

open_depth : (depth : ℕ) → 0 < depth → (depth == 0) ≡ false
open_depth depth h = grind (arith, nat_tests)

pub value_ends : (front : List Piece) (depth : ℕ) (part q tokens : List Token) (i : ℕ) (d : Token) → i < length tokens → 0 < depth → closes depth (get_or tokens i d) ≡ true →
    prefixed front (pieces_from depth part (drop i tokens)) ≡ prefixed (front ++ Value part ∷ []) (pieces_from 0 q (drop (i + 1) tokens))
value_ends front depth part q tokens i d high some ends =
    let deep = open_depth depth some in
    rw (drop_more tokens i d high, deep, ends) (with_front front (Value part) (pieces_from 0 [] (drop (i + 1) tokens)) ∙ ap (prefixed (front ++ Value part ∷ [])) (no_part [] q (drop (i + 1) tokens)))

pub value_grows : (depth begin : ℕ) (tokens : List Token) (i : ℕ) (d : Token) → begin ≤ i → i < length tokens → 0 < depth → closes depth (get_or tokens i d) ≡ false →
    pieces_from depth (take (i - begin) (drop begin tokens)) (drop i tokens) ≡ pieces_from (depth_after depth (get_or tokens i d)) (take (i + 1 - begin) (drop begin tokens)) (drop (i + 1) tokens)
value_grows depth begin tokens i d low high some ends =
    let deep = open_depth depth some in
    rw (part_more tokens begin i d low high, drop_more tokens i d high, deep, ends) refl

pub pieces_end : (front : List Piece) (part tokens : List Token) (i : ℕ) → length tokens ≤ i → prefixed front (pieces_from 0 part (drop i tokens)) ≡ Some front
pieces_end front part tokens i h = rw (drop_all i tokens h) (ap Some (append-nil front))

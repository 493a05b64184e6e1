-- The name that a token is.
use Rattle.std.proofs.Common.{◌≡◌, ◌≤◌, ℕ, Bool, true, false, List, [], ◌∷◌, length, Some, None, refl}
use Rattle.std.specs.Prelude.{◌&&◌, if◌then◌else◌, not}
use Rattle.vax_lex.specs.Characters.{canonical_name}
use Rattle.vax_lex.specs.Tokens.{IsTokenOf, KindFits, token_text}
use Rattle.vax_lex.specs.declared.token.Token.{Token}
use Rattle.vax_lex.specs.declared.token.TokenKind.{TokenKind}
use Rattle.vax_lex.specs.declared.token.TokenKind.TheVariants.{Name, Number, Mark, Text}
use Rattle.vax_asm_statement.specs.Items.{is_local, name_alone}
use Rattle.vax_asm_statement.specs.Tokens.{is_name_kind, is_name_token}

short_by : (k : TokenKind) (text : List ℕ) → KindFits k text → is_name_kind k ≡ true → length (canonical_name text) ≤ 31
short_by Name text h e = h
short_by (Number n) text h e = cc
short_by (Mark m) text h e = cc
short_by Text text h e = cc

pub name_is_short : (line : List ℕ) (t : Token) → IsTokenOf line t → is_name_token t ≡ true → length (canonical_name (token_text line t)) ≤ 31
name_is_short line t h e = short_by t.kind (token_text line t) h.kind e

either_name : (a b : Bool) (t u : Token) → is_name_token t ≡ a → Some u ≡ (if a && b then Some t else None) → is_name_token u ≡ true
either_name true true t u e h = cc
either_name true false t u e h = cc
either_name false b t u e h = cc

pub alone_is_name : (line : List ℕ) (tokens : List Token) (t : Token) → Some t ≡ name_alone line tokens → is_name_token t ≡ true
alone_is_name line [] t h = cc
alone_is_name line (one ∷ []) t h = either_name (is_name_token one) (not (is_local (token_text line one))) one t refl h
alone_is_name line (one ∷ two ∷ more) t h = cc

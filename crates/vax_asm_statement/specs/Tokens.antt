-- Tokens.
use Rattle.std.specs.Prelude.{ℕ, Bool, true, false, ◌==◌, List, [], ◌∷◌}
use Rattle.vax_lex.specs.declared.token.TokenKind.{TokenKind}
use Rattle.vax_lex.specs.declared.token.TokenKind.TheVariants.{Name, Number, Mark, Text}
use Rattle.vax_lex.specs.declared.token.Token.{Token}

abbrev pub is_mark_kind : ℕ → TokenKind → Bool
is_mark_kind m (Mark b) = b == m
is_mark_kind m Name = false
is_mark_kind m (Number n) = false
is_mark_kind m Text = false

abbrev pub is_mark : ℕ → Token → Bool
is_mark m t = is_mark_kind m t.kind

abbrev pub begins_with : ℕ → List Token → Bool
begins_with m [] = false
begins_with m (t ∷ tokens) = is_mark m t

abbrev pub is_name_kind : TokenKind → Bool
is_name_kind Name = true
is_name_kind (Number n) = false
is_name_kind (Mark m) = false
is_name_kind Text = false

abbrev pub is_name_token : Token → Bool
is_name_token t = is_name_kind t.kind

abbrev pub is_text_kind : TokenKind → Bool
is_text_kind Text = true
is_text_kind Name = false
is_text_kind (Number n) = false
is_text_kind (Mark m) = false

abbrev pub is_text_token : Token → Bool
is_text_token t = is_text_kind t.kind

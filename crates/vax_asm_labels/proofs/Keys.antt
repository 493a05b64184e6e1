-- What stands for the mask of an entry is a token that is a name.
use Rattle.std.proofs.Common.{◌≡◌, ◌≤◌, ◌+◌, ℕ, Bool, true, false, List, [], ◌∷◌, length, drop, Some, None, refl, subst, arith}
use Rattle.std.proofs.lemmas.Bool.Decides.{nat_tests}
use Rattle.std.proofs.lemmas.List.{length-drop, length-map, length-take}
use Rattle.std.specs.Prelude.{nat_lt, ◌-◌, if◌then◌else◌}
use Rattle.std.specs.Char.{to_ascii_uppercase}
use Rattle.std.specs.List.{prefix_len}
use Rattle.vax_asm_labels.specs.Masks.{byte_behind, key_below, key_of}
use Rattle.vax_asm_statement.specs.Tokens.{is_name_kind, is_name_token}
use Rattle.vax_lex.specs.Characters.{canonical_name, is_zero}
use Rattle.vax_lex.specs.Tokens.{IsTokenOf, token_text}
use Rattle.vax_lex.specs.declared.token.Token.{Token}
use Rattle.vax_lex.specs.declared.token.TokenKind.{TokenKind}
use Rattle.vax_lex.specs.declared.token.TokenKind.TheVariants.{Name, Number, Mark, Text}

name_kind : (k : TokenKind) → is_name_kind k ≡ true → k ≡ Name
name_kind Name e = refl
name_kind (Number n) e = cc
name_kind (Mark m) e = cc
name_kind Text e = cc

shorter : (text : List ℕ) → length (canonical_name text) ≤ length text
shorter text = omega (arith, length-map (drop (prefix_len is_zero text) text) to_ascii_uppercase, length-drop (prefix_len is_zero text) text)

behind_within : (line : List ℕ) (t : Token) (b c : Bool) → nat_lt t.end (length line) ≡ b → (k : Token) → Some k ≡ (if b then key_below c t else None) → IsTokenOf line k × (k.kind ≡ Name)
behind_within line t true true e k is =
    let text = token_text line (byte_behind t) in
    let P : Token → Type 0 = λ x. IsTokenOf line x × (x.kind ≡ Name) in
    let same : byte_behind t ≡ k = cc in
    let one : length text ≤ 1 = omega (arith, length-take (t.end + 1 - t.end) (drop t.end line)) in
    subst P same (record { some = omega arith; within = grind (arith, nat_tests); kind = omega (arith, one, shorter text) }, refl)
behind_within line t true false e k is = absurd cc
behind_within line t false c e k is = absurd cc

pub key_fits : (line : List ℕ) (t : Token) (tokens : List Token) (k : Token) → IsTokenOf line t → is_name_token t ≡ true → Some k ≡ key_of line t tokens → IsTokenOf line k × (k.kind ≡ Name)
key_fits line t [] k h e is =
    let same : t ≡ k = cc in
    let P : Token → Type 0 = λ x. IsTokenOf line x × (x.kind ≡ Name) in
    subst P same (h, name_kind t.kind e)
key_fits line t (x ∷ tokens) k h e is = behind_within line t (nat_lt t.end (length line)) (nat_lt t.end 4294967295) refl k is

pub key_within : (line : List ℕ) (t : Token) (tokens : List Token) (k : Token) → IsTokenOf line t → is_name_token t ≡ true → Some k ≡ key_of line t tokens → IsTokenOf line k
key_within line t tokens k h e is = (key_fits line t tokens k h e is).0

pub key_is_name : (line : List ℕ) (t : Token) (tokens : List Token) (k : Token) → IsTokenOf line t → is_name_token t ≡ true → Some k ≡ key_of line t tokens → k.kind ≡ Name
key_is_name line t tokens k h e is = (key_fits line t tokens k h e is).1

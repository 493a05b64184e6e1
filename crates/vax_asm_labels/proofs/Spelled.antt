-- A text that is a word but for the case of its letters is UTF-8, as the word is ASCII.
use Rattle.std.proofs.Common.{◌≡◌, ◌<◌, ◌≤◌, ◌⊎◌, inl, inr, ℕ, zero, suc, Bool, true, false, List, [], ◌∷◌, refl, sym, ap, ◌∙◌, arith, ltb-true, lit<}
use Rattle.std.proofs.Math.ListN.{get_or-map}
use Rattle.std.proofs.lemmas.Bool.{cases_lt}
use Rattle.std.proofs.lemmas.Slice.Eq.{bytes_eq-Decides}
use Rattle.std.proofs.lemmas.Str.{IsUtf8-from_ascii}
use Rattle.std.proofs.lemmas.Str.Ascii.{lowercase_ascii, lowercase_is}
use Rattle.std.specs.Char.{to_ascii_lowercase}
use Rattle.std.specs.Prelude.{◌&&◌, nat_lt, slice_index}
use Rattle.std.specs.Str.{IsAscii, IsUtf8, str_eq_ignore_ascii_case, str_to_ascii_lowercase}

abbrev pub is_ascii : List ℕ → Bool
is_ascii [] = true
is_ascii (c ∷ cs) = nat_lt c 128 && is_ascii cs

both : (a b : Bool) → (a && b) ≡ true → (a ≡ true) × (b ≡ true)
both true true h = (refl, refl)
both true false h = cc
both false b h = cc

pub ascii_within : (cs : List ℕ) → is_ascii cs ≡ true → (i : ℕ) → slice_index cs i < 128
ascii_within [] h i = lit< tt
ascii_within (c ∷ cs) h zero = ltb-true c 128 (both (nat_lt c 128) (is_ascii cs) h).0
ascii_within (c ∷ cs) h (suc i) = ascii_within cs (both (nat_lt c 128) (is_ascii cs) h).1 i

below_by : (c l : ℕ) → (90 < c → l ≡ c) → l < 128 → (c < 91) ⊎ (91 ≤ c) → c < 128
below_by c l same h (inl low) = omega arith
below_by c l same h (inr high) = let e : l ≡ c = same (omega arith) in omega arith

below : (c : ℕ) → to_ascii_lowercase c < 128 → c < 128
below c h = below_by c (to_ascii_lowercase c) (lowercase_is c).2 h (cases_lt c 91)

lowered : (cs : List ℕ) (i : ℕ) → slice_index (str_to_ascii_lowercase cs) i ≡ to_ascii_lowercase (slice_index cs i)
lowered cs i = get_or-map to_ascii_lowercase cs i 0

pub spelled_is_utf8 : (word text : List ℕ) → is_ascii word ≡ true → str_eq_ignore_ascii_case word text ≡ true → IsUtf8 text
spelled_is_utf8 word text h same =
    let lower : str_to_ascii_lowercase word ≡ str_to_ascii_lowercase text = (bytes_eq-Decides (str_to_ascii_lowercase word) (str_to_ascii_lowercase text)).0 same in
    let each : IsAscii text = λ i.
    let is : to_ascii_lowercase (slice_index text i) ≡ to_ascii_lowercase (slice_index word i) =
    sym (lowered text i) ∙ ap (λ (l : List ℕ). slice_index l i) (sym lower) ∙ lowered word i in
    let low = lowercase_ascii (slice_index word i) (ascii_within word h i) in
    below (slice_index text i) (omega (arith, is, low))
    in
    IsUtf8-from_ascii text each

-- What a place of an instruction's text begins with.
use Rattle.std.proofs.Common.{◌≡◌, ℕ, suc, ◌+◌, ◌<◌, ◌≤◌, ◌^◌, min, Bool, true, false, List, [], ◌∷◌, ◌++◌, length, refl, arith}
use Rattle.std.specs.Prelude.{not, ◌&&◌, ◌==◌, if◌then◌else◌}
use Rattle.std.specs.List.{prefix_len, list_all}
use Rattle.std.specs.Char.{is_ascii_graphic}
use Rattle.std.proofs.Math.Seq.{take-append_seam, drop-append_seam}
use Rattle.std.proofs.lemmas.Bool.Decides.{nat_tests}
use Rattle.vax_dialect.specs.declared.Dialect.{Dialect}
use Rattle.vax_lex.specs.Characters.{is_blank, is_delimiter, is_digit, is_name_character, number_of}
use Rattle.vax_lex.specs.Tokens.{begins, head_of, plain, numeral, based, digit_run, number_head}
use Rattle.vax_lex.specs.Statements.{Context, Place, first_name, other_operator, operands, Before, nothing_special, size_letter, context_after, is_size_letter, text_due}
use Rattle.vax_lex.specs.declared.token.TokenKind.TheVariants.{Name, Number, Mark}

-- among the operands: before the first of their tokens, or behind it
abbrev pub place_of : Bool → Place
place_of true = first_name other_operator
place_of false = operands

abbrev pub operand_context : Bool → Before → Context
operand_context first before = record { place = place_of first; before = before }

-- the bytes begin with none that passes
abbrev pub ends : (ℕ → Bool) → List ℕ → Bool
ends p [] = true
ends p (b ∷ bytes) = not (p b)

both : (a b : Bool) → (a && b) ≡ true → (a ≡ true) × (b ≡ true)
both true true h = (refl, refl)
both true false h = cc
both false b h = cc

untrue : (b : Bool) → not b ≡ true → b ≡ false
untrue true h = cc
untrue false h = refl

pub and_false : (a : Bool) → (a && false) ≡ false
and_false true = refl
and_false false = refl

-- a run of those that pass
pub run_of : (p : ℕ → Bool) (text rest : List ℕ) → list_all p text ≡ true → ends p rest ≡ true → prefix_len p (text ++ rest) ≡ length text
run_of p [] [] all end = refl
run_of p [] (b ∷ bytes) all end = rw (untrue (p b) end) refl
run_of p (b ∷ text) rest all end =
    let each = both (p b) (list_all p text) all in
    rw (each.0) (rw (run_of p text rest each.1 end) (omega arith))

no_text : (first : Bool) (b : ℕ) → text_due (operand_context first nothing_special) b ≡ false
no_text true b = and_false (is_delimiter b)
no_text false b = and_false (is_delimiter b)

no_text_behind : (first : Bool) (b : ℕ) → text_due (operand_context first size_letter) b ≡ false
no_text_behind true b = and_false (is_delimiter b)
no_text_behind false b = and_false (is_delimiter b)

-- a byte that begins a name
pub record BeginsName (b : ℕ) : Type 0 where
  pub no_blank : is_blank b ≡ false
  pub no_comment : (b == 59) ≡ false
  pub no_digit : is_digit 10 b ≡ false

pub plain_name : (b : ℕ) (text rest : List ℕ) → BeginsName b → list_all is_name_character (b ∷ text) ≡ true → length (b ∷ text) ≤ 31 → ends is_name_character rest ≡ true
    → plain (b ∷ (text ++ rest)) ≡ begins Name (suc (length text))
unfolding plain
plain_name b text rest is all short end =
    let each = both (is_name_character b) (list_all is_name_character text) all in
    let run : prefix_len is_name_character (text ++ rest) ≡ length text = run_of is_name_character text rest each.1 end in
    let least : min 31 (1 + length text) ≡ suc (length text) = omega arith in
    rw (is.no_blank, is.no_comment, is.no_digit, each.0, run, least) refl

pub name_head : (first : Bool) (b : ℕ) (text rest : List ℕ) → BeginsName b → list_all is_name_character (b ∷ text) ≡ true → length (b ∷ text) ≤ 31 → ends is_name_character rest ≡ true
    → head_of (operand_context first nothing_special) (b ∷ (text ++ rest)) ≡ begins Name (suc (length text))
unfolding head_of
name_head first b text rest is all short end = rw (no_text first b) (plain_name b text rest is all short end)

-- a mark, which no name, number or comment begins with
pub record IsSign (m : ℕ) : Type 0 where
  pub no_blank : is_blank m ≡ false
  pub no_comment : (m == 59) ≡ false
  pub no_digit : is_digit 10 m ≡ false
  pub of_no_name : is_name_character m ≡ false
  pub no_caret : (m == 94) ≡ false
  pub no_colon : (m == 58) ≡ false
  pub printable : is_ascii_graphic m ≡ true

plain_sign : (m : ℕ) (rest : List ℕ) → IsSign m → plain (m ∷ rest) ≡ begins (Mark m) 1
unfolding plain
plain_sign m rest is = rw (is.no_blank, is.no_comment, is.no_digit, is.of_no_name, is.no_caret, is.printable) refl

pub sign_head : (first : Bool) (m : ℕ) (rest : List ℕ) → IsSign m → head_of (operand_context first nothing_special) (m ∷ rest) ≡ begins (Mark m) 1
unfolding head_of
sign_head first m rest is = rw (no_text first m) (plain_sign m rest is)

-- the `^` behind the letter of a size
pub size_head : (rest : List ℕ) → head_of (operand_context false size_letter) (94 ∷ rest) ≡ begins (Mark 94) 1
unfolding head_of
size_head rest = refl

fits_number : (n count : ℕ) → n < 2 ^ 64 → number_head n count ≡ begins (Number n) count
fits_number n count h = grind (arith, nat_tests)

based_head : (digits rest : List ℕ) (n : ℕ) → 0 < length digits → list_all (is_digit 16) digits ≡ true → ends (is_digit 16) rest ≡ true → number_of 16 digits ≡ n → n < 2 ^ 64
    → based 16 (digits ++ rest) ≡ begins (Number n) (length digits + 2)
unfolding based
based_head digits rest n some all end value fits =
    let run : digit_run 16 (digits ++ rest) ≡ length digits = run_of (is_digit 16) digits rest all end in
    let any : (length digits == 0) ≡ false = grind (arith, nat_tests) in
    rw (run, any, take-append_seam digits rest, value) (fits_number n (length digits + 2) fits)

-- `^X` and digits
pub hexadecimal_head : (first : Bool) (digits rest : List ℕ) (n : ℕ) → 0 < length digits → list_all (is_digit 16) digits ≡ true → ends (is_digit 16) rest ≡ true → number_of 16 digits ≡ n → n < 2 ^ 64
    → head_of (operand_context first nothing_special) (94 ∷ 88 ∷ (digits ++ rest)) ≡ begins (Number n) (length digits + 2)
unfolding head_of plain
hexadecimal_head first digits rest n some all end value fits = rw (no_text first 94) (based_head digits rest n some all end value fits)

numeral_head : (digits rest : List ℕ) (n : ℕ) → list_all (is_digit 10) digits ≡ true → number_of 10 digits ≡ n → n < 2 ^ 64
    → numeral (digits ++ 40 ∷ rest) ≡ begins (Number n) (length digits)
unfolding numeral
numeral_head digits rest n all value fits =
    let run : digit_run 10 (digits ++ 40 ∷ rest) ≡ length digits = run_of (is_digit 10) digits (40 ∷ rest) all refl in
    rw (run, take-append_seam digits (40 ∷ rest), drop-append_seam digits (40 ∷ rest), value) (fits_number n (length digits) fits)

plain_digits : (d : ℕ) (more : List ℕ) → is_digit 10 d ≡ true → plain (d ∷ more) ≡ numeral (d ∷ more)
unfolding plain
plain_digits d more is =
    let no_blank : is_blank d ≡ false = grind (arith, nat_tests) in
    let no_comment : (d == 59) ≡ false = grind (arith, nat_tests) in
    rw (no_blank, no_comment, is) refl

-- decimal digits in front of a bracket
pub decimal_head : (first : Bool) (d : ℕ) (digits rest : List ℕ) (n : ℕ) → list_all (is_digit 10) (d ∷ digits) ≡ true → number_of 10 (d ∷ digits) ≡ n → n < 2 ^ 64
    → head_of (operand_context first nothing_special) (d ∷ (digits ++ 40 ∷ rest)) ≡ begins (Number n) (suc (length digits))
unfolding head_of
decimal_head first d digits rest n all value fits =
    let each = both (is_digit 10 d) (list_all (is_digit 10) digits) all in
    rw (no_text first d, plain_digits d (digits ++ 40 ∷ rest) each.0) (numeral_head (d ∷ digits) rest n all value fits)

-- what is due behind a token
pub behind_name : (first : Bool) (text : List ℕ) (d : Dialect) → context_after d (operand_context first nothing_special) Name text ≡ operand_context false (if is_size_letter text then size_letter else nothing_special)
behind_name true text d = refl
behind_name false text d = refl

pub behind_number : (first : Bool) (n : ℕ) (text : List ℕ) (d : Dialect) → context_after d (operand_context first nothing_special) (Number n) text ≡ operand_context false nothing_special
behind_number true n text d = refl
behind_number false n text d = refl

pub behind_sign : (first : Bool) (m : ℕ) (text : List ℕ) → IsSign m → (d : Dialect) → context_after d (operand_context first nothing_special) (Mark m) text ≡ operand_context false nothing_special
behind_sign true m text is d = rw (is.no_caret, is.no_colon) refl
behind_sign false m text is d = rw (is.no_caret, is.no_colon) refl

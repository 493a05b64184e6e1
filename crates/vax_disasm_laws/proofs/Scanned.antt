-- A scan of an operand's text gives its words.
use Rattle.std.proofs.Common.{◌≡◌, ℕ, suc, ◌+◌, ◌-◌, ◌*◌, ◌<◌, ◌^◌, Bool, true, false, List, [], ◌∷◌, ◌++◌, length, refl, ap, ◌∙◌, arith, inl, inr}
use Rattle.std.specs.Prelude.{decimal, ◌==◌, nat_lt, if◌then◌else◌}
use Rattle.vax_lex.specs.Characters.{is_digit, is_name_character}
use Rattle.vax_lex.specs.Tokens.{begins, head_of}
use Rattle.vax_lex.specs.Statements.{is_size_letter, nothing_special, size_letter}
use Rattle.vax_lex.specs.declared.token.Token.{Token}
use Rattle.vax_lex.specs.declared.token.TokenKind.TheVariants.{Name, Number, Mark}
use Rattle.vax_isa.specs.declared.OperandKind.{OperandKind}
use Rattle.vax_isa.specs.Rows.{IsWidth}
use Rattle.vax_outside.specs.Hex.{hex}
use Rattle.vax_flat.specs.Operand.{plus}
use Rattle.vax_flat.specs.Grammar.{Place, Deferred, Decrement, Increment, IncrementDeferred, Absolute, Displaced, DisplacedDeferred, Specifier, Literal, Register, Immediate, InMemory, Indexed, BranchBy}
use Rattle.vax_disasm.specs.Text.{register_name}
use Rattle.vax_disasm_laws.proofs.Digits.{hex_passes, hex_length, hex_value, IsDecimal, is_decimal}
use Rattle.vax_disasm_laws.proofs.Words.{Word, written, token_at, tokens_at, behind, Scans, next_word}
use Rattle.vax_disasm_laws.proofs.Heads.{operand_context, ends, BeginsName, name_head, IsSign, sign_head, size_head, hexadecimal_head, decimal_head, behind_name, behind_number, behind_sign}
use Rattle.vax_disasm_laws.proofs.Registers.{IsRegister, register_is}
use Rattle.vax_disasm_laws.proofs.Spoken.{sign, register, letter, hexadecimal, number, enclosed_words, signed_words, letter_of, displaced_words, place_words, specifier_words}

-- a scan goes through words, wherever they are, to the rest
abbrev pub Goes : Bool → List Word → List ℕ → Type 0
Goes first words rest =
    (at : ℕ) (tokens : List Token) → Scans (operand_context false nothing_special) (behind at words) rest tokens → Scans (operand_context first nothing_special) at (written words rest) (tokens_at at words ++ tokens)

by_nothing : (rest : List ℕ) → Goes false [] rest
by_nothing rest = λ at tokens s. s

by_sign : (first : Bool) (m : ℕ) (words : List Word) (rest : List ℕ) → IsSign m → Goes false words rest → Goes first (sign m ∷ words) rest
by_sign first m words rest is more = λ at tokens s.
    next_word (operand_context first nothing_special) (operand_context false nothing_special) at (Mark m) (m ∷ []) (written words rest) (tokens_at (at + 1) words ++ tokens) (omega arith)
    (sign_head first m (written words rest) is) (behind_sign first m (m ∷ []) is) (more (at + 1) tokens s)

pub record IsLetter (c : ℕ) : Type 0 where
  pub begins : BeginsName c
  pub character : is_name_character c ≡ true
  pub size : is_size_letter (c ∷ []) ≡ true

by_letter : (first : Bool) (c : ℕ) (words : List Word) (rest : List ℕ) → IsLetter c → Goes false words rest → Goes first (letter c ∷ sign 94 ∷ words) rest
by_letter first c words rest is more = λ at tokens s.
    next_word (operand_context first nothing_special) (operand_context false size_letter) at Name (c ∷ []) (94 ∷ written words rest) (token_at (at + 1) (sign 94) ∷ (tokens_at (at + 1 + 1) words ++ tokens)) (omega arith)
    (name_head first c [] (94 ∷ written words rest) is.begins (rw is.character refl) (omega arith) refl) (λ d. behind_name first (c ∷ []) d ∙ rw is.size refl)
    (next_word (operand_context false size_letter) (operand_context false nothing_special) (at + 1) (Mark 94) (94 ∷ []) (written words rest) (tokens_at (at + 1 + 1) words ++ tokens) (omega arith)
    (size_head (written words rest)) (λ d. refl) (more (at + 1 + 1) tokens s))

by_register : (first : Bool) (n : ℕ) (words : List Word) (rest : List ℕ) → n < 16 → ends is_name_character (written words rest) ≡ true → Goes false words rest → Goes first (register n ∷ words) rest
by_register first n words rest h end more = λ at tokens s.
    let is : IsRegister (register_name n) n = register_is n h in
    let some : 0 < length (register_name n) = rw is.spelled (omega arith) in
    let head : head_of (operand_context first nothing_special) (register_name n ++ written words rest) ≡ begins Name (length (register_name n)) =
    rw is.spelled (name_head first is.first is.more (written words rest) is.begins is.characters is.short end) in
    next_word (operand_context first nothing_special) (operand_context false nothing_special) at Name (register_name n) (written words rest) (tokens_at (at + length (register_name n)) words ++ tokens) some
    head (λ d. behind_name first (register_name n) d ∙ rw is.no_size refl) (more (at + length (register_name n)) tokens s)

by_hexadecimal : (first : Bool) (places n : ℕ) (words : List Word) (rest : List ℕ) → 0 < places → n < 16 ^ places → n < 2 ^ 64 → ends (is_digit 16) (written words rest) ≡ true → Goes false words rest → Goes first (hexadecimal places n ∷ words) rest
by_hexadecimal first places n words rest some fits wide end more = λ at tokens s.
    let long : 0 < length (hex places n) = rw (hex_length places n) some in
    let count : length (hex places n) + 2 ≡ suc (suc (length (hex places n))) = omega arith in
    let head : head_of (operand_context first nothing_special) (94 ∷ 88 ∷ (hex places n ++ written words rest)) ≡ begins (Number n) (suc (suc (length (hex places n)))) =
    hexadecimal_head first (hex places n) (written words rest) n long (hex_passes places n) end (hex_value places n fits) wide ∙ ap (begins (Number n)) count in
    next_word (operand_context first nothing_special) (operand_context false nothing_special) at (Number n) (94 ∷ 88 ∷ hex places n) (written words rest) (tokens_at (at + suc (suc (length (hex places n)))) words ++ tokens) (omega arith)
    head (behind_number first n (94 ∷ 88 ∷ hex places n)) (more (at + suc (suc (length (hex places n)))) tokens s)

by_number : (first : Bool) (n : ℕ) (words : List Word) (rest : List ℕ) → n < 2 ^ 64 → Goes false (sign 40 ∷ words) rest → Goes first (number n ∷ sign 40 ∷ words) rest
by_number first n words rest h more = λ at tokens s.
    let is : IsDecimal n = is_decimal n h in
    let some : 0 < length (decimal n) = rw is.spelled (omega arith) in
    let head : head_of (operand_context first nothing_special) (decimal n ++ 40 ∷ written words rest) ≡ begins (Number n) (length (decimal n)) =
    rw is.spelled (decimal_head first is.first is.more (written words rest) n is.digits is.value h) in
    next_word (operand_context first nothing_special) (operand_context false nothing_special) at (Number n) (decimal n) (40 ∷ written words rest) (tokens_at (at + length (decimal n)) (sign 40 ∷ words) ++ tokens) some
    head (behind_number first n (decimal n)) (more (at + length (decimal n)) tokens s)

pub comma_sign : IsSign 44
comma_sign = record { no_blank = refl; no_comment = refl; no_digit = refl; of_no_name = refl; no_caret = refl; no_colon = refl; printable = refl }

open_sign : IsSign 40
open_sign = record { no_blank = refl; no_comment = refl; no_digit = refl; of_no_name = refl; no_caret = refl; no_colon = refl; printable = refl }

close_sign : IsSign 41
close_sign = record { no_blank = refl; no_comment = refl; no_digit = refl; of_no_name = refl; no_caret = refl; no_colon = refl; printable = refl }

plus_sign : IsSign 43
plus_sign = record { no_blank = refl; no_comment = refl; no_digit = refl; of_no_name = refl; no_caret = refl; no_colon = refl; printable = refl }

minus_sign : IsSign 45
minus_sign = record { no_blank = refl; no_comment = refl; no_digit = refl; of_no_name = refl; no_caret = refl; no_colon = refl; printable = refl }

deferral_sign : IsSign 64
deferral_sign = record { no_blank = refl; no_comment = refl; no_digit = refl; of_no_name = refl; no_caret = refl; no_colon = refl; printable = refl }

hash_sign : IsSign 35
hash_sign = record { no_blank = refl; no_comment = refl; no_digit = refl; of_no_name = refl; no_caret = refl; no_colon = refl; printable = refl }

index_sign : IsSign 91
index_sign = record { no_blank = refl; no_comment = refl; no_digit = refl; of_no_name = refl; no_caret = refl; no_colon = refl; printable = refl }

index_end_sign : IsSign 93
index_end_sign = record { no_blank = refl; no_comment = refl; no_digit = refl; of_no_name = refl; no_caret = refl; no_colon = refl; printable = refl }

byte_letter : IsLetter 66
byte_letter = record { begins = record { no_blank = refl; no_comment = refl; no_digit = refl }; character = refl; size = refl }

word_letter : IsLetter 87
word_letter = record { begins = record { no_blank = refl; no_comment = refl; no_digit = refl }; character = refl; size = refl }

longword_letter : IsLetter 76
longword_letter = record { begins = record { no_blank = refl; no_comment = refl; no_digit = refl }; character = refl; size = refl }

short_letter : IsLetter 83
short_letter = record { begins = record { no_blank = refl; no_comment = refl; no_digit = refl }; character = refl; size = refl }

immediate_letter : IsLetter 73
immediate_letter = record { begins = record { no_blank = refl; no_comment = refl; no_digit = refl }; character = refl; size = refl }

by_enclosed : (first : Bool) (n : ℕ) (words : List Word) (rest : List ℕ) → n < 16 → Goes false words rest → Goes first (enclosed_words n words) rest
by_enclosed first n words rest h more =
    by_sign first 40 (register n ∷ sign 41 ∷ words) rest open_sign (by_register false n (sign 41 ∷ words) rest h refl (by_sign false 41 words rest close_sign more))

by_signed : (n : ℕ) (words : List Word) (rest : List ℕ) (low : Bool) → nat_lt n (2 ^ 31) ≡ low → n < 2 ^ 32 → Goes false (sign 40 ∷ words) rest → Goes false (signed_words n (sign 40 ∷ words)) rest
by_signed n words rest true e h more = rw e (by_number false n words rest (omega arith) more)
by_signed n words rest false e h more = rw e (by_sign false 45 (number (2 ^ 32 - n) ∷ sign 40 ∷ words) rest minus_sign (by_number false (2 ^ 32 - n) words rest (omega arith) more))

width_letter : (width : ℕ) → IsLetter (letter_of width)
width_letter width = elim (width == 1) as (λ b. IsLetter (if b then 66 else (if width == 2 then 87 else 76))) [
  | true ↦ byte_letter
  | false ↦ elim (width == 2) as (λ b. IsLetter (if b then 87 else 76)) [ true ↦ word_letter | false ↦ longword_letter ]
]

by_displaced : (first : Bool) (width displacement n : ℕ) (words : List Word) (rest : List ℕ) → displacement < 2 ^ 32 → n < 16 → Goes false words rest → Goes first (displaced_words width displacement n words) rest
by_displaced first width displacement n words rest d h more =
    by_letter first (letter_of width) (signed_words displacement (enclosed_words n words)) rest (width_letter width)
    (by_signed displacement (register n ∷ sign 41 ∷ words) rest (nat_lt displacement (2 ^ 31)) refl d (by_enclosed false n words rest h more))

-- a place whose registers and numbers fit
abbrev pub PlaceFits : Place → Type 0
PlaceFits (Deferred n) = n < 16
PlaceFits (Decrement n) = n < 16
PlaceFits (Increment n) = n < 16
PlaceFits (IncrementDeferred n) = n < 16
PlaceFits (Absolute addr) = addr < 2 ^ 32
PlaceFits (Displaced width displacement n) = (displacement < 2 ^ 32) × (n < 16)
PlaceFits (DisplacedDeferred width displacement n) = (displacement < 2 ^ 32) × (n < 16)

abbrev pub Fits : OperandKind → Specifier → Type 0
Fits kind (Literal value) = value < 64
Fits kind (Register n) = n < 16
Fits kind (Immediate value) = IsWidth kind.width × (value < 256 ^ kind.width)
Fits kind (InMemory place) = PlaceFits place
Fits kind (Indexed place x) = PlaceFits place × (x < 16)
Fits kind (BranchBy displacement) = displacement < 2 ^ 32

by_place : (first : Bool) (place : Place) (words : List Word) (rest : List ℕ) → PlaceFits place → ends (is_digit 16) (written words rest) ≡ true → Goes false words rest → Goes first (place_words place words) rest
by_place first (Deferred n) words rest h end more = by_enclosed first n words rest h more
by_place first (Decrement n) words rest h end more = by_sign first 45 (enclosed_words n words) rest minus_sign (by_enclosed false n words rest h more)
by_place first (Increment n) words rest h end more = by_enclosed first n (sign 43 ∷ words) rest h (by_sign false 43 words rest plus_sign more)
by_place first (IncrementDeferred n) words rest h end more = by_sign first 64 (enclosed_words n (sign 43 ∷ words)) rest deferral_sign (by_enclosed false n (sign 43 ∷ words) rest h (by_sign false 43 words rest plus_sign more))
by_place first (Absolute addr) words rest h end more =
    by_sign first 64 (sign 35 ∷ hexadecimal 8 addr ∷ words) rest deferral_sign (by_sign false 35 (hexadecimal 8 addr ∷ words) rest hash_sign (by_hexadecimal false 8 addr words rest (omega arith) (omega arith) (omega arith) end more))
by_place first (Displaced width displacement n) words rest h end more = by_displaced first width displacement n words rest h.0 h.1 more
by_place first (DisplacedDeferred width displacement n) words rest h end more =
    by_sign first 64 (displaced_words width displacement n words) rest deferral_sign (by_displaced false width displacement n words rest h.0 h.1 more)

immediate_fits : (width value : ℕ) → IsWidth width → value < 256 ^ width → (0 < 2 * width) × (value < 16 ^ (2 * width)) × (value < 2 ^ 64)
immediate_fits width value (inl one) h = let small : value < 256 ^ 1 = rw one at h in rw one (omega arith, omega arith, omega arith)
immediate_fits width value (inr (inl two)) h = let small : value < 256 ^ 2 = rw two at h in rw two (omega arith, omega arith, omega arith)
immediate_fits width value (inr (inr (inl four))) h = let small : value < 256 ^ 4 = rw four at h in rw four (omega arith, omega arith, omega arith)
immediate_fits width value (inr (inr (inr eight))) h = let small : value < 256 ^ 8 = rw eight at h in rw eight (omega arith, omega arith, omega arith)

-- what may stand behind an operand
pub record Stops (rest : List ℕ) : Type 0 where
  pub no_name : ends is_name_character rest ≡ true
  pub no_digit : ends (is_digit 16) rest ≡ true

pub by_specifier : (first : Bool) (kind : OperandKind) (next : ℕ) (s : Specifier) (rest : List ℕ) → Fits kind s → Stops rest → Goes first (specifier_words kind next s) rest
by_specifier first kind next (Literal value) rest h stops =
    by_letter first 83 (sign 35 ∷ hexadecimal 2 value ∷ []) rest short_letter (by_sign false 35 (hexadecimal 2 value ∷ []) rest hash_sign (by_hexadecimal false 2 value [] rest (omega arith) (omega arith) (omega arith) stops.no_digit (by_nothing rest)))
by_specifier first kind next (Register n) rest h stops = by_register first n [] rest h stops.no_name (by_nothing rest)
by_specifier first kind next (Immediate value) rest h stops =
    let fits = immediate_fits kind.width value h.0 h.1 in
    by_letter first 73 (sign 35 ∷ hexadecimal (2 * kind.width) value ∷ []) rest immediate_letter (by_sign false 35 (hexadecimal (2 * kind.width) value ∷ []) rest hash_sign (by_hexadecimal false (2 * kind.width) value [] rest fits.0 fits.1 fits.2 stops.no_digit (by_nothing rest)))
by_specifier first kind next (InMemory place) rest h stops = by_place first place [] rest h stops.no_digit (by_nothing rest)
by_specifier first kind next (Indexed place x) rest h stops =
    by_place first place (sign 91 ∷ register x ∷ sign 93 ∷ []) rest h.0 refl
    (by_sign false 91 (register x ∷ sign 93 ∷ []) rest index_sign (by_register false x (sign 93 ∷ []) rest h.1 refl (by_sign false 93 [] rest index_end_sign (by_nothing rest))))
by_specifier first kind next (BranchBy displacement) rest h stops =
    by_hexadecimal first 8 (plus next displacement) [] rest (omega arith) (omega arith) (omega arith) stops.no_digit (by_nothing rest)

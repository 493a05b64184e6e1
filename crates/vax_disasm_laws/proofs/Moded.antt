-- The modes of operands, read from their words.
use Rattle.std.proofs.Common.{◌≡◌, ℕ, suc, ◌+◌, ◌-◌, ◌%◌, ◌<◌, ◌≤◌, ◌^◌, true, false, ℤ, pos, negsuc, List, [], ◌∷◌, Some, None, Ok, refl, ap, ◌∙◌, arith, inl, inr}
use Rattle.std.specs.Prelude.{◌==◌, nat_lt, if◌then◌else◌}
use Rattle.std.specs.Int.{w32, w64, cast_signed, int_wrapping_neg}
use Rattle.std.proofs.lemmas.Bool.{cases_Bool}
use Rattle.std.proofs.lemmas.Bool.Decides.{nat_tests}
use Rattle.std.proofs.lemmas.Int.{ints}
use Rattle.vax_outside.specs.Hex.{hex}
use Rattle.vax_dialect.specs.declared.Dialect.{Dialect}
use Rattle.vax_dialect.specs.declared.Dialect.TheVariants.{Vax, Vms}
use Rattle.vax_isa.specs.declared.actions.Narrow.{Narrow}
use Rattle.vax_isa.specs.declared.actions.Narrow.TheVariants as narrow
use Rattle.vax_lex.specs.Grammar.{symbols_of}
use Rattle.vax_lex.specs.Grammar as symbols
use Rattle.vax_lex.specs.Expressions.{value_at, term_in, joined_in}
use Rattle.vax_lex.specs.Values.{Sense, fitted_number, longword}
use Rattle.vax_lex.specs.declared.value.Value.TheVariants as value
use Rattle.vax_lex.specs.declared.token.Token.{Token}
use Rattle.vax_lex.specs.declared.token.TokenKind.TheVariants.{Number}
use Rattle.vax_flat.specs.Grammar.{Place, Deferred, Decrement, Increment, IncrementDeferred, Absolute, Displaced, DisplacedDeferred}
use Rattle.vax_asm_scope.specs.Used.{at_term, used}
use Rattle.vax_asm_statement.specs.declared.modes.Mode.{Mode}
use Rattle.vax_asm_statement.specs.declared.modes.Mode.TheVariants as mode
use Rattle.vax_asm_statement.specs.Registers.{register_of}
use Rattle.vax_asm_statement.specs.Modes.{enclosed_last, unindexed, direct_form, register_form, deferred_form}
use Rattle.vax_disasm.specs.Text.{register_name}
use Rattle.vax_disasm_laws.proofs.Words.{Word, word, tokens_at, AreThere}
use Rattle.vax_disasm_laws.proofs.Registers.{IsRegister, register_is}
use Rattle.vax_disasm_laws.proofs.Spoken.{sign, letter, hexadecimal, enclosed_words}

abbrev pub narrow_of : ℕ → Narrow
narrow_of width = if width == 1 then narrow.B else (if width == 2 then narrow.W else narrow.L)

-- a signed number of 32 bits
abbrev pub signed_value : ℕ → ℤ
signed_value n = if nat_lt n (2 ^ 31) then pos n else negsuc (2 ^ 32 - n - 1)

abbrev pub place_mode : Place → Mode
place_mode (Deferred n) = mode.Deferred n
place_mode (Decrement n) = mode.Decrement n
place_mode (Increment n) = mode.Increment n
place_mode (IncrementDeferred n) = mode.IncrementDeferred n
place_mode (Absolute addr) = mode.Absolute
place_mode (Displaced width displacement n) = mode.Displaced (Some (narrow_of width)) false n
place_mode (DisplacedDeferred width displacement n) = mode.Displaced (Some (narrow_of width)) true n

-- the value of the expression, where the form has one
pub record HasValue (line : List ℕ) (expression : List Token) (z : ℤ) : Type 0 where
  pub means : (names : Sense) → value_at names (symbols_of line expression) ≡ Ok (value.Absolute z)
  pub no_names : used at_term (symbols_of line expression) ≡ []

abbrev pub PlaceValue : List ℕ → List Token → Place → Type 0
PlaceValue line expression (Deferred n) = Unit {0}
PlaceValue line expression (Decrement n) = Unit {0}
PlaceValue line expression (Increment n) = Unit {0}
PlaceValue line expression (IncrementDeferred n) = Unit {0}
PlaceValue line expression (Absolute addr) = HasValue line expression (pos addr)
PlaceValue line expression (Displaced width displacement n) = HasValue line expression (signed_value displacement)
PlaceValue line expression (DisplacedDeferred width displacement n) = HasValue line expression (signed_value displacement)

pub record PlaceReads (line : List ℕ) (tokens : List Token) (p : Place) : Type 0 where
  pub expression : List Token
  pub is : unindexed line tokens ≡ record { mode = place_mode p; expression = expression }
  pub no_index : enclosed_last line 91 93 tokens ≡ None
  pub means : PlaceValue line expression p

-- numbers

pub small_signed : (n : ℕ) → n < 2 ^ 63 → cast_signed w64 n ≡ pos n
small_signed n h = omega (arith, ints)

pub high_signed : (n : ℕ) → 2 ^ 63 ≤ n → n < 2 ^ 64 → cast_signed w64 n ≡ negsuc (2 ^ 64 - suc n)
high_signed n h t = let past : nat_lt n (2 ^ 63) ≡ false = grind (arith, nat_tests) in rw past refl

minus_signed : (n : ℕ) → 0 < n → n < 2 ^ 63 → int_wrapping_neg w64 (pos n) ≡ negsuc (n - 1)
minus_signed n some h =
    let low : (2 ^ 64 - n) % 2 ^ 64 ≡ 2 ^ 64 - n = omega arith in
    let less : 2 ^ 64 - suc (2 ^ 64 - n) ≡ n - 1 = omega arith in
    ap (cast_signed w64) low ∙ high_signed (2 ^ 64 - n) (omega arith) (omega arith) ∙ ap negsuc less

-- a number of 32 bits with its sign is seen whole
low_seen : (n : ℕ) → n < 2 ^ 31 → longword (pos n) ≡ pos n
low_seen n h = omega (arith, ints)

high_long : (m : ℕ) → 2 ^ 31 ≤ m → cast_signed w32 m ≡ negsuc (2 ^ 32 - suc m)
high_long m h = let past : nat_lt m (2 ^ 31) ≡ false = grind (arith, nat_tests) in rw past refl

minus_seen : (n : ℕ) → 0 < n → n ≤ 2 ^ 31 → longword (negsuc (n - 1)) ≡ negsuc (n - 1)
minus_seen n some h =
    let low : (2 ^ 64 - suc (n - 1)) % 4294967296 ≡ 2 ^ 32 - n = omega arith in
    let less : 2 ^ 32 - suc (2 ^ 32 - n) ≡ n - 1 = omega arith in
    ap (cast_signed w32) low ∙ high_long (2 ^ 32 - n) (omega arith) ∙ ap negsuc less

long_minus : (n : ℕ) → 0 < n → n ≤ 2 ^ 31 → longword (int_wrapping_neg w64 (longword (pos n))) ≡ negsuc (n - 1)
long_minus n some h = elim (cases_Bool (nat_lt n (2 ^ 31))) [
  | inl t ↦
      let low : n < 2 ^ 31 = grind (arith, nat_tests) in
      ap (λ (z : ℤ). longword (int_wrapping_neg w64 z)) (low_seen n low) ∙ ap longword (minus_signed n some (omega arith)) ∙ minus_seen n some h
  | inr f ↦
      let same : n ≡ 2 ^ 31 = grind (arith, nat_tests) in
      rw same refl
]

minus_fitted : (d : Dialect) (n : ℕ) → 0 < n → n ≤ 2 ^ 31 → fitted_number d (int_wrapping_neg w64 (fitted_number d (pos n))) ≡ negsuc (n - 1)
minus_fitted Vax n some h = minus_signed n some (omega arith)
minus_fitted Vms n some h = long_minus n some h

number_value : (names : Sense) (n : ℕ) → value_at names (symbols.number n ∷ []) ≡ Ok (value.Absolute (cast_signed w64 n))
unfolding value_at term_in joined_in
number_value names n = refl

minus_value : (names : Sense) (n : ℕ) → value_at names (symbols.mark 45 ∷ symbols.number n ∷ []) ≡ Ok (value.Absolute (fitted_number names.dialect (int_wrapping_neg w64 (fitted_number names.dialect (cast_signed w64 n)))))
unfolding value_at term_in joined_in
minus_value names n = refl

pub positive : (line : List ℕ) (at n : ℕ) (text : List ℕ) → n < 2 ^ 63 → HasValue line (tokens_at at (word (Number n) text ∷ [])) (pos n)
positive line at n text h = record { means = λ names. number_value names n ∙ ap (λ (z : ℤ). Ok (value.Absolute z)) (small_signed n h); no_names = refl }

-- a number of 64 bits, as it is written without a sign
pub unsigned : (line : List ℕ) (at n : ℕ) (text : List ℕ) → HasValue line (tokens_at at (word (Number n) text ∷ [])) (cast_signed w64 n)
unsigned line at n text = record { means = λ names. number_value names n; no_names = refl }

pub negative : (line : List ℕ) (at n : ℕ) (text : List ℕ) → 0 < n → n ≤ 2 ^ 31 → HasValue line (tokens_at at (sign 45 ∷ word (Number n) text ∷ [])) (negsuc (n - 1))
negative line at n text some h = record {
  means = λ names.
      minus_value names n
      ∙ ap (λ (z : ℤ). Ok (value.Absolute (fitted_number names.dialect (int_wrapping_neg w64 (fitted_number names.dialect z))))) (small_signed n (omega arith))
      ∙ ap (λ (z : ℤ). Ok (value.Absolute z)) (minus_fitted names.dialect n some h);
  no_names = refl;
}

-- places without a number

pub named : (n : ℕ) → n < 16 → register_of (register_name n) ≡ Some n
named n h = let is : IsRegister (register_name n) n = register_is n h in is.number

pub deferred_reads : (line : List ℕ) (at n : ℕ) → n < 16 → AreThere line at (enclosed_words n []) → PlaceReads line (tokens_at at (enclosed_words n [])) (Deferred n)
unfolding unindexed direct_form register_form
deferred_reads line at n h there = record { expression = []; is = let t = there.1.0 in rw (t, named n h) refl; no_index = refl; means = tt }

pub decrement_reads : (line : List ℕ) (at n : ℕ) → n < 16 → AreThere line at (sign 45 ∷ enclosed_words n []) → PlaceReads line (tokens_at at (sign 45 ∷ enclosed_words n [])) (Decrement n)
unfolding unindexed direct_form register_form
decrement_reads line at n h there = record { expression = []; is = let t = there.1.1.0 in rw (t, named n h) refl; no_index = refl; means = tt }

pub increment_reads : (line : List ℕ) (at n : ℕ) → n < 16 → AreThere line at (enclosed_words n (sign 43 ∷ [])) → PlaceReads line (tokens_at at (enclosed_words n (sign 43 ∷ []))) (Increment n)
unfolding unindexed direct_form register_form
increment_reads line at n h there = record { expression = []; is = let t = there.1.0 in rw (t, named n h) refl; no_index = refl; means = tt }

pub increment_deferred_reads : (line : List ℕ) (at n : ℕ) → n < 16 → AreThere line at (sign 64 ∷ enclosed_words n (sign 43 ∷ [])) → PlaceReads line (tokens_at at (sign 64 ∷ enclosed_words n (sign 43 ∷ []))) (IncrementDeferred n)
unfolding unindexed deferred_form
increment_deferred_reads line at n h there = record { expression = []; is = let t = there.1.1.0 in rw (t, named n h) refl; no_index = refl; means = tt }

pub absolute_reads : (line : List ℕ) (at addr : ℕ) → addr < 2 ^ 32 → PlaceReads line (tokens_at at (sign 64 ∷ sign 35 ∷ hexadecimal 8 addr ∷ [])) (Absolute addr)
unfolding unindexed deferred_form
absolute_reads line at addr h = record { expression = tokens_at (at + 1 + 1) (hexadecimal 8 addr ∷ []); is = refl; no_index = refl; means = positive line (at + 1 + 1) addr (94 ∷ 88 ∷ hex 8 addr) (omega arith) }

-- displacements

abbrev pub letter_for : Narrow → ℕ
letter_for narrow.B = 66
letter_for narrow.W = 87
letter_for narrow.L = 76

module _ (line : List ℕ) (at n k : ℕ) (digits : List ℕ) (h : n < 16) where
  abbrev pub plain_words : ℕ → List Word
  plain_words c = letter c ∷ sign 94 ∷ word (Number k) digits ∷ enclosed_words n []

  abbrev pub minus_words : ℕ → List Word
  minus_words c = letter c ∷ sign 94 ∷ sign 45 ∷ word (Number k) digits ∷ enclosed_words n []

  pub plain_direct : (size : Narrow) → AreThere line at (plain_words (letter_for size)) → unindexed line (tokens_at at (plain_words (letter_for size))) ≡ record { mode = mode.Displaced (Some size) false n; expression = tokens_at (at + 1 + 1) (word (Number k) digits ∷ []) }
  unfolding unindexed direct_form register_form
  plain_direct narrow.B there = let t = there.0 in let r = there.1.1.1.1.0 in rw (t, r, named n h) refl
  plain_direct narrow.W there = let t = there.0 in let r = there.1.1.1.1.0 in rw (t, r, named n h) refl
  plain_direct narrow.L there = let t = there.0 in let r = there.1.1.1.1.0 in rw (t, r, named n h) refl

  pub minus_direct : (size : Narrow) → AreThere line at (minus_words (letter_for size)) → unindexed line (tokens_at at (minus_words (letter_for size))) ≡ record { mode = mode.Displaced (Some size) false n; expression = tokens_at (at + 1 + 1) (sign 45 ∷ word (Number k) digits ∷ []) }
  unfolding unindexed direct_form register_form
  minus_direct narrow.B there = let t = there.0 in let r = there.1.1.1.1.1.0 in rw (t, r, named n h) refl
  minus_direct narrow.W there = let t = there.0 in let r = there.1.1.1.1.1.0 in rw (t, r, named n h) refl
  minus_direct narrow.L there = let t = there.0 in let r = there.1.1.1.1.1.0 in rw (t, r, named n h) refl

  pub plain_deferred : (size : Narrow) → AreThere line at (sign 64 ∷ plain_words (letter_for size)) → unindexed line (tokens_at at (sign 64 ∷ plain_words (letter_for size))) ≡ record { mode = mode.Displaced (Some size) true n; expression = tokens_at (at + 1 + 1 + 1) (word (Number k) digits ∷ []) }
  unfolding unindexed deferred_form
  plain_deferred narrow.B there = let t = there.1.0 in let r = there.1.1.1.1.1.0 in rw (t, r, named n h) refl
  plain_deferred narrow.W there = let t = there.1.0 in let r = there.1.1.1.1.1.0 in rw (t, r, named n h) refl
  plain_deferred narrow.L there = let t = there.1.0 in let r = there.1.1.1.1.1.0 in rw (t, r, named n h) refl

  pub minus_deferred : (size : Narrow) → AreThere line at (sign 64 ∷ minus_words (letter_for size)) → unindexed line (tokens_at at (sign 64 ∷ minus_words (letter_for size))) ≡ record { mode = mode.Displaced (Some size) true n; expression = tokens_at (at + 1 + 1 + 1) (sign 45 ∷ word (Number k) digits ∷ []) }
  unfolding unindexed deferred_form
  minus_deferred narrow.B there = let t = there.1.0 in let r = there.1.1.1.1.1.1.0 in rw (t, r, named n h) refl
  minus_deferred narrow.W there = let t = there.1.0 in let r = there.1.1.1.1.1.1.0 in rw (t, r, named n h) refl
  minus_deferred narrow.L there = let t = there.1.0 in let r = there.1.1.1.1.1.1.0 in rw (t, r, named n h) refl

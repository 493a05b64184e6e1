-- Operands, read from their words.
use Rattle.std.proofs.Common.{◌≡◌, ℕ, ◌+◌, ◌-◌, ◌<◌, ◌≤◌, ◌^◌, Bool, true, false, List, [], ◌∷◌, ◌++◌, length, take, drop, Some, None, refl, ap, arith, length-append}
use Rattle.std.specs.Prelude.{decimal, ◌==◌, nat_lt, if◌then◌else◌}
use Rattle.std.proofs.Math.Seq.{take-append_seam, drop-append_seam}
use Rattle.std.proofs.lemmas.Bool.Decides.{nat_tests}
use Rattle.vax_isa.specs.declared.actions.Narrow.TheVariants as narrow
use Rattle.vax_lex.specs.declared.token.Token.{Token}
use Rattle.vax_flat.specs.Grammar.{Place, Deferred, Decrement, Increment, IncrementDeferred, Absolute, Displaced, DisplacedDeferred}
use Rattle.vax_flat.specs.Form.{IsDisplacement}
use Rattle.vax_asm_statement.specs.Modes.{enclosed_last, operand_of}
use Rattle.vax_disasm_laws.proofs.Words.{Word, tokens_at, AreThere}
use Rattle.vax_disasm_laws.proofs.Spoken.{sign, register, letter, number, enclosed_words, signed_words, letter_of, displaced_words, place_words}
use Rattle.vax_disasm_laws.proofs.Scanned.{PlaceFits}
use Rattle.vax_disasm_laws.proofs.Moded.{narrow_of, place_mode, PlaceReads, deferred_reads, decrement_reads, increment_reads, increment_deferred_reads, absolute_reads, positive, negative, letter_for, plain_direct, minus_direct, plain_deferred, minus_deferred, named}

-- the widths that a displacement has
abbrev pub WidthFits : Place → Type 0
WidthFits (Deferred n) = Unit {0}
WidthFits (Decrement n) = Unit {0}
WidthFits (Increment n) = Unit {0}
WidthFits (IncrementDeferred n) = Unit {0}
WidthFits (Absolute addr) = Unit {0}
WidthFits (Displaced width displacement n) = IsDisplacement width
WidthFits (DisplacedDeferred width displacement n) = IsDisplacement width

letter_is : (width : ℕ) → letter_of width ≡ letter_for (narrow_of width)
letter_is width = elim (width == 1) as (λ b. (if b then 66 else (if width == 2 then 87 else 76)) ≡ letter_for (if b then narrow.B else (if width == 2 then narrow.W else narrow.L))) [
  | true ↦ refl
  | false ↦ elim (width == 2) as (λ b. (if b then 87 else 76) ≡ letter_for (if b then narrow.W else narrow.L)) [ true ↦ refl | false ↦ refl ]
]

direct_reads : (line : List ℕ) (at width displacement n : ℕ) (low : Bool) → nat_lt displacement (2 ^ 31) ≡ low → displacement < 2 ^ 32 → n < 16 → AreThere line at (displaced_words width displacement n [])
    → PlaceReads line (tokens_at at (displaced_words width displacement n [])) (Displaced width displacement n)
direct_reads line at width displacement n true e d h =
    rw (letter_is width, e) (λ there. record { expression = tokens_at (at + 1 + 1) (number displacement ∷ []); is = plain_direct line at n displacement (decimal displacement) h (narrow_of width) there; no_index = refl; means = rw e (positive line (at + 1 + 1) displacement (decimal displacement) (omega arith)) })
direct_reads line at width displacement n false e d h =
    let much : 2 ^ 31 ≤ displacement = grind (arith, nat_tests) in
    rw (letter_is width, e) (λ there. record { expression = tokens_at (at + 1 + 1) (sign 45 ∷ number (2 ^ 32 - displacement) ∷ []); is = minus_direct line at n (2 ^ 32 - displacement) (decimal (2 ^ 32 - displacement)) h (narrow_of width) there; no_index = refl; means = rw e (negative line (at + 1 + 1) (2 ^ 32 - displacement) (decimal (2 ^ 32 - displacement)) (omega (arith, d)) (omega (arith, much))) })

deferral_reads : (line : List ℕ) (at width displacement n : ℕ) (low : Bool) → nat_lt displacement (2 ^ 31) ≡ low → displacement < 2 ^ 32 → n < 16 → AreThere line at (sign 64 ∷ displaced_words width displacement n [])
    → PlaceReads line (tokens_at at (sign 64 ∷ displaced_words width displacement n [])) (DisplacedDeferred width displacement n)
deferral_reads line at width displacement n true e d h =
    rw (letter_is width, e) (λ there. record { expression = tokens_at (at + 1 + 1 + 1) (number displacement ∷ []); is = plain_deferred line at n displacement (decimal displacement) h (narrow_of width) there; no_index = refl; means = rw e (positive line (at + 1 + 1 + 1) displacement (decimal displacement) (omega arith)) })
deferral_reads line at width displacement n false e d h =
    let much : 2 ^ 31 ≤ displacement = grind (arith, nat_tests) in
    rw (letter_is width, e) (λ there. record { expression = tokens_at (at + 1 + 1 + 1) (sign 45 ∷ number (2 ^ 32 - displacement) ∷ []); is = minus_deferred line at n (2 ^ 32 - displacement) (decimal (2 ^ 32 - displacement)) h (narrow_of width) there; no_index = refl; means = rw e (negative line (at + 1 + 1 + 1) (2 ^ 32 - displacement) (decimal (2 ^ 32 - displacement)) (omega (arith, d)) (omega (arith, much))) })

pub place_reads : (line : List ℕ) (at : ℕ) (p : Place) → PlaceFits p → AreThere line at (place_words p []) → PlaceReads line (tokens_at at (place_words p [])) p
place_reads line at (Deferred n) h there = deferred_reads line at n h there
place_reads line at (Decrement n) h there = decrement_reads line at n h there
place_reads line at (Increment n) h there = increment_reads line at n h there
place_reads line at (IncrementDeferred n) h there = increment_deferred_reads line at n h there
place_reads line at (Absolute addr) h there = absolute_reads line at addr h
place_reads line at (Displaced width displacement n) h there = direct_reads line at width displacement n (nat_lt displacement (2 ^ 31)) refl h.0 h.1 there
place_reads line at (DisplacedDeferred width displacement n) h there = deferral_reads line at width displacement n (nat_lt displacement (2 ^ 31)) refl h.0 h.1 there

-- without an index
pub in_memory : (line : List ℕ) (tokens : List Token) (p : Place) (r : PlaceReads line tokens p) → operand_of line tokens ≡ record { mode = place_mode p; expression = r.expression; index = None }
unfolding operand_of
in_memory line tokens p r = rw (r.no_index, r.is) refl

-- with one
signed_apart : (d n : ℕ) (words : List Word) (low : Bool) → nat_lt d (2 ^ 31) ≡ low → signed_words d (enclosed_words n words) ≡ signed_words d (enclosed_words n []) ++ words
signed_apart d n words true e = rw e refl
signed_apart d n words false e = rw e refl

pub place_apart : (p : Place) (words : List Word) → place_words p words ≡ place_words p [] ++ words
place_apart (Deferred n) words = refl
place_apart (Decrement n) words = refl
place_apart (Increment n) words = refl
place_apart (IncrementDeferred n) words = refl
place_apart (Absolute addr) words = refl
place_apart (Displaced width displacement n) words = ap (λ (ws : List Word). letter (letter_of width) ∷ sign 94 ∷ ws) (signed_apart displacement n words (nat_lt displacement (2 ^ 31)) refl)
place_apart (DisplacedDeferred width displacement n) words = ap (λ (ws : List Word). sign 64 ∷ letter (letter_of width) ∷ sign 94 ∷ ws) (signed_apart displacement n words (nat_lt displacement (2 ^ 31)) refl)

abbrev pub index_words : ℕ → List Word
index_words x = sign 91 ∷ register x ∷ sign 93 ∷ []

index_last : (line : List ℕ) (base more : List Token) → length more ≡ 3 → drop (length (base ++ more) - 3) (base ++ more) ≡ more
index_last line base more h =
    let count : length (base ++ more) - 3 ≡ length base = omega (arith, length-append base more) in
    rw count (drop-append_seam base more)

base_first : (base more : List Token) → length more ≡ 3 → take (length (base ++ more) - 3) (base ++ more) ≡ base
base_first base more h =
    let count : length (base ++ more) - 3 ≡ length base = omega (arith, length-append base more) in
    rw count (take-append_seam base more)

pub indexed : (line : List ℕ) (at x : ℕ) (base : List Token) (p : Place) (r : PlaceReads line base p) → x < 16 → AreThere line at (index_words x)
    → operand_of line (base ++ tokens_at at (index_words x)) ≡ record { mode = place_mode p; expression = r.expression; index = Some x }
unfolding operand_of
indexed line at x base p r h there =
    let t = there.1.0 in
    let last : enclosed_last line 91 93 (base ++ tokens_at at (index_words x)) ≡ Some x = rw (index_last line base (tokens_at at (index_words x)) refl) (rw (t, named x h) refl) in
    let first = base_first base (tokens_at at (index_words x)) refl in
    rw (last, first, r.is) refl

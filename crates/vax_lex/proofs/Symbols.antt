-- What stands at a place of the tokens, as symbols.
use Rattle.std.proofs.Common.{◌≡◌, ◌≢◌, ◌<◌, ◌≤◌, ℕ, zero, suc, ◌+◌, Bool, true, false, List, [], ◌∷◌, length, drop, Option, Some, None, refl, ap, arith, ◌∙◌, sym, subst}
use Rattle.std.specs.Prelude.{slice_get, All}
use Rattle.std.specs.Bool.{MatchBool}
use Rattle.std.proofs.lemmas.List.{length-map}
use Rattle.std.proofs.lemmas.Bool.Decides.{nat_tests}
use Rattle.vax_lex.specs.Statements.{is_mark}
use Rattle.vax_lex.specs.Tokens.{token_text, IsTokenOf, KindFits}
use Rattle.vax_lex.specs.Characters.{canonical_name}
use Rattle.vax_lex.specs.Grammar.{Symbol, number, name, mark, symbol, symbol_of, symbols_of, is_that_mark, operator_in, operator_of, operator_of_mark, operator_mark}
use Rattle.vax_lex.specs.Reading.{NotOperator}
use Rattle.vax_lex.specs.Values.{Operation, addition, subtraction, multiplication, division, arithmetic_shift, logical_and, inclusive_or, exclusive_or}
use Rattle.vax_lex.specs.declared.token.Token.{Token}
use Rattle.vax_lex.specs.declared.token.TokenKind.{TokenKind}
use Rattle.vax_lex.specs.declared.token.TokenKind.TheVariants.{Name, Number, Mark, Text}

-- a token, and what follows
pub record Stands (line : List ℕ) (tokens : List Token) (at : ℕ) (s : Symbol) : Type 0 where
  pub room : at < length tokens
  pub is : drop at (symbols_of line tokens) ≡ s ∷ drop (at + 1) (symbols_of line tokens)

pub length-symbols : (line : List ℕ) (tokens : List Token) → length (symbols_of line tokens) ≡ length tokens
length-symbols line tokens = length-map tokens (symbol_of line)

pub token_stands : (line : List ℕ) (tokens : List Token) (at : ℕ) (t : Token) → slice_get tokens at ≡ Some t → Stands line tokens at (symbol_of line t)
token_stands line [] at t e = absurd cc
token_stands line (u ∷ tokens) zero t e = let same : u ≡ t = cc in record { room = omega arith; is = ap (λ (v : Token). symbol_of line v ∷ symbols_of line tokens) same }
token_stands line (u ∷ tokens) (suc at) t e =
    let further = token_stands line tokens at t e in
    let next : suc at + 1 ≡ suc (at + 1) = omega arith in
    record { room = omega (arith, further.room); is = rw next further.is }

pub nothing_stands : (line : List ℕ) (tokens : List Token) (at : ℕ) → slice_get tokens at ≡ None → drop at (symbols_of line tokens) ≡ []
nothing_stands line [] zero e = refl
nothing_stands line [] (suc at) e = refl
nothing_stands line (u ∷ tokens) zero e = absurd cc
nothing_stands line (u ∷ tokens) (suc at) e = nothing_stands line tokens at e

mark_symbol : (kind : TokenKind) (text : List ℕ) (m : ℕ) → is_mark m kind ≡ true → symbol kind text ≡ mark m
mark_symbol (Mark b) text m e = let same : b ≡ m = grind (arith, nat_tests) in ap mark same
mark_symbol Name text m e = absurd cc
mark_symbol (Number n) text m e = absurd cc
mark_symbol Text text m e = absurd cc

pub mark_stands : (line : List ℕ) (tokens : List Token) (at m : ℕ) → is_that_mark m (slice_get tokens at) ≡ true → Stands line tokens at (mark m)
mark_stands line tokens at m e = by_token (slice_get tokens at) refl e
  where
    by_token : (o : Option Token) → slice_get tokens at ≡ o → is_that_mark m o ≡ true → Stands line tokens at (mark m)
    by_token None f g = absurd cc
    by_token (Some t) f g =
        let there = token_stands line tokens at t f in
        record { room = there.room; is = there.is ∙ ap (λ (s : Symbol). s ∷ drop (at + 1) (symbols_of line tokens)) (mark_symbol t.kind (token_text line t) m g) }

other_symbol : (kind : TokenKind) (text : List ℕ) (m : ℕ) → is_mark m kind ≡ false → symbol kind text ≢ mark m
other_symbol (Mark b) text m e f = let same : b ≡ m = cc in absurd (grind (arith, nat_tests))
other_symbol Name text m e f = cc
other_symbol (Number n) text m e f = cc
other_symbol Text text m e f = cc

pub no_mark : (line : List ℕ) (tokens : List Token) (at m : ℕ) → is_that_mark m (slice_get tokens at) ≡ false → (rest : List Symbol) → drop at (symbols_of line tokens) ≡ mark m ∷ rest → ⊥
no_mark line tokens at m e rest i = by_token (slice_get tokens at) refl e
  where
    by_token : (o : Option Token) → slice_get tokens at ≡ o → is_that_mark m o ≡ false → ⊥
    by_token None f g = let nothing : drop at (symbols_of line tokens) ≡ [] = nothing_stands line tokens at f in cc
    by_token (Some t) f g =
        let there = token_stands line tokens at t f in
        let is : drop at (symbols_of line tokens) ≡ symbol_of line t ∷ drop (at + 1) (symbols_of line tokens) = there.is in
        let same : symbol_of line t ≡ mark m = cc in
        other_symbol t.kind (token_text line t) m g same

-- a token of the list is one of the line's
pub token_within : (line : List ℕ) (tokens : List Token) (at : ℕ) (t : Token) → All (IsTokenOf line) tokens → slice_get tokens at ≡ Some t → IsTokenOf line t
token_within line [] at t f e = absurd cc
token_within line (u ∷ tokens) zero t f e = let same : u ≡ t = cc in let P : Token → Type 0 = λ v. IsTokenOf line v in subst P same (f 0 u (omega arith))
token_within line (u ∷ tokens) (suc at) t f e = token_within line tokens at t (λ k d h. f (suc k) d (omega arith)) e

pub name_fits : (line : List ℕ) (t : Token) → IsTokenOf line t → t.kind ≡ Name → length (canonical_name (token_text line t)) ≤ 31
name_fits line t w k = let P : TokenKind → Type 0 = λ kind. KindFits kind (token_text line t) in subst P k w.kind

pub text_fits : (line : List ℕ) (t : Token) → IsTokenOf line t → t.kind ≡ Text → 2 ≤ length (token_text line t)
text_fits line t w k = let P : TokenKind → Type 0 = λ kind. KindFits kind (token_text line t) in subst P k w.kind

-- an operator between terms
pub mark_operator : (m : ℕ) (operator : Operation) → operator_of_mark m ≡ Some operator → m ≡ operator_mark operator
mark_operator m addition e = grind (arith, nat_tests)
mark_operator m subtraction e = grind (arith, nat_tests)
mark_operator m multiplication e = grind (arith, nat_tests)
mark_operator m division e = grind (arith, nat_tests)
mark_operator m arithmetic_shift e = grind (arith, nat_tests)
mark_operator m logical_and e = grind (arith, nat_tests)
mark_operator m inclusive_or e = grind (arith, nat_tests)
mark_operator m exclusive_or e = grind (arith, nat_tests)

operator_symbol : (kind : TokenKind) (text : List ℕ) (operator : Operation) → operator_of kind ≡ Some operator → symbol kind text ≡ mark (operator_mark operator)
operator_symbol (Mark m) text operator e = ap mark (mark_operator m operator e)
operator_symbol Name text operator e = absurd cc
operator_symbol (Number n) text operator e = absurd cc
operator_symbol Text text operator e = absurd cc

pub operator_stands : (line : List ℕ) (tokens : List Token) (at : ℕ) (operator : Operation) → operator_in (slice_get tokens at) ≡ Some operator → Stands line tokens at (mark (operator_mark operator))
operator_stands line tokens at operator e = by_token (slice_get tokens at) refl e
  where
    by_token : (o : Option Token) → slice_get tokens at ≡ o → operator_in o ≡ Some operator → Stands line tokens at (mark (operator_mark operator))
    by_token None f g = absurd cc
    by_token (Some t) f g =
        let there = token_stands line tokens at t f in
        record { room = there.room; is = there.is ∙ ap (λ (s : Symbol). s ∷ drop (at + 1) (symbols_of line tokens)) (operator_symbol t.kind (token_text line t) operator g) }

-- each operator's mark is its own
pub operator_known : (operator : Operation) → operator_of_mark (operator_mark operator) ≡ Some operator
operator_known addition = refl
operator_known subtraction = refl
operator_known multiplication = refl
operator_known division = refl
operator_known arithmetic_shift = refl
operator_known logical_and = refl
operator_known inclusive_or = refl
operator_known exclusive_or = refl

no_operator_symbol : (kind : TokenKind) (text : List ℕ) (operator : Operation) → operator_of kind ≡ None → symbol kind text ≢ mark (operator_mark operator)
no_operator_symbol (Mark m) text operator e f =
    let same : m ≡ operator_mark operator = cc in
    let known : operator_of_mark m ≡ Some operator = ap operator_of_mark same ∙ operator_known operator in
    some_none (sym known ∙ e)
  where
    some_none : Some operator ≡ None → ⊥
    some_none i = cc
no_operator_symbol Name text operator e f = cc
no_operator_symbol (Number n) text operator e f = cc
no_operator_symbol Text text operator e f = cc

pub no_operator : (line : List ℕ) (tokens : List Token) (at : ℕ) → operator_in (slice_get tokens at) ≡ None → NotOperator (drop at (symbols_of line tokens))
no_operator line tokens at e operator rest i = by_token (slice_get tokens at) refl e
  where
    by_token : (o : Option Token) → slice_get tokens at ≡ o → operator_in o ≡ None → ⊥
    by_token None f g = let nothing : drop at (symbols_of line tokens) ≡ [] = nothing_stands line tokens at f in cc
    by_token (Some t) f g =
        let is : drop at (symbols_of line tokens) ≡ symbol_of line t ∷ drop (at + 1) (symbols_of line tokens) = (token_stands line tokens at t f).is in
        let same : symbol_of line t ≡ mark (operator_mark operator) = cc in
        no_operator_symbol t.kind (token_text line t) operator g same

-- a token of a known kind
pub kind_mark : (line : List ℕ) (tokens : List Token) (at m n : ℕ) → is_that_mark m (slice_get tokens at) ≡ true → m ≡ n → Stands line tokens at (mark n)
kind_mark line tokens at m n e i = mark_stands line tokens at n (ap (λ (k : ℕ). is_that_mark k (slice_get tokens at)) (sym i) ∙ e)

pub number_stands : (line : List ℕ) (tokens : List Token) (at : ℕ) (t : Token) (n : ℕ) → slice_get tokens at ≡ Some t → t.kind ≡ Number n → Stands line tokens at (number n)
number_stands line tokens at t n e k =
    let there = token_stands line tokens at t e in
    record { room = there.room; is = there.is ∙ ap (λ (kind : TokenKind). symbol kind (token_text line t) ∷ drop (at + 1) (symbols_of line tokens)) k }

-- the same name
pub spelled_stands : (line : List ℕ) (tokens : List Token) (at : ℕ) (s word : List ℕ) → Stands line tokens at (name s) → s ≡ word → Stands line tokens at (name word)
spelled_stands line tokens at s word a e = record { room = a.room; is = a.is ∙ ap (λ (w : List ℕ). name w ∷ drop (at + 1) (symbols_of line tokens)) e }

pub word_yes : (b : Bool) (s word : List ℕ) → MatchBool b (s ≡ word) (s ≢ word) → b ≡ true → s ≡ word
word_yes true s word m e = m
word_yes false s word m e = absurd cc

pub word_no : (b : Bool) (s word : List ℕ) → MatchBool b (s ≡ word) (s ≢ word) → b ≡ false → s ≢ word
word_no true s word m e = absurd cc
word_no false s word m e = m

-- Divisions by 0.
use Rattle.std.proofs.Common.{◌≡◌, ◌<◌, ◌≤◌, ◌+◌, ℕ, zero, suc, Bool, true, false, List, [], ◌∷◌, length, drop, Option, Some, None, Result, refl, ap, arith, ◌∙◌, sym, subst}
use Rattle.std.specs.Prelude.{◌&&◌, ◌||◌, slice_get}
use Rattle.std.proofs.lemmas.List.{drop_all}
use Rattle.vax_lex.specs.Certain.{is_zero, is_division, zero_term, begins_with_zero, divides_by_zero, certain_by, certain_at}
use Rattle.vax_lex.specs.Expressions.{TermRead, term_in, value_at}
use Rattle.vax_lex.specs.Grammar.{Symbol, Term, symbol, symbols_of, term_then, term_value, is_that_mark}
use Rattle.vax_lex.specs.Reading.{NoTerm, ReadsTerm}
use Rattle.vax_lex.specs.Statements.{is_mark}
use Rattle.vax_lex.specs.Values.{Sense, fitted}
use Rattle.vax_lex.specs.declared.expression.Read.{Read}
use Rattle.vax_lex.specs.declared.token.Token.{Token}
use Rattle.vax_lex.specs.declared.token.TokenKind.{TokenKind}
use Rattle.vax_lex.specs.declared.token.TokenKind.TheVariants.{Name, Number, Mark, Text}
use Rattle.vax_lex.specs.declared.value.Value.{Value}
use Rattle.vax_lex.specs.declared.value.ExprError.{ExprError}
use Rattle.vax_lex.proofs.Reader.{TermIs, term_in_is, term_read}
use Rattle.vax_lex.proofs.Symbols.{length-symbols}

pub term_is : (names : Sense) (symbols rest : List Symbol) (t : Term) (answer : Result Value ExprError) → term_then t rest ≡ symbols → answer ≡ term_value names t
    → is_zero (fitted names.dialect answer) ≡ begins_with_zero names symbols
term_is names symbols rest t answer spells gives =
    let P : List Symbol → Type 0 = λ s. is_zero (fitted names.dialect answer) ≡ begins_with_zero names s in
    subst P spells (ap (λ r. is_zero (fitted names.dialect r)) gives ∙ sym (ap (zero_term names) (term_read (suc (length (term_then t rest))) t rest (omega arith))))

-- what a reader of terms finds
pub term_found : (line : List ℕ) (tokens : List Token) (names : Sense) (at : ℕ) (r : Read) → ReadsTerm names (symbols_of line tokens) at (Some r)
    → is_zero (fitted names.dialect r.answer) ≡ begins_with_zero names (drop at (symbols_of line tokens))
term_found line tokens names at r h =
    let x = h.2 in term_is names (drop at (symbols_of line tokens)) (drop r.end (symbols_of line tokens)) x.term r.answer x.spells x.gives

none_there : (names : Sense) (symbols : List Symbol) (o : Option TermRead) → NoTerm symbols → TermIs symbols o → false ≡ zero_term names o
none_there names symbols None none is = refl
none_there names symbols (Some r) none is = absurd (none r.term r.rest is)

pub no_term_found : (line : List ℕ) (tokens : List Token) (names : Sense) (at : ℕ) → ReadsTerm names (symbols_of line tokens) at None
    → false ≡ begins_with_zero names (drop at (symbols_of line tokens))
no_term_found line tokens names at h =
    let symbols = drop at (symbols_of line tokens) in
    none_there names symbols (term_in (suc (length symbols)) symbols) h (term_in_is (suc (length symbols)) symbols)

division_is : (kind : TokenKind) (text : List ℕ) → is_division (symbol kind text) ≡ is_mark 47 kind
division_is (Mark m) text = refl
division_is (Number n) text = refl
division_is Name text = refl
division_is Text text = refl

-- one token further
pub one_token : (line : List ℕ) (tokens : List Token) (names : Sense) (at : ℕ) → at < length tokens
    → divides_by_zero names (drop at (symbols_of line tokens))
    ≡ ((is_that_mark 47 (slice_get tokens at) && begins_with_zero names (drop (at + 1) (symbols_of line tokens))) || divides_by_zero names (drop (at + 1) (symbols_of line tokens)))
one_token line [] names at h = absurd (omega (arith, h))
one_token line (t ∷ tokens) names zero h =
    ap (λ b. (b && begins_with_zero names (symbols_of line tokens)) || divides_by_zero names (symbols_of line tokens)) (division_is t.kind _)
one_token line (t ∷ tokens) names (suc at) h =
    let next : suc at + 1 ≡ suc (at + 1) = omega arith in rw next (one_token line tokens names at (omega (arith, h)))

passed : (line : List ℕ) (tokens : List Token) (names : Sense) (at : ℕ) (b : Bool) → b ≡ false → at < length tokens
    → b ≡ (is_that_mark 47 (slice_get tokens at) && begins_with_zero names (drop (at + 1) (symbols_of line tokens)))
    → divides_by_zero names (drop at (symbols_of line tokens)) ≡ divides_by_zero names (drop (at + 1) (symbols_of line tokens))
passed line tokens names at b misses h is =
    one_token line tokens names at h ∙ ap (λ c. c || divides_by_zero names (drop (at + 1) (symbols_of line tokens))) (sym is ∙ misses)

pub none_here : (line : List ℕ) (tokens : List Token) (names : Sense) (at : ℕ) (b : Bool) → b ≡ false → at < length tokens
    → b ≡ (is_that_mark 47 (slice_get tokens at) && begins_with_zero names (drop (at + 1) (symbols_of line tokens)))
    → divides_by_zero names (symbols_of line tokens) ≡ divides_by_zero names (drop at (symbols_of line tokens))
    → divides_by_zero names (symbols_of line tokens) ≡ divides_by_zero names (drop (at + 1) (symbols_of line tokens))
none_here line tokens names at b misses h is before = before ∙ passed line tokens names at b misses h is

pub one_here : (line : List ℕ) (tokens : List Token) (names : Sense) (at : ℕ) (b : Bool) → b ≡ true → at < length tokens
    → b ≡ (is_that_mark 47 (slice_get tokens at) && begins_with_zero names (drop (at + 1) (symbols_of line tokens)))
    → divides_by_zero names (symbols_of line tokens) ≡ divides_by_zero names (drop at (symbols_of line tokens)) → true ≡ divides_by_zero names (symbols_of line tokens)
one_here line tokens names at b holds h is before =
    sym (before ∙ one_token line tokens names at h ∙ ap (λ c. c || divides_by_zero names (drop (at + 1) (symbols_of line tokens))) (sym is ∙ holds))

pub none_at_all : (line : List ℕ) (tokens : List Token) (names : Sense) (at : ℕ) → length tokens ≤ at
    → divides_by_zero names (symbols_of line tokens) ≡ divides_by_zero names (drop at (symbols_of line tokens)) → false ≡ divides_by_zero names (symbols_of line tokens)
none_at_all line tokens names at past before =
    sym (before ∙ ap (divides_by_zero names) (drop_all at (symbols_of line tokens) (omega (arith, past, length-symbols line tokens))))

-- the fault by what the symbols evaluate to
pub certain_is : (names : Sense) (symbols : List Symbol) (answer : Result Value ExprError) (b : Bool) → answer ≡ value_at names symbols → b ≡ divides_by_zero names symbols
    → certain_by b answer ≡ certain_at names symbols
unfolding certain_at
certain_is names symbols answer b e d = ap (certain_by b) e ∙ ap (λ c. certain_by c (value_at names symbols)) d

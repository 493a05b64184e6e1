-- What is open before a term, and what it makes of the term (VAX MACRO and Instruction Set Reference Manual, "Terms
-- and expressions").
use Rattle.std.specs.Prelude.{◌≡◌, ℕ, ◌<◌, ◌≤◌, ◌+◌, Bool, true, false, List, [], ◌∷◌, length, drop, reverse, Some, None, Result}
use Rattle.arrayvec.specs.ArrayVec.{ArrayVec}
use Rattle.vax_dialect.specs.declared.Dialect.{Dialect}
use Rattle.vax_lex.specs.Grammar.{Symbol, name, mark, Term, Joined, operator_mark, term_then, joined_then, term_value, joined_value, symbols_of}
use Rattle.vax_lex.specs.Reading.{NotOperator, ReadsTerm}
use Rattle.vax_lex.specs.Values.{Sense, combined, minus_of, complement_of}
use Rattle.vax_lex.specs.Views.{operation_view}
use Rattle.vax_lex.specs.declared.expression.Start.{Start}
use Rattle.vax_lex.specs.declared.expression.Start.TheVariants as starts
use Rattle.vax_lex.specs.declared.expression.Read.{Read}
use Rattle.vax_lex.specs.declared.nesting.Closed.{Closed}
use Rattle.vax_lex.specs.declared.nesting.Closed.TheVariants as ends
use Rattle.vax_lex.specs.declared.nesting.Open.{Open}
use Rattle.vax_lex.specs.declared.nesting.Open.TheVariants.{Plus, Minus, Complement, Bracket, Operator}
use Rattle.vax_lex.specs.declared.token.Token.{Token}
use Rattle.vax_lex.specs.declared.value.Value.{Value}
use Rattle.vax_lex.specs.declared.value.ExprError.{ExprError}

-- the innermost of what is open comes first
abbrev pub innermost_first : ArrayVec Open → List Open
innermost_first opened = reverse opened.items

abbrev pub is_bracket : Open → Bool
is_bracket Plus = false
is_bracket Minus = false
is_bracket Complement = false
is_bracket Bracket = true
is_bracket (Operator left operator) = true

-- The value of a term with the sign before it, or of the terms of a bracket up to this one.
abbrev pub applied : Dialect → Open → Result Value ExprError → Result Value ExprError
applied dialect Plus term = term
applied dialect Minus term = minus_of dialect term
applied dialect Complement term = complement_of dialect term
applied dialect Bracket term = term
applied dialect (Operator left operator) term = combined dialect (operation_view operator) left term

-- a symbol is at a place
abbrev pub Begins : List Symbol → ℕ → Symbol → Type 0
Begins all at s = drop at all ≡ s ∷ drop (at + 1) all

-- An expression of which the terms before `end` have been read. What follows continues it, and nothing else does.
pub record SoFar (names : Sense) (all : List Symbol) (at : ℕ) (answer : Result Value ExprError) (end : ℕ) : Type 0 where
  pub begins : at < end
  pub within : end ≤ length all
  pub continues : (more : Joined) (rest : List Symbol) → joined_then more rest ≡ drop end all
      → (t : Term) × (whole : Joined) × (term_then t (joined_then whole rest) ≡ drop at all) × (joined_value names (term_value names t) whole ≡ joined_value names answer more)
  pub leaves : (t : Term) (whole : Joined) (rest : List Symbol) → NotOperator rest → term_then t (joined_then whole rest) ≡ drop at all
      → (more : Joined) × (joined_then more rest ≡ drop end all)

-- What opens at a place, and the place of the term that it is before.
abbrev pub IsOpen : Sense → List Symbol → ℕ → Open → ℕ → Type 0
IsOpen names all at Plus term = Begins all at (mark 43) × (term ≡ at + 1)
IsOpen names all at Minus term = Begins all at (mark 45) × (term ≡ at + 1)
IsOpen names all at Complement term = Begins all at (mark 94) × Begins all (at + 1) (name (67 ∷ [])) × (term ≡ at + 2)
IsOpen names all at Bracket term = Begins all at (mark 60) × (term ≡ at + 1)
IsOpen names all at (Operator left operator) term =
    Begins all at (mark 60) × (end : ℕ) × SoFar names all (at + 1) left end × Begins all end (mark (operator_mark (operation_view operator))) ×
    (term ≡ end + 1)

-- A term begins at a place with what opens there, or it is this one, or none.
abbrev pub BeginsTerm : Sense → List Symbol → ℕ → Start → Type 0
BeginsTerm names all at (starts.Opens opening term) = IsOpen names all at opening term × (term ≤ length all)
BeginsTerm names all at (starts.Whole read) = ReadsTerm names all at read

-- All that is open in the term at a place before the term at another, the innermost first.
abbrev pub Due : Sense → List Symbol → ℕ → List Open → ℕ → Type 0
Due names all at [] term = term ≡ at
Due names all at (opening ∷ outer) term = (begin : ℕ) × IsOpen names all begin opening term × Due names all at outer begin

-- What is left open, and the next term; the whole term; or none.
abbrev pub ClosedTo : Sense → List Symbol → ℕ → ℕ → List Open → Closed → Type 0
ClosedTo names all at end after (ends.Next term) = (end < term) × (term ≤ length all) × Due names all at after term
ClosedTo names all at end after (ends.Whole read) = ReadsTerm names all at (Some read)
ClosedTo names all at end after ends.Nothing = ReadsTerm names all at None

-- A term has been read before which this was open, whatever the line and the places.
abbrev pub Closes : Sense → List Token → List Open → Read → List Open → Closed → Type 0
Closes names tokens before read after closed =
    (line : List ℕ) (at term : ℕ) → Due names (symbols_of line tokens) at before term → ReadsTerm names (symbols_of line tokens) term (Some read)
    → ClosedTo names (symbols_of line tokens) at read.end after closed

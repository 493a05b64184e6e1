-- Faults that an expression has whatever its names without a value stand for (VAX MACRO and Instruction Set Reference Manual,
-- "Terms and expressions").
use Rattle.std.specs.Prelude.{ℕ, suc, pos, Bool, false, ◌≡◌, ◌≢◌, ◌==◌, ◌&&◌, ◌||◌, if◌then◌else◌, List, [], ◌∷◌, length, Option, Some, None, Result, Ok, Err}
use Rattle.std.specs.Ordering.{int_eq}
use Rattle.vax_lex.specs.Expressions.{TermRead, term_in, value_at}
use Rattle.vax_lex.specs.Grammar.{Symbol, number, name, characters, mark, operator_mark, term_value}
use Rattle.vax_lex.specs.Values.{Sense, division, fitted}
use Rattle.vax_lex.specs.declared.value.Value.{Value}
use Rattle.vax_lex.specs.declared.value.Value.TheVariants.{Absolute, Section, External}
use Rattle.vax_lex.specs.declared.value.ExprError.{ExprError}
use Rattle.vax_lex.specs.declared.value.ExprError.TheVariants.{Form, Unknown, Range}

abbrev pub is_zero : Result Value ExprError → Bool
is_zero (Ok (Absolute x)) = int_eq x (pos 0)
is_zero (Ok (Section s x)) = false
is_zero (Ok (External i x)) = false
is_zero (Err e) = false

abbrev pub is_division : Symbol → Bool
is_division (mark m) = m == operator_mark division
is_division (number n) = false
is_division (name s) = false
is_division (characters text) = false

-- a term whose value is 0, if there is a term
abbrev pub zero_term : Sense → Option TermRead → Bool
zero_term names (Some r) = is_zero (fitted names.dialect (term_value names r.term))
zero_term names None = false

abbrev pub begins_with_zero : Sense → List Symbol → Bool
begins_with_zero names symbols = zero_term names (term_in (suc (length symbols)) symbols)

-- whether behind a `/` among them stands a term whose value is 0
abbrev pub divides_by_zero : Sense → List Symbol → Bool
divides_by_zero names [] = false
divides_by_zero names (s ∷ symbols) = (is_division s && begins_with_zero names symbols) || divides_by_zero names symbols

-- Where names have no value yet, a division by 0 is a fault whatever they stand for.
abbrev pub certain_by : Bool → Result Value ExprError → Option ExprError
certain_by divides (Ok v) = None
certain_by divides (Err Form) = Some Form
certain_by divides (Err Unknown) = if divides then Some Range else None
certain_by divides (Err Range) = Some Range

-- The fault of the expression that these symbols are, if it has one whatever its names without a value stand for.
unfoldable pub certain_at : Sense → List Symbol → Option ExprError
certain_at names symbols = certain_by (divides_by_zero names symbols) (value_at names symbols)

-- the same dialect, and other values of names
abbrev pub with_values : Sense → (List ℕ → Option Value) → Sense
with_values names more = record { dialect = names.dialect; value = more }

-- every value of the one is one of the other
abbrev pub Keeps : (List ℕ → Option Value) → (List ℕ → Option Value) → Type 0
Keeps names more = (s : List ℕ) (v : Value) → names s ≡ Some v → more s ≡ Some v

-- Whatever values more names have, the symbols have none.
abbrev pub HasNone : Sense → List Symbol → Type 0
HasNone names symbols = (more : List ℕ → Option Value) → Keeps names.value more → (v : Value) → value_at (with_values names more) symbols ≢ Ok v

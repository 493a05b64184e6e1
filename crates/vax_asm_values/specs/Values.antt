-- What definitions are worth while they are read (VAX MACRO and Instruction Set Reference Manual, "Direct assignment
-- statement" and "Terms and expressions").
use Rattle.std.specs.Prelude.{ℕ, ◌<◌, All, zero, suc, Bool, true, false, ◌&&◌, nat_lt, if◌then◌else◌, List, [], ◌∷◌, length, slice_index_or, slice_set, Option, Some, None, Result}
use Rattle.std.specs.Result.{result_ok}
use Rattle.std.specs.Str.{bytes_eq}
use Rattle.vax_lex.specs.Grammar.{Symbol}
use Rattle.vax_dialect.specs.declared.Dialect.{Dialect}
use Rattle.vax_lex.specs.Expressions.{value_at}
use Rattle.vax_lex.specs.declared.value.Value.{Value}
use Rattle.vax_lex.specs.declared.value.ExprError.{ExprError}

-- a name in an expression, and the number of the definition that it means there
pub record Meaning : Type 0 where
  pub name : List ℕ
  pub definition : ℕ

-- An expression of a dialect: its symbols, and what the names in it mean.
pub record Written : Type 0 where
  pub dialect : Dialect
  pub symbols : List Symbol
  pub names : List Meaning

-- A definition, by its number in a list: one that is to come, a value, or an expression.
pub data Source : Type 0 where
  ToCome : Source
  Given : Value → Source
  Worked : Written → Source

-- the values of names under values of definitions
abbrev pub named : (ℕ → Option Value) → List Meaning → List ℕ → Option Value
named values [] name = None
named values (m ∷ names) name = if bytes_eq m.name name then values m.definition else named values names name

-- the value of symbols in a dialect under values of names
unfoldable pub value_in : Dialect → (List ℕ → Option Value) → List Symbol → Result Value ExprError
value_in dialect names symbols = value_at (record { dialect = dialect; value = names }) symbols

-- the value of an expression under values of definitions
abbrev pub worth : (ℕ → Option Value) → Written → Result Value ExprError
worth values w = value_in w.dialect (named values w.names) w.symbols

abbrev pub source_at : List Source → ℕ → Source
source_at sources i = slice_index_or sources i ToCome

-- what a definition is worth under values of definitions
abbrev pub value_under : (ℕ → Option Value) → Source → Option Value
value_under values ToCome = None
value_under values (Given v) = Some v
value_under values (Worked w) = result_ok (worth values w)

-- The values that are known after so many rounds: in each, every definition has the value that it is worth by the round
-- before.
unfoldable pub known_after : ℕ → List Source → ℕ → Option Value
known_after zero sources i = None
known_after (suc n) sources i = value_under (known_after n sources) (source_at sources i)

-- A definition has a value where so many rounds as there are definitions give it one. More rounds give no more, and a
-- definition that rests on itself never has one.
unfoldable pub value_of : List Source → ℕ → Option Value
value_of sources i = known_after (length sources) sources i

-- the names in its expression mean definitions of so many
abbrev pub Means : ℕ → Source → Type 0
Means definitions ToCome = Unit {0}
Means definitions (Given v) = Unit {0}
Means definitions (Worked w) = All (λ m. m.definition < definitions) w.names

abbrev pub expression_in : Source → Option Written
expression_in ToCome = None
expression_in (Given v) = None
expression_in (Worked w) = Some w

abbrev pub is_to_come : Source → Bool
is_to_come ToCome = true
is_to_come (Given v) = false
is_to_come (Worked w) = false

-- A definition that was to come is there. One that is there already stays.
abbrev pub with_source : ℕ → Source → List Source → List Source
with_source i s sources = if nat_lt i (length sources) && is_to_come (source_at sources i) then slice_set sources i s else sources

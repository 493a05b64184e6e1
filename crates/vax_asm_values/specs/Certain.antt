-- Faults that an expression has whatever the definitions in it are worth that have no value yet.
use Rattle.std.specs.Prelude.{ℕ, List, Option}
use Rattle.vax_dialect.specs.declared.Dialect.{Dialect}
use Rattle.vax_lex.specs.Grammar.{Symbol}
use Rattle.vax_lex.specs.Certain.{certain_at}
use Rattle.vax_lex.specs.declared.value.Value.{Value}
use Rattle.vax_lex.specs.declared.value.ExprError.{ExprError}
use Rattle.vax_asm_values.specs.Values.{Written, named}

-- the same of symbols in a dialect under values of names
unfoldable pub certain_in : Dialect → (List ℕ → Option Value) → List Symbol → Option ExprError
certain_in dialect names symbols = certain_at (record { dialect = dialect; value = names }) symbols

abbrev pub certain : (ℕ → Option Value) → Written → Option ExprError
certain values w = certain_in w.dialect (named values w.names) w.symbols

-- What names are worth where a statement stands, by what stands before it (VAX MACRO and Instruction Set Reference Manual,
-- "Terms and expressions").
use Rattle.std.specs.Prelude.{ℕ, if◌then◌else◌, List, Option, Some, None, option_map, codes}
use Rattle.std.specs.Str.{bytes_eq}
use Rattle.vax_dialect.specs.declared.Dialect.{Dialect}
use Rattle.vax_lex.specs.Values.{Sense}
use Rattle.vax_lex.specs.declared.value.Value.{Value}
use Rattle.vax_asm_names.specs.Names as table
use Rattle.vax_asm_scope.specs.Scope.{Scope, is_local}
use Rattle.vax_asm_values.specs.Values.{value_of}

-- the value of a definition, if there is one and it has one
abbrev pub known_definition : Scope → Option ℕ → Option Value
known_definition s (Some d) = value_of s.sources d
known_definition s None = None

-- `.` is the place of the statement, a local label has the value of its definition in the block, and every other name
-- that of its last definition so far.
abbrev pub known : Value → Scope → List ℕ → Option Value
known here s text =
    if bytes_eq text (codes ".") then Some here
    else (if is_local text then known_definition s (option_map (λ l. l.definition) (table.locals_of s.names text))
    else known_definition s (option_map (λ i. (table.name_at s.names.all i).definition) (s.names.numbers text)))

-- what conditions and counts in a dialect are read by
unfoldable pub known_here : Dialect → Value → Scope → Sense
known_here dialect here s = record { dialect = dialect; value = known here s }

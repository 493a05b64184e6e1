-- What the code's types mean.
use Rattle.std.specs.Prelude.{ℕ, List, map}
use Rattle.vax_lex.specs.Grammar.{symbols_of}
use Rattle.vax_asm_values.specs.Values as specs
use Rattle.vax_asm_values.specs.declared.types.Meaning.{Meaning}
use Rattle.vax_asm_values.specs.declared.types.Expression.{Expression}
use Rattle.vax_asm_values.specs.declared.types.Source.{Source}
use Rattle.vax_asm_values.specs.declared.types.Source.TheVariants.{ToCome, Given, Worked}
use Rattle.std.specs.Global.{Vec}

abbrev pub meaning_of : Meaning → specs.Meaning
meaning_of m = record { name = m.name.items; definition = m.definition }

abbrev pub written_of : Expression → specs.Written
written_of e = record { dialect = e.dialect; symbols = symbols_of e.text.value.items e.tokens.items; names = map meaning_of e.names.items }

abbrev pub source_of : Source → specs.Source
source_of ToCome = specs.ToCome
source_of (Given v) = specs.Given v
source_of (Worked e) = specs.Worked (written_of e)

abbrev pub sources_in : Vec Source → List specs.Source
sources_in v = map source_of v.items

abbrev pub lists_in : Vec (Vec ℕ) → List (List ℕ)
lists_in v = map (λ w. w.items) v.items

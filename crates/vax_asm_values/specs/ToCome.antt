-- Expressions that name definitions that are still to come.
use Rattle.std.specs.Prelude.{Bool, List}
use Rattle.std.specs.List.{list_any}
use Rattle.vax_asm_values.specs.Values.{Written, Source, source_at, is_to_come}

-- whether a name of an expression means a definition that is still to come
abbrev pub names_to_come : List Source → Written → Bool
names_to_come sources w = list_any (λ m. is_to_come (source_at sources m.definition)) w.names

use Rattle.std.proofs.Common.{◌≡◌}
use Rattle.vax_asm_values.specs.ToCome.{names_to_come}
use Rattle.vax_asm_values.specs.View.{sources_in, written_of}
use Rattle.vax_asm_values.proofs.Open.{any_from}
use Rattle.vax_asm_values.proofs.types.Board.names_to_come.Given as goal

abbrev pub invariant-loop-meaning : goal.invariant-loop-meaning
invariant-loop-meaning l = any_from (sources_in l.self.sources) l.expression.names.items l.meaning-index ≡ names_to_come (sources_in l.self.sources) (written_of l.expression)

use Rattle.std.proofs.lemmas.List.{map-set}
use Rattle.vax_asm_values.specs.View.{source_of}
use Rattle.vax_asm_values.specs.declared.types.Source.TheVariants.{ToCome}
use Rattle.vax_asm_values.proofs.types.Board.undo.Goals as goal

pub returns-then-number-len-clause-sources : goal.returns-then-number-len-clause-sources
returns-then-number-len-clause-sources c = rw c.in-Defined.is (map-set source_of c.args.self.now.sources.items c.in-Defined.number ToCome)

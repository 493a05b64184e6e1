use Rattle.std.proofs.Common.{refl, arith}
use Rattle.vax_undo.specs.Plain.{view_of}
use Rattle.vax_vector_memory.proofs.Filling.{cleared}
use Rattle.vax_vector_memory.proofs.fill.clear_page.Goals as goal

pub returns-in-Ok-clause-cleared : goal.returns-in-Ok-clause-cleared
returns-in-Ok-clause-cleared c = cleared c.args.page _ _ (view_of c.args.memory.now) (view_of c.show.new.self) (view_of c.write_run.new.self) refl (omega arith) c.show.ensures c.in-Ok.ensures.answer c.in-Ok.ensures.stored

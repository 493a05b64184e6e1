use Rattle.std.proofs.Common.{rules, sym, ◌∙◌}
use Rattle.vax_undo.specs.Plain.{view_of}
use Rattle.vax_vector_memory.proofs.Filling.{cell_past, cell_put, kept_by}
use Rattle.vax_vector_memory.proofs.fill.put_cell.Goals as goal

pub returns-in-Ok-clause-bytes : goal.returns-in-Ok-clause-bytes
returns-in-Ok-clause-bytes c = λ ram have.
    cell_put c.args.pages.now ram c.args.cell (view_of c.args.memory.now) (view_of c.write.new.self) c.from.result _ _ _ (search rules) c.from.ensures c.in-Ok.ensures.answer c.in-Ok.ensures.stored have

pub returns-else-has_number-clause-bytes : goal.returns-else-has_number-clause-bytes
returns-else-has_number-clause-bytes c = λ ram have.
    cell_past c.args.pages.now ram c.args.cell (view_of c.args.memory.now) (view_of c.write.new.self) (sym c.has_number.ensures ∙ c.if-has_number.false) (kept_by _ _ _ _ _ _ c.in-Err.ensures.answer c.in-Err.ensures.stored) have

use Rattle.std.proofs.Common.{sym, ◌∙◌}
use Rattle.vax_asm_statement.proofs.Tables.{attribute_skipped, attribute_met}
use Rattle.vax_asm_statement.proofs.directives.found_attribute.Goals as goal

pub loop-entry-preserved : goal.loop-entry-preserved
loop-entry-preserved c = c.loop-entry.invariant ∙ attribute_skipped c.args.all.now c.loop-entry.entry-index _ c.args.name.now c.loop-entry-test.true (sym c.is_called.ensures ∙ c.if-is_called.false)

pub returns-then-is_called : goal.returns-then-is_called
returns-then-is_called c = sym (c.loop-entry.invariant ∙ attribute_met c.args.all.now c.loop-entry.entry-index _ c.args.name.now c.loop-entry-test.true (sym c.is_called.ensures ∙ c.if-is_called.true))

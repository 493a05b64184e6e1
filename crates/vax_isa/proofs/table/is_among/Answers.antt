use Rattle.std.proofs.Common.{sym, ◌∙◌}
use Rattle.vax_isa.proofs.Lists.{text_skipped, text_met}
use Rattle.vax_isa.proofs.table.is_among.Goals as goal

pub loop-alias-preserved : goal.loop-alias-preserved
loop-alias-preserved c = c.loop-alias.invariant ∙ text_skipped c.args.aliases.now c.loop-alias.alias-index _ c.args.name.now c.loop-alias-test.true (sym c.is_called.ensures ∙ c.if-is_called.false)

pub returns-then-is_called : goal.returns-then-is_called
returns-then-is_called c = sym (c.loop-alias.invariant ∙ text_met c.args.aliases.now c.loop-alias.alias-index _ c.args.name.now c.loop-alias-test.true (sym c.is_called.ensures ∙ c.if-is_called.true))

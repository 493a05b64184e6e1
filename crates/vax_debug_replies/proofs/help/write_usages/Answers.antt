use Rattle.std.proofs.Common.{arith}
use Rattle.vax_outside.proofs.Growth.{prefix_next, on_err}
use Rattle.vax_outside.specs.declared.traits.Chan.TheVariants.{Report}
use Rattle.vax_debug_replies.specs.Help.{usage_if}
use Rattle.vax_debug_replies.proofs.help.write_usages.Goals as goal

pub returns-in_err-write_if_meant-clause-prefix : goal.returns-in_err-write_if_meant-clause-prefix
returns-in_err-write_if_meant-clause-prefix g c =
    on_err c.from_residual.result (prefix_next _ _ _ Report (usage_if c.args.refusal c.args.line.now) c.args.among.now c.loop-command.command-index _ (omega arith) c.loop-command.invariant.grew c.in_err-write_if_meant.ensures.prefix)

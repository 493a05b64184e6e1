use Rattle.std.proofs.Common.{arith}
use Rattle.vax_outside.proofs.Growth.{prefix_next, on_err}
use Rattle.vax_outside.specs.declared.traits.Chan.TheVariants.{Report}
use Rattle.vax_debug_replies.specs.Help.{usage_line}
use Rattle.vax_debug_replies.proofs.help.write_all_usages.Goals as goal

pub returns-in_err-write_usage-clause-prefix : goal.returns-in_err-write_usage-clause-prefix
returns-in_err-write_usage-clause-prefix g c =
    on_err c.from_residual.result (prefix_next _ _ _ Report (usage_line) c.args.commands.now c.loop-command.command-index _ (omega arith) c.loop-command.invariant.grew c.in_err-write_usage.ensures.prefix)

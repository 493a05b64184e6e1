use Rattle.std.proofs.Common.{arith}
use Rattle.vax_outside.proofs.Growth.{prefix_next, on_err}
use Rattle.vax_outside.specs.declared.traits.Chan.TheVariants.{Report}
use Rattle.vax_debug_replies.specs.Stops.{break_line}
use Rattle.vax_debug_replies.proofs.help.write_each_break.Goals as goal

pub returns-in_err-write_break-clause-prefix : goal.returns-in_err-write_break-clause-prefix
returns-in_err-write_break-clause-prefix g c =
    on_err c.from_residual.result (prefix_next _ _ _ Report (break_line c.args.legend.now) c.args.breaks.now c.loop-address.address-index _ (omega arith) c.loop-address.invariant.grew c.in_err-write_break.ensures.prefix)

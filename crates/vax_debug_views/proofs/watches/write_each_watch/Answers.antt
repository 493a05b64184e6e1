use Rattle.std.proofs.Common.{arith}
use Rattle.vax_outside.proofs.Growth.{prefix_next, on_err}
use Rattle.vax_outside.specs.declared.traits.Chan.TheVariants.{Report}
use Rattle.vax_debug_views.specs.Watches.{watch_shown}
use Rattle.vax_debug_views.proofs.watches.write_each_watch.Goals as goal

pub returns-in_err-write_watch-clause-prefix : goal.returns-in_err-write_watch-clause-prefix
returns-in_err-write_watch-clause-prefix g c =
    on_err c.from_residual.result (prefix_next _ _ _ Report (watch_shown c.args.legend.now) c.args.watches.now c.loop-watch.watch-index _ (omega arith) c.loop-watch.invariant.grew c.in_err-write_watch.ensures.prefix)

use Rattle.std.proofs.Common.{◌++◌, ◌∷◌, [], ℕ, List, subst}
use Rattle.std.specs.Prelude.{OnErr, codes}
use Rattle.vax_outside.specs.Channels.{GrewByPrefix, only}
use Rattle.vax_outside.specs.declared.traits.Chan.TheVariants.{Report}
use Rattle.vax_outside.proofs.Growth.{on_err, report_first}
use Rattle.vax_debug_replies.specs.Stops.{change_line}
use Rattle.vax_debug_replies.specs.Values.{head, value}
use Rattle.vax_debug_replies.proofs.Telling.{err_last, grouped_behind}
use Rattle.vax_debug_replies.proofs.watches.write_change.Goals as goal

pub returns-in_err-write_head-clause-prefix : goal.returns-in_err-write_head-clause-prefix
unfolding change_line
returns-in_err-write_head-clause-prefix g c =
    subst (λ (t : List ℕ). OnErr c.from_residual.result (GrewByPrefix (g.K.Sink.contents c.args.sink.now) (g.K.Sink.contents c.write_head.new.sink) (only Report t)))
    (grouped_behind (codes "WATCH " ++ head c.args.legend.now c.args.address) (value c.args.before.now) (codes " -> ") (value c.args.after.now) (10 ∷ []))
    (on_err c.from_residual.result (report_first (g.K.Sink.contents c.args.sink.now) (g.K.Sink.contents c.write_head.new.sink) (codes "WATCH " ++ head c.args.legend.now c.args.address) (value c.args.before.now ++ codes " -> " ++ value c.args.after.now ++ 10 ∷ []) c.in_err-write_head.ensures.prefix))

pub returns-clause-prefix : goal.returns-clause-prefix
unfolding change_line
returns-clause-prefix g c =
    subst (λ (t : List ℕ). OnErr c.write_values.result (GrewByPrefix (g.K.Sink.contents c.args.sink.now) (g.K.Sink.contents c.write_values.new.sink) (only Report t)))
    (grouped_behind (codes "WATCH " ++ head c.args.legend.now c.args.address) (value c.args.before.now) (codes " -> ") (value c.args.after.now) (10 ∷ []))
    (err_last c.write_values.result (g.K.Sink.contents c.args.sink.now) (g.K.Sink.contents c.write_head.new.sink) (g.K.Sink.contents c.write_values.new.sink) (codes "WATCH " ++ head c.args.legend.now c.args.address) (value c.args.before.now ++ codes " -> " ++ value c.args.after.now ++ 10 ∷ []) c.in_ok-write_head.ensures.ok c.write_values.ensures.prefix)

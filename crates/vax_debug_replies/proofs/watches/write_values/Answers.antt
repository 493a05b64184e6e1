use Rattle.std.proofs.Common.{◌++◌, ◌∷◌, [], ℕ, List, subst}
use Rattle.std.specs.Prelude.{OnErr, codes}
use Rattle.vax_outside.specs.Channels.{GrewByPrefix, only}
use Rattle.vax_outside.specs.declared.traits.Chan.TheVariants.{Report}
use Rattle.vax_outside.proofs.Growth.{on_err, report_first}
use Rattle.vax_debug_replies.specs.Values.{value}
use Rattle.vax_debug_replies.proofs.Telling.{err_last, grouped}
use Rattle.vax_debug_replies.proofs.watches.write_values.Goals as goal

pub returns-in_err-write_value-clause-prefix : goal.returns-in_err-write_value-clause-prefix
returns-in_err-write_value-clause-prefix g c =
    subst (λ (t : List ℕ). OnErr c.from_residual.result (GrewByPrefix (g.K.Sink.contents c.args.sink.now) (g.K.Sink.contents c.write_value.new.sink) (only Report t)))
    (grouped (value c.args.before.now) (codes " -> ") (value c.args.after.now) (10 ∷ []))
    (on_err c.from_residual.result (report_first (g.K.Sink.contents c.args.sink.now) (g.K.Sink.contents c.write_value.new.sink) (value c.args.before.now) (codes " -> " ++ value c.args.after.now ++ 10 ∷ []) c.in_err-write_value.ensures.prefix))

pub returns-clause-prefix : goal.returns-clause-prefix
returns-clause-prefix g c =
    subst (λ (t : List ℕ). OnErr c.write_after.result (GrewByPrefix (g.K.Sink.contents c.args.sink.now) (g.K.Sink.contents c.write_after.new.sink) (only Report t)))
    (grouped (value c.args.before.now) (codes " -> ") (value c.args.after.now) (10 ∷ []))
    (err_last c.write_after.result (g.K.Sink.contents c.args.sink.now) (g.K.Sink.contents c.write_value.new.sink) (g.K.Sink.contents c.write_after.new.sink) (value c.args.before.now) (codes " -> " ++ value c.args.after.now ++ 10 ∷ []) c.in_ok-write_value.ensures.ok c.write_after.ensures.prefix)

use Rattle.std.proofs.Common.{◌++◌, ◌∷◌, [], List, ℕ, OnErr, subst}
use Rattle.vax_outside.specs.Channels.{GrewByPrefix, only}
use Rattle.vax_outside.specs.declared.traits.Chan.TheVariants.{Report}
use Rattle.vax_outside.proofs.Growth.{on_err, report_first}
use Rattle.vax_debug_replies.proofs.Telling.{err_last}
use Rattle.vax_debug_replies.proofs.help.write_usage.Goals as goal

pub returns-in_err-put_all-clause-prefix : goal.returns-in_err-put_all-clause-prefix
returns-in_err-put_all-clause-prefix g c =
    let first = report_first (g.K.Sink.contents c.args.sink.now) (g.K.Sink.contents c.put_all.new.sink) c.usage.result.now (10 ∷ []) c.in_err-put_all.ensures.prefix in
    on_err c.from_residual.result (subst (λ (z : List ℕ). GrewByPrefix (g.K.Sink.contents c.args.sink.now) (g.K.Sink.contents c.put_all.new.sink) (only Report (z ++ 10 ∷ []))) c.usage.ensures first)

pub returns-clause-prefix : goal.returns-clause-prefix
returns-clause-prefix g c =
    subst (λ (z : List ℕ). OnErr c.put_all-2.result (GrewByPrefix (g.K.Sink.contents c.args.sink.now) (g.K.Sink.contents c.put_all-2.new.sink) (only Report (z ++ 10 ∷ [])))) c.usage.ensures
    (err_last c.put_all-2.result (g.K.Sink.contents c.args.sink.now) (g.K.Sink.contents c.put_all.new.sink) (g.K.Sink.contents c.put_all-2.new.sink) c.usage.result.now (10 ∷ []) c.in_ok-put_all.ensures.ok c.put_all-2.ensures.prefix)

use Rattle.std.proofs.Common.{◌++◌, List, ℕ, OnErr, OnOk, subst}
use Rattle.vax_outside.specs.Channels.{Grew, GrewByPrefix, only}
use Rattle.vax_outside.specs.declared.traits.Chan.TheVariants.{Report}
use Rattle.vax_outside.proofs.Growth.{on_err, report_first}
use Rattle.vax_debug_words.specs.Commands.{commands}
use Rattle.vax_debug_replies.specs.Help.{refused, usages}
use Rattle.vax_debug_replies.proofs.Telling.{err_last, ok_last}
use Rattle.vax_debug_replies.proofs.help.write_refusal.Goals as goal

pub returns-in_err-put_all-clause-prefix : goal.returns-in_err-put_all-clause-prefix
unfolding refused
returns-in_err-put_all-clause-prefix g c =
    let first = report_first (g.K.Sink.contents c.args.sink.now) (g.K.Sink.contents c.put_all.new.sink) c.refusal_line.result.now (usages c.args.refusal c.args.line.now commands) c.in_err-put_all.ensures.prefix in
    on_err c.from_residual.result (subst (λ (z : List ℕ). GrewByPrefix (g.K.Sink.contents c.args.sink.now) (g.K.Sink.contents c.put_all.new.sink) (only Report (z ++ usages c.args.refusal c.args.line.now commands))) c.refusal_line.ensures first)

pub returns-clause-prefix : goal.returns-clause-prefix
unfolding refused commands
returns-clause-prefix g c =
    subst (λ (z : List ℕ). OnErr c.write_usages.result (GrewByPrefix (g.K.Sink.contents c.args.sink.now) (g.K.Sink.contents c.write_usages.new.sink) (only Report (z ++ usages c.args.refusal c.args.line.now commands)))) c.refusal_line.ensures
    (err_last c.write_usages.result (g.K.Sink.contents c.args.sink.now) (g.K.Sink.contents c.put_all.new.sink) (g.K.Sink.contents c.write_usages.new.sink) c.refusal_line.result.now (usages c.args.refusal c.args.line.now commands) c.in_ok-put_all.ensures.ok c.write_usages.ensures.prefix)

pub returns-clause-ok : goal.returns-clause-ok
unfolding refused commands
returns-clause-ok g c =
    subst (λ (z : List ℕ). OnOk c.write_usages.result (Grew (g.K.Sink.contents c.args.sink.now) (g.K.Sink.contents c.write_usages.new.sink) (only Report (z ++ usages c.args.refusal c.args.line.now commands)))) c.refusal_line.ensures
    (ok_last c.write_usages.result (g.K.Sink.contents c.args.sink.now) (g.K.Sink.contents c.put_all.new.sink) (g.K.Sink.contents c.write_usages.new.sink) c.refusal_line.result.now (usages c.args.refusal c.args.line.now commands) c.in_ok-put_all.ensures.ok c.write_usages.ensures.ok)

use Rattle.std.proofs.Common.{◌++◌, ◌∷◌, []}
use Rattle.std.specs.Prelude.{codes}
use Rattle.vax_outside.proofs.Growth.{on_err, report_first}
use Rattle.vax_debug_replies.specs.Values.{value}
use Rattle.vax_debug_replies.proofs.Telling.{err_last}
use Rattle.vax_debug_replies.proofs.watches.write_after.Goals as goal

pub returns-in_err-put_all-clause-prefix : goal.returns-in_err-put_all-clause-prefix
returns-in_err-put_all-clause-prefix g c =
    on_err c.from_residual.result (report_first (g.K.Sink.contents c.args.sink.now) (g.K.Sink.contents c.put_all.new.sink) (codes " -> ") (value c.args.cells.now ++ 10 ∷ []) c.in_err-put_all.ensures.prefix)

pub returns-clause-prefix : goal.returns-clause-prefix
returns-clause-prefix g c =
    err_last c.write_last.result (g.K.Sink.contents c.args.sink.now) (g.K.Sink.contents c.put_all.new.sink) (g.K.Sink.contents c.write_last.new.sink) (codes " -> ") (value c.args.cells.now ++ 10 ∷ []) c.in_ok-put_all.ensures.ok c.write_last.ensures.prefix

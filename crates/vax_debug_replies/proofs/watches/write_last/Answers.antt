use Rattle.std.proofs.Common.{◌∷◌, []}
use Rattle.vax_outside.proofs.Growth.{on_err, report_first}
use Rattle.vax_debug_replies.specs.Values.{value}
use Rattle.vax_debug_replies.proofs.Telling.{err_last}
use Rattle.vax_debug_replies.proofs.watches.write_last.Goals as goal

pub returns-in_err-write_value-clause-prefix : goal.returns-in_err-write_value-clause-prefix
returns-in_err-write_value-clause-prefix g c =
    on_err c.from_residual.result (report_first (g.K.Sink.contents c.args.sink.now) (g.K.Sink.contents c.write_value.new.sink) (value c.args.cells.now) (10 ∷ []) c.in_err-write_value.ensures.prefix)

pub returns-clause-prefix : goal.returns-clause-prefix
returns-clause-prefix g c =
    err_last c.put_all.result (g.K.Sink.contents c.args.sink.now) (g.K.Sink.contents c.write_value.new.sink) (g.K.Sink.contents c.put_all.new.sink) (value c.args.cells.now) (10 ∷ []) c.in_ok-write_value.ensures.ok c.put_all.ensures.prefix

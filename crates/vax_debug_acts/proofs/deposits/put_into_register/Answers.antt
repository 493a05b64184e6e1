use Rattle.std.proofs.Common.{◌≡◌, ◌∙◌, ap}
use Rattle.vax_machine.specs.Meaning.{engine}
use Rattle.vax_console.specs.Ends.{scene}
use Rattle.vax_machine.specs.Console.{with_register}
use Rattle.vax_console.specs.Transcript.{with_machine}
use Rattle.vax_debug_acts.specs.Acts.{done_line, put_line}
use Rattle.vax_debug_acts.proofs.Telling.{done, reply_counts, reply_only, tells, tells_as}
use Rattle.vax_debug_acts.proofs.deposits.put_into_register.Goals as goal

pub returns-clause-acts : goal.returns-clause-acts
returns-clause-acts g c = λ limits o s replies here.
    let sink = g.K.Sink.contents c.args.sink.now in
    let w = scene (engine c.deposit_register-put.new.machine) (g.F.PageFile.contents c.args.file.now) (g.K.Sink.contents c.reply_with.new.sink) in
    let d = c.deposit_register-put.ensures sink o s replies here in
    let t = with_machine (with_register c.args.register c.args.value s.machine) s in
    let is : c.put_line.result.now ≡ done_line = c.put_line.ensures ∙ ap put_line d.0 in
    done c.reply_with.result limits.turns 0 o s t replies done_line w
    (tells_as c.reply_with.result o t replies c.put_line.result.now done_line w is
    (tells c.reply_with.result (g.K.Sink.faults c.args.sink.now) (g.K.Sink.faults c.reply_with.new.sink) o t replies c.put_line.result.now (engine c.deposit_register-put.new.machine) (g.F.PageFile.contents c.args.file.now) sink (g.K.Sink.contents c.reply_with.new.sink) d.1 c.reply_with.ensures))

pub returns-clause-counts : goal.returns-clause-counts
returns-clause-counts g c = reply_counts c.reply_with.result (g.F.PageFile.faults c.args.file.now) (g.K.Sink.faults c.args.sink.now) (g.K.Sink.faults c.reply_with.new.sink) (g.K.Sink.contents c.args.sink.now) (g.K.Sink.contents c.reply_with.new.sink) c.put_line.result.now c.reply_with.ensures

pub returns-clause-only : goal.returns-clause-only
returns-clause-only g c = reply_only _ _ _ _ _ _ c.reply_with.ensures

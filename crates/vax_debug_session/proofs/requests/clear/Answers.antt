use Rattle.vax_machine.specs.Meaning.{engine}
use Rattle.vax_console.specs.Ends.{scene}
use Rattle.vax_debug_acts.specs.Acts.{done_line}
use Rattle.vax_debug_acts.proofs.Telling.{done, ok_if, reply_counts, reply_only, tells}
use Rattle.vax_debug_session.proofs.Asking.{cleared_as, cleared_left}
use Rattle.vax_debug_session.proofs.requests.clear.Goals as goal

pub returns-in-Some-clause-acts : goal.returns-in-Some-clause-acts
returns-in-Some-clause-acts g c =
    cleared_as (scene (engine c.args.machine.now) (g.F.PageFile.contents c.args.file.now) (g.K.Sink.contents c.args.sink.now)) (scene (engine c.clear_at.new.machine) (g.F.PageFile.contents c.clear_at.new.file) (g.K.Sink.contents c.clear_at.new.sink)) c.clear_at.result c.args.setting.now.limits.now c.args.setting.now.legend.now _ _ c.in-Some.is c.clear_at.ensures.acts

pub returns-in-Some-clause-breaks : goal.returns-in-Some-clause-breaks
returns-in-Some-clause-breaks g c =
    cleared_left (scene (engine c.args.machine.now) (g.F.PageFile.contents c.args.file.now) (g.K.Sink.contents c.args.sink.now)) c.clear_at.result c.clear_at.new.plan c.args.setting.now.legend.now c.args.breaks.now _ _ c.in-Some.is c.clear_at.ensures.breaks

pub returns-in-None-clause-acts : goal.returns-in-None-clause-acts
returns-in-None-clause-acts g c =
    cleared_as (scene (engine c.args.machine.now) (g.F.PageFile.contents c.args.file.now) (g.K.Sink.contents c.args.sink.now)) (scene (engine c.args.machine.now) (g.F.PageFile.contents c.args.file.now) (g.K.Sink.contents c.clear_all.new.sink)) c.clear_all.result c.args.setting.now.limits.now c.args.setting.now.legend.now _ _ c.in-None.is
    (λ o s replies here. done c.clear_all.result c.args.setting.now.limits.now.turns 0 o s s replies done_line (scene (engine c.args.machine.now) (g.F.PageFile.contents c.args.file.now) (g.K.Sink.contents c.clear_all.new.sink)) (tells c.clear_all.result (g.K.Sink.faults c.args.sink.now) (g.K.Sink.faults c.clear_all.new.sink) o s replies done_line (engine c.args.machine.now) (g.F.PageFile.contents c.args.file.now) (g.K.Sink.contents c.args.sink.now) (g.K.Sink.contents c.clear_all.new.sink) here c.clear_all.ensures.replies))

pub returns-in-None-clause-breaks : goal.returns-in-None-clause-breaks
returns-in-None-clause-breaks g c =
    cleared_left (scene (engine c.args.machine.now) (g.F.PageFile.contents c.args.file.now) (g.K.Sink.contents c.args.sink.now)) c.clear_all.result c.clear_all.new.plan c.args.setting.now.legend.now c.args.breaks.now _ _ c.in-None.is (λ o s replies here. ok_if c.clear_all.result c.clear_all.ensures.breaks)

pub returns-in-None-clause-counts : goal.returns-in-None-clause-counts
returns-in-None-clause-counts g c =
    reply_counts c.clear_all.result (g.F.PageFile.faults c.args.file.now) (g.K.Sink.faults c.args.sink.now) (g.K.Sink.faults c.clear_all.new.sink) (g.K.Sink.contents c.args.sink.now) (g.K.Sink.contents c.clear_all.new.sink) done_line c.clear_all.ensures.replies

pub returns-in-None-clause-only : goal.returns-in-None-clause-only
returns-in-None-clause-only g c = reply_only _ _ _ _ _ _ c.clear_all.ensures.replies

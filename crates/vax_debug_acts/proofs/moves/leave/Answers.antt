use Rattle.std.proofs.Common.{◌≡◌, refl}
use Rattle.std.specs.Prelude.{Some, None}
use Rattle.vax_machine.specs.Meaning.{engine}
use Rattle.vax_console.specs.Ends.{scene}
use Rattle.vax_debug_acts.proofs.Telling.{counts_then, not_done, reply_counts, reply_only, tells}
use Rattle.vax_debug.specs.Calls.{frame_goal}
use Rattle.vax_debug_acts.specs.Acts.{no_frame_line, out_act}
use Rattle.vax_debug_acts.proofs.Stopping.{with_frame, without_frame}
use Rattle.vax_console.proofs.Only.{only_none}
use Rattle.vax_debug_acts.proofs.moves.leave.Goals as goal

pub returns-in-Ok-Some-clause-acts : goal.returns-in-Ok-Some-clause-acts
returns-in-Ok-Some-clause-acts g c = λ o s replies here.
    let limit = c.args.setting.now.limits.now.steps in
    let turns = c.args.setting.now.limits.now.turns in
    let sink = g.K.Sink.contents c.args.sink.now in
    let here2 = c.frame_goal.ensures.stays sink o s replies here in
    let w = scene (engine c.go_to.new.machine) (g.F.PageFile.contents c.go_to.new.file) (g.K.Sink.contents c.go_to.new.sink) in
    let is : Some c.in-Ok-Some.goal ≡ frame_goal s.machine = (rw c.in-Ok-Some.field-0-is at c.in-Ok-Some.ensures.tells) sink o s replies here in
    with_frame c.go_to.result turns limit c.args.setting.now.legend.now c.args.plan.now c.in-Ok-Some.goal (frame_goal s.machine) o s replies w is (c.go_to.ensures.acts o s replies here2)

pub returns-in-Ok-None-clause-acts : goal.returns-in-Ok-None-clause-acts
returns-in-Ok-None-clause-acts g c = λ o s replies here.
    let limit = c.args.setting.now.limits.now.steps in
    let turns = c.args.setting.now.limits.now.turns in
    let sink = g.K.Sink.contents c.args.sink.now in
    let here2 = c.frame_goal.ensures.stays sink o s replies here in
    let w = scene (engine c.frame_goal.new.machine) (g.F.PageFile.contents c.frame_goal.new.file) (g.K.Sink.contents c.tell_no_frame.new.sink) in
    let is : None ≡ frame_goal s.machine = (rw c.in-Ok-None.field-0-is at c.in-Ok-None.ensures.tells) sink o s replies here in
    without_frame c.tell_no_frame.result turns limit c.args.setting.now.legend.now c.args.plan.now (frame_goal s.machine) o s replies w is
    (tells c.tell_no_frame.result (g.K.Sink.faults c.args.sink.now) (g.K.Sink.faults c.tell_no_frame.new.sink) o s replies no_frame_line (engine c.frame_goal.new.machine) (g.F.PageFile.contents c.frame_goal.new.file) sink (g.K.Sink.contents c.tell_no_frame.new.sink) here2 c.tell_no_frame.ensures)

pub returns-in-Err-clause-acts : goal.returns-in-Err-clause-acts
returns-in-Err-clause-acts g c = λ o s replies here.
    let limit = c.args.setting.now.limits.now.steps in
    let turns = c.args.setting.now.limits.now.turns in
    let sink = g.K.Sink.contents c.args.sink.now in
    let here2 = c.frame_goal.ensures.stays sink o s replies here in
    not_done turns (out_act limit c.args.setting.now.legend.now c.args.plan.now s) o s replies (scene (engine c.frame_goal.new.machine) (g.F.PageFile.contents c.frame_goal.new.file) (g.K.Sink.contents c.args.sink.now)) here2

pub returns-in-Ok-Some-clause-counts : goal.returns-in-Ok-Some-clause-counts
returns-in-Ok-Some-clause-counts g c = counts_then c.go_to.result (g.F.PageFile.faults c.args.file.now) (g.F.PageFile.faults c.frame_goal.new.file) (g.F.PageFile.faults c.go_to.new.file) (g.K.Sink.faults c.args.sink.now) (g.K.Sink.faults c.args.sink.now) (g.K.Sink.faults c.go_to.new.sink) c.in-Ok-Some.ensures.counts.quiet refl c.go_to.ensures.counts

pub returns-in-Ok-None-clause-counts : goal.returns-in-Ok-None-clause-counts
returns-in-Ok-None-clause-counts g c = counts_then c.tell_no_frame.result (g.F.PageFile.faults c.args.file.now) (g.F.PageFile.faults c.frame_goal.new.file) (g.F.PageFile.faults c.frame_goal.new.file) (g.K.Sink.faults c.args.sink.now) (g.K.Sink.faults c.args.sink.now) (g.K.Sink.faults c.tell_no_frame.new.sink) c.in-Ok-None.ensures.counts.quiet refl (reply_counts c.tell_no_frame.result (g.F.PageFile.faults c.frame_goal.new.file) (g.K.Sink.faults c.args.sink.now) (g.K.Sink.faults c.tell_no_frame.new.sink) (g.K.Sink.contents c.args.sink.now) (g.K.Sink.contents c.tell_no_frame.new.sink) no_frame_line c.tell_no_frame.ensures)

pub returns-in-Err-clause-counts : goal.returns-in-Err-clause-counts
returns-in-Err-clause-counts g c = (c.in-Err.ensures.counts.later, c.in-Err.ensures.counts.cause, refl)

pub returns-in-Ok-None-clause-only : goal.returns-in-Ok-None-clause-only
returns-in-Ok-None-clause-only g c = reply_only _ _ _ _ _ _ c.tell_no_frame.ensures

pub returns-in-Err-clause-only : goal.returns-in-Err-clause-only
returns-in-Err-clause-only g c = only_none _

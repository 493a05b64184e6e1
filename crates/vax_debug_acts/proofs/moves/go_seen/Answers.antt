use Rattle.vax_machine.specs.Meaning.{engine}
use Rattle.vax_console.specs.Ends.{scene}
use Rattle.vax_console.specs.Transcript.{left}
use Rattle.vax_debug_acts.proofs.Telling.{counts_then, cut_off, done}
use Rattle.vax_debug.specs.Calls.{gone_on}
use Rattle.vax_debug_acts.specs.Acts.{go_seen, stop_reply}
use Rattle.vax_console.proofs.Only.{only_then}
use Rattle.vax_debug_acts.proofs.moves.go_seen.Goals as goal

pub returns-in-Ok-clause-acts : goal.returns-in-Ok-clause-acts
returns-in-Ok-clause-acts g c = λ o s replies here.
    let limit = c.args.setting.now.limits.now.steps in
    let w = scene (engine c.tell_stop.new.machine) (g.F.PageFile.contents c.tell_stop.new.file) (g.K.Sink.contents c.tell_stop.new.sink) in
    let t = gone_on limit c.args.plan.now.breaks c.args.seen.now s in
    done c.tell_stop.result c.args.setting.now.limits.now.turns (left limit s) o s t replies (stop_reply limit c.args.setting.now.legend.now c.args.plan.now c.args.seen.now t) w (c.tell_stop.ensures.replies o t replies (c.in-Ok.ensures.goes o s replies here))

pub returns-in-Err-clause-acts : goal.returns-in-Err-clause-acts
returns-in-Err-clause-acts g c = λ o s replies here.
    let limit = c.args.setting.now.limits.now.steps in
    let w = scene (engine c.go.new.machine) (g.F.PageFile.contents c.go.new.file) (g.K.Sink.contents c.go.new.sink) in
    let t = gone_on limit c.args.plan.now.breaks c.args.seen.now s in
    cut_off c.in-Err.failure c.args.setting.now.limits.now.turns (go_seen limit c.args.setting.now.legend.now c.args.plan.now c.args.seen.now s) o s t replies w (c.in-Err.ensures.goes o s replies here)

pub returns-in-Ok-clause-counts : goal.returns-in-Ok-clause-counts
returns-in-Ok-clause-counts g c = counts_then c.tell_stop.result (g.F.PageFile.faults c.args.file.now) (g.F.PageFile.faults c.go.new.file) (g.F.PageFile.faults c.tell_stop.new.file) (g.K.Sink.faults c.args.sink.now) (g.K.Sink.faults c.go.new.sink) (g.K.Sink.faults c.tell_stop.new.sink) c.in-Ok.ensures.counts.0 c.in-Ok.ensures.counts.1 c.tell_stop.ensures.counts

pub returns-in-Ok-clause-only : goal.returns-in-Ok-clause-only
returns-in-Ok-clause-only g c = only_then _ _ _ c.go.ensures.only c.tell_stop.ensures.only

use Rattle.std.proofs.Common.{List, refl}
use Rattle.vax_machine.specs.Meaning.{engine}
use Rattle.vax_console.specs.Ends.{scene}
use Rattle.vax_debug.specs.declared.watches.Seen.{Seen}
use Rattle.vax_debug_acts.proofs.Telling.{counts_then, not_done}
use Rattle.vax_debug_acts.specs.Acts.{go_act, go_seen}
use Rattle.vax_debug_acts.proofs.Stopping.{with_seen}
use Rattle.vax_console.proofs.Only.{only_none}
use Rattle.vax_debug_acts.proofs.moves.go.Goals as goal

pub returns-in-Ok-clause-acts : goal.returns-in-Ok-clause-acts
returns-in-Ok-clause-acts g c = λ o s replies here.
    let limit = c.args.setting.now.limits.now.steps in
    let sink = g.K.Sink.contents c.args.sink.now in
    let w = scene (engine c.go_seen.new.machine) (g.F.PageFile.contents c.go_seen.new.file) (g.K.Sink.contents c.go_seen.new.sink) in
    with_seen c.go_seen.result c.args.setting.now.limits.now.turns c.args.plan.now.watches c.in-Ok.seen (λ (z : List Seen). go_seen limit c.args.setting.now.legend.now c.args.plan.now z s) o s replies w
    (c.in-Ok.ensures.tells sink o s replies here) (c.go_seen.ensures.acts o s replies (c.look.ensures.stays sink o s replies here))

pub returns-in-Err-clause-acts : goal.returns-in-Err-clause-acts
returns-in-Err-clause-acts g c = λ o s replies here.
    let limit = c.args.setting.now.limits.now.steps in
    let sink = g.K.Sink.contents c.args.sink.now in
    not_done c.args.setting.now.limits.now.turns (go_act limit c.args.setting.now.legend.now c.args.plan.now s) o s replies (scene (engine c.look.new.machine) (g.F.PageFile.contents c.look.new.file) sink) (c.look.ensures.stays sink o s replies here)

pub returns-in-Ok-clause-counts : goal.returns-in-Ok-clause-counts
returns-in-Ok-clause-counts g c = counts_then c.go_seen.result (g.F.PageFile.faults c.args.file.now) (g.F.PageFile.faults c.look.new.file) (g.F.PageFile.faults c.go_seen.new.file) (g.K.Sink.faults c.args.sink.now) (g.K.Sink.faults c.args.sink.now) (g.K.Sink.faults c.go_seen.new.sink) c.in-Ok.ensures.counts.quiet refl c.go_seen.ensures.counts

pub returns-in-Err-clause-counts : goal.returns-in-Err-clause-counts
returns-in-Err-clause-counts g c = (c.in-Err.ensures.counts.later, c.in-Err.ensures.counts.cause, refl)

pub returns-in-Err-clause-only : goal.returns-in-Err-clause-only
returns-in-Err-clause-only g c = only_none _

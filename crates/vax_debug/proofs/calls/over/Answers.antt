use Rattle.std.proofs.Common.{◌≡◌, Option, refl, subst}
use Rattle.std.specs.Prelude.{None, Some}
use Rattle.vax_machine.specs.Meaning.{engine}
use Rattle.vax_console.specs.Ends.{scene}
use Rattle.vax_debug.specs.Calls.{call_goal, over_count, over_count_to, over_to}
use Rattle.vax_debug.specs.Sessions.{Arrives}
use Rattle.vax_debug.specs.declared.breaks.Goal.{Goal}
use Rattle.vax_debug.proofs.Arriving.{counts_then}
use Rattle.vax_debug.proofs.Calling.{within_here}
use Rattle.vax_console.proofs.Only.{only_none}
use Rattle.vax_debug.proofs.calls.over.Goals as goal

pub returns-in-Ok-None-clause-goes : goal.returns-in-Ok-None-clause-goes
returns-in-Ok-None-clause-goes g c = λ o s replies here.
    let limit = c.args.limits.now.steps in
    let sink = g.K.Sink.contents c.args.sink.now in
    let w = scene (engine c.step.new.machine) (g.F.PageFile.contents c.step.new.file) (g.K.Sink.contents c.step.new.sink) in
    let is : None ≡ call_goal s.machine = (rw c.in-Ok-None.field-0-is at c.in-Ok-None.ensures.tells) sink o s replies here in
    subst (λ (k : Option Goal). Arrives c.step.result c.args.limits.now.turns (over_count_to limit k s) (over_to limit k c.args.marks.now.breaks.now c.args.marks.now.seen.now s) o s replies w) is
    (c.step.ensures.goes o s replies (c.call_goal.ensures.stays sink o s replies here))

pub returns-in-Ok-Some-clause-goes : goal.returns-in-Ok-Some-clause-goes
returns-in-Ok-Some-clause-goes g c = λ o s replies here.
    let limit = c.args.limits.now.steps in
    let sink = g.K.Sink.contents c.args.sink.now in
    let w = scene (engine c.go_to.new.machine) (g.F.PageFile.contents c.go_to.new.file) (g.K.Sink.contents c.go_to.new.sink) in
    let is : Some c.in-Ok-Some.goal ≡ call_goal s.machine = (rw c.in-Ok-Some.field-0-is at c.in-Ok-Some.ensures.tells) sink o s replies here in
    subst (λ (k : Option Goal). Arrives c.go_to.result c.args.limits.now.turns (over_count_to limit k s) (over_to limit k c.args.marks.now.breaks.now c.args.marks.now.seen.now s) o s replies w) is
    (c.go_to.ensures.goes o s replies (c.call_goal.ensures.stays sink o s replies here))

pub returns-in-Err-clause-goes : goal.returns-in-Err-clause-goes
returns-in-Err-clause-goes g c = λ o s replies here.
    within_here o s (over_count c.args.limits.now.steps s) replies _ (c.call_goal.ensures.stays (g.K.Sink.contents c.args.sink.now) o s replies here)

pub returns-in-Ok-None-clause-counts : goal.returns-in-Ok-None-clause-counts
returns-in-Ok-None-clause-counts g c = counts_then c.step.result (g.F.PageFile.faults c.args.file.now) (g.F.PageFile.faults c.call_goal.new.file) (g.F.PageFile.faults c.step.new.file) (g.K.Sink.faults c.args.sink.now) (g.K.Sink.faults c.args.sink.now) (g.K.Sink.faults c.step.new.sink) c.in-Ok-None.ensures.counts.quiet refl c.step.ensures.counts

pub returns-in-Ok-Some-clause-counts : goal.returns-in-Ok-Some-clause-counts
returns-in-Ok-Some-clause-counts g c = counts_then c.go_to.result (g.F.PageFile.faults c.args.file.now) (g.F.PageFile.faults c.call_goal.new.file) (g.F.PageFile.faults c.go_to.new.file) (g.K.Sink.faults c.args.sink.now) (g.K.Sink.faults c.args.sink.now) (g.K.Sink.faults c.go_to.new.sink) c.in-Ok-Some.ensures.counts.quiet refl c.go_to.ensures.counts

pub returns-in-Err-clause-counts : goal.returns-in-Err-clause-counts
returns-in-Err-clause-counts g c = (c.in-Err.ensures.counts.later, c.in-Err.ensures.counts.cause, refl)

pub returns-in-Err-clause-only : goal.returns-in-Err-clause-only
returns-in-Err-clause-only g c = only_none _

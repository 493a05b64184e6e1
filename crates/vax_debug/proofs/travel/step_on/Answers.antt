use Rattle.vax_machine.specs.Meaning.{engine}
use Rattle.vax_console.specs.Ends.{scene}
use Rattle.vax_console.specs.Transcript.{stepped}
use Rattle.vax_debug.specs.Steps.{told}
use Rattle.vax_debug.specs.Travel.{stops_at}
use Rattle.vax_debug.proofs.Arriving.{counts_then, steps_by}
use Rattle.vax_debug.proofs.travel.step_on.Goals as goal

pub returns-in-Ok-clause-goes : goal.returns-in-Ok-clause-goes
returns-in-Ok-clause-goes g c = λ o s replies here few.
    let sink = g.K.Sink.contents c.make_step.new.sink in
    let w = scene (engine c.stops_here.new.machine) (g.F.PageFile.contents c.stops_here.new.file) sink in
    steps_by c.stops_here.result c.args.limits.now.turns (stops_at c.args.marks.now.breaks.now c.args.marks.now.seen.now c.args.goal) o s replies w
    (c.stops_here.ensures.halts sink o (stepped s) replies (c.in-Ok.ensures.goes o s replies here few))

pub returns-in-Ok-clause-counts : goal.returns-in-Ok-clause-counts
returns-in-Ok-clause-counts g c =
    counts_then (told c.stops_here.result) (g.F.PageFile.faults c.args.file.now) (g.F.PageFile.faults c.make_step.new.file) (g.F.PageFile.faults c.stops_here.new.file) (g.K.Sink.faults c.args.sink.now) (g.K.Sink.faults c.make_step.new.sink) (g.K.Sink.faults c.make_step.new.sink) c.in-Ok.ensures.counts.0 c.in-Ok.ensures.counts.1 (c.stops_here.ensures.counts (g.K.Sink.faults c.make_step.new.sink))

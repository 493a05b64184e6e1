use Rattle.std.proofs.Common.{◌≡◌, ℕ, min, subst}
use Rattle.std.specs.Prelude.{None}
use Rattle.vax_machine.specs.Meaning.{engine}
use Rattle.vax_console.specs.Ends.{scene}
use Rattle.vax_console.specs.Transcript.{left}
use Rattle.vax_debug.specs.Sessions.{Arrives}
use Rattle.vax_debug.specs.Travel.{stops_at, travelled}
use Rattle.vax_debug.proofs.Calling.{has_fewer, has_left, left_is}
use Rattle.vax_debug.proofs.calls.step.Goals as goal

pub returns-clause-goes : goal.returns-clause-goes
returns-clause-goes g c = λ o s replies here.
    let limit = c.args.limits.now.steps in
    let v = scene (engine c.args.machine.now) (g.F.PageFile.contents c.args.file.now) (g.K.Sink.contents c.args.sink.now) in
    let w = scene (engine c.travel.new.machine) (g.F.PageFile.contents c.travel.new.file) (g.K.Sink.contents c.travel.new.sink) in
    let all : c.steps_left.result ≡ left limit s = left_is o s replies v limit c.steps_left.result here c.steps_left.ensures.left in
    let is : c.min-count.result ≡ min c.args.count (left limit s) = subst (λ (n : ℕ). c.min-count.result ≡ min c.args.count n) all c.min-count.ensures in
    subst (λ (n : ℕ). Arrives c.travel.result c.args.limits.now.turns n (travelled n (stops_at c.args.marks.now.breaks.now c.args.marks.now.seen.now None) s) o s replies w) is
    (c.travel.ensures.goes o s replies here (has_fewer s.steps c.steps_left.result c.args.count c.min-count.result (has_left o s replies v c.steps_left.result here c.steps_left.ensures.within) c.min-count.ensures))

use Rattle.std.proofs.Common.{◌≡◌, ℕ, subst}
use Rattle.std.specs.Prelude.{Some}
use Rattle.vax_machine.specs.Meaning.{engine}
use Rattle.vax_console.specs.Ends.{scene}
use Rattle.vax_console.specs.Transcript.{left}
use Rattle.vax_debug.specs.Sessions.{Arrives}
use Rattle.vax_debug.specs.Travel.{stops_at, travelled}
use Rattle.vax_debug.proofs.Calling.{has_left, left_is}
use Rattle.vax_debug.proofs.calls.go_to.Goals as goal

pub returns-clause-goes : goal.returns-clause-goes
returns-clause-goes g c = λ o s replies here.
    let limit = c.args.limits.now.steps in
    let v = scene (engine c.args.machine.now) (g.F.PageFile.contents c.args.file.now) (g.K.Sink.contents c.args.sink.now) in
    let w = scene (engine c.travel.new.machine) (g.F.PageFile.contents c.travel.new.file) (g.K.Sink.contents c.travel.new.sink) in
    let is : c.steps_left-count.result ≡ left limit s = left_is o s replies v limit c.steps_left-count.result here c.steps_left-count.ensures.left in
    subst (λ (n : ℕ). Arrives c.travel.result c.args.limits.now.turns n (travelled n (stops_at c.args.marks.now.breaks.now c.args.marks.now.seen.now (Some c.args.goal)) s) o s replies w) is
    (c.travel.ensures.goes o s replies here (has_left o s replies v c.steps_left-count.result here c.steps_left-count.ensures.within))

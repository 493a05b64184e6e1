use Rattle.std.proofs.Common.{◌≡◌, ℕ, ◌+◌, ◌<◌, ◌^◌, List}
use Rattle.vax_machine.specs.Meaning.{engine}
use Rattle.vax_console.specs.Ends.{OnlyReplied, scene}
use Rattle.vax_console.specs.Transcript.{Session}
use Rattle.vax_debug.specs.Sessions.{IsHere, Origin}
use Rattle.vax_debug.specs.Travel.{stops_at}
use Rattle.vax_debug.proofs.Arriving.{HasCome}
use Rattle.vax_debug.proofs.travel.travel.Given as goal

-- so many steps were made of each session
abbrev pub invariant-loop : goal.invariant-loop
invariant-loop g l = record {
  comes : (o : Origin) (s : Session) (replies : List ℕ) → IsHere o s replies (scene (engine l.fn.machine) (g.F.PageFile.contents l.fn.file) (g.K.Sink.contents l.fn.sink)) → s.steps + l.course.count < 2 ^ 64 →
      HasCome l.course.count l.counter (stops_at l.marks.breaks.now l.marks.seen.now l.course.goal) o s replies (scene (engine l.machine) (g.F.PageFile.contents l.file) (g.K.Sink.contents l.sink));
  quiet : (g.F.PageFile.faults l.file).count ≡ (g.F.PageFile.faults l.fn.file).count;
  written : (g.K.Sink.faults l.sink).count ≡ (g.K.Sink.faults l.fn.sink).count;
  only : OnlyReplied (g.K.Sink.contents l.fn.sink) (g.K.Sink.contents l.sink);
}

use Rattle.std.proofs.Common.{◌≡◌, ◌++◌, List, length}
use Rattle.vax_flat.specs.Parts.{At}
use Rattle.vax_flat.specs.Step.{Flat}
use Rattle.vax_machine.specs.Console.{IsBetween}
use Rattle.vax_machine.specs.Machine.{Means}
use Rattle.vax_machine.specs.Meaning.{engine}
use Rattle.vax_script.specs.Requests.{readings}
use Rattle.vax_script.specs.declared.request.Line.{Line}
use Rattle.vax_console.specs.Ends.{Carries, OnlyReplied, scene, session_on}
use Rattle.vax_console.specs.Parts.{SpendsAll}
use Rattle.vax_console.specs.Turns.{IsCarriedOut, setting_of, stand_at}
use Rattle.vax_console.proofs.lines.carry_out_all.Given as goal

-- the lines so far were carried out
abbrev pub invariant-loop-line : goal.invariant-loop-line
invariant-loop-line g l = record {
  quiet : (g.F.PageFile.faults l.file).count ≡ (g.F.PageFile.faults l.fn.file).count;
  sunk : (g.K.Sink.faults l.sink).count ≡ (g.K.Sink.faults l.fn.sink).count;
  between : IsBetween (engine l.machine);
  only : OnlyReplied (g.K.Sink.contents l.fn.sink) (g.K.Sink.contents l.sink);
  carried : (front : List Line) × (readings l.script ≡ front ++ readings l.rest)
      × ((m : Flat) → Means (engine l.fn.machine) (g.F.PageFile.contents l.fn.file) (At m) → Carries l.limits (session_on (engine l.fn.machine) m) front (engine l.machine) (g.F.PageFile.contents l.file) (g.K.Sink.contents l.fn.sink) (g.K.Sink.contents l.sink)
      × SpendsAll l.limits.steps l.schedule (session_on (engine l.fn.machine) m) front (engine l.fn.machine) (engine l.machine)
      × IsCarriedOut (setting_of (scene (engine l.fn.machine) (g.F.PageFile.contents l.fn.file) (g.K.Sink.contents l.fn.sink)) l.limits l.schedule) front (stand_at (scene (engine l.fn.machine) (g.F.PageFile.contents l.fn.file) (g.K.Sink.contents l.fn.sink)) (At m)) (scene (engine l.machine) (g.F.PageFile.contents l.file) (g.K.Sink.contents l.sink)));
}

abbrev pub decreases-loop-line : goal.decreases-loop-line
decreases-loop-line g l = length l.rest

use Rattle.vax_machine.specs.Meaning.{engine}
use Rattle.vax_console.specs.Ends.{OnlyReplied, scene}
use Rattle.vax_debug_session.specs.Faults.{NoneFailed, faults_of}
use Rattle.vax_debug_session.specs.Holding.{stage, terms}
use Rattle.vax_debug_session.specs.Turns.{IsHolding}
use Rattle.vax_debug_session.proofs.hold.Given as goal

-- so many lines were carried out, no call failed, and only Out and Report grew
abbrev pub invariant-loop : goal.invariant-loop
invariant-loop g l = record {
  holding : IsHolding (terms l.setting.limits.now l.setting.legend.now l.prompts) l.fn.breaks l.breaks l.counter
      (stage (scene (engine l.fn.machine) (g.F.PageFile.contents l.fn.file) (g.K.Sink.contents l.fn.sink)) (scene (engine l.machine) (g.F.PageFile.contents l.file) (g.K.Sink.contents l.sink)) (g.L.Lines.rest l.fn.lines) (g.L.Lines.rest l.lines));
  failed : NoneFailed (faults_of (g.F.PageFile.faults l.fn.file) (g.K.Sink.faults l.fn.sink) (g.L.Lines.faults l.fn.lines)) (faults_of (g.F.PageFile.faults l.file) (g.K.Sink.faults l.sink) (g.L.Lines.faults l.lines));
  only : OnlyReplied (g.K.Sink.contents l.fn.sink) (g.K.Sink.contents l.sink);
}

use Rattle.vax_image.specs.Start.{Start}
use Rattle.vax_machine.specs.Console.{IsBetween}
use Rattle.vax_machine.specs.Meaning.{engine}
use Rattle.vax_debug_session.specs.Holding.{terms}
use Rattle.vax_command.specs.Around.{seen_of}
use Rattle.vax_command.specs.Fresh.{IsFresh}
use Rattle.vax_command_debug.specs.Restarting.{IsQuiet, hears}
use Rattle.vax_command_debug.proofs.RestartLaws.{IsBehindRuns}
use Rattle.vax_command_debug.proofs.session.hold_session.Given as goal

-- so many runs went, no call failed, and the machine is at its start
abbrev pub invariant-loop : goal.invariant-loop
invariant-loop g l = record {
  behind : IsBehindRuns (g.F.PageFile.contents l.fn.pages) (terms l.setting.limits.now l.setting.legend.now l.prompts) (Start l.beginning.programs.now.system l.beginning.programs.now.user l.beginning.input.now) l.breaks l.counter
      (hears (seen_of g.K.Sink.faults g.K.Sink.contents l.fn.sink) (seen_of g.F.PageFile.faults g.F.PageFile.contents l.fn.pages) (seen_of g.L.Lines.faults g.L.Lines.rest l.fn.lines))
      (hears (seen_of g.K.Sink.faults g.K.Sink.contents l.sink) (seen_of g.F.PageFile.faults g.F.PageFile.contents l.pages) (seen_of g.L.Lines.faults g.L.Lines.rest l.lines));
  quiet : IsQuiet
      (hears (seen_of g.K.Sink.faults g.K.Sink.contents l.fn.sink) (seen_of g.F.PageFile.faults g.F.PageFile.contents l.fn.pages) (seen_of g.L.Lines.faults g.L.Lines.rest l.fn.lines))
      (hears (seen_of g.K.Sink.faults g.K.Sink.contents l.sink) (seen_of g.F.PageFile.faults g.F.PageFile.contents l.pages) (seen_of g.L.Lines.faults g.L.Lines.rest l.lines));
  fresh : IsFresh (engine l.machine) l.beginning.frames (Start l.beginning.programs.now.system l.beginning.programs.now.user l.beginning.input.now);
  between : IsBetween (engine l.machine);
}

use Rattle.std.proofs.Common.{◌≡◌, ◌-◌}
use Rattle.vax_machine.specs.Meaning.{engine}
use Rattle.vax_console.specs.Ends.{scene}
use Rattle.vax_debug_views.specs.Views.{values_shown}
use Rattle.vax_debug_views.proofs.Telling.{IsShowing}
use Rattle.vax_debug_views.proofs.values.show_values.Given as goal

-- the values so far were shown
abbrev pub invariant-loop : goal.invariant-loop
invariant-loop g l = record {
  shows : IsShowing (scene (engine l.fn.machine) (g.F.PageFile.contents l.fn.file) (g.K.Sink.contents l.fn.sink)) (scene (engine l.machine) (g.F.PageFile.contents l.file) (g.K.Sink.contents l.sink)) (values_shown l.legend l.size l.count l.fn.address) (values_shown l.legend l.size (l.count - l.counter) l.address);
  quiet : (g.F.PageFile.faults l.file).count ≡ (g.F.PageFile.faults l.fn.file).count;
  written : (g.K.Sink.faults l.sink).count ≡ (g.K.Sink.faults l.fn.sink).count;
}

use Rattle.std.proofs.Common.{◌≡◌, ◌-◌}
use Rattle.vax_machine.specs.Meaning.{engine}
use Rattle.vax_console.specs.Ends.{scene}
use Rattle.vax_debug_views.specs.Views.{entries_from}
use Rattle.vax_debug_views.proofs.Telling.{IsShowing}
use Rattle.vax_debug_views.proofs.queues.show_entries.Given as goal

-- the entries so far were shown
abbrev pub invariant-loop : goal.invariant-loop
invariant-loop g l = record {
  shows : IsShowing (scene (engine l.fn.machine) (g.F.PageFile.contents l.fn.file) (g.K.Sink.contents l.fn.sink)) (scene (engine l.machine) (g.F.PageFile.contents l.file) (g.K.Sink.contents l.sink)) (entries_from l.legend l.head 64 l.head) (entries_from l.legend l.head (64 - l.counter) l.entry);
  quiet : (g.F.PageFile.faults l.file).count ≡ (g.F.PageFile.faults l.fn.file).count;
  written : (g.K.Sink.faults l.sink).count ≡ (g.K.Sink.faults l.fn.sink).count;
}

use Rattle.std.proofs.Common.{◌≡◌, ◌-◌}
use Rattle.vax_machine.specs.Meaning.{engine}
use Rattle.vax_console.specs.Ends.{scene}
use Rattle.vax_debug_views.specs.Views.{frames_from}
use Rattle.vax_debug_views.proofs.Telling.{IsShowing}
use Rattle.vax_debug_views.proofs.frames.show_frames_from.Given as goal

-- the frames so far were shown
abbrev pub invariant-loop-number : goal.invariant-loop-number
invariant-loop-number g l = record {
  shows : IsShowing (scene (engine l.fn.machine) (g.F.PageFile.contents l.fn.file) (g.K.Sink.contents l.fn.sink)) (scene (engine l.machine) (g.F.PageFile.contents l.file) (g.K.Sink.contents l.sink)) (frames_from l.legend 64 0 l.fn.frame) (frames_from l.legend (64 - l.number) l.number l.frame);
  quiet : (g.F.PageFile.faults l.file).count ≡ (g.F.PageFile.faults l.fn.file).count;
  written : (g.K.Sink.faults l.sink).count ≡ (g.K.Sink.faults l.fn.sink).count;
}

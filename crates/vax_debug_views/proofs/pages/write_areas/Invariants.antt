use Rattle.std.proofs.Common.{◌≡◌, take}
use Rattle.std.specs.List.{flat_map}
use Rattle.vax_outside.specs.Channels.{Grew, only}
use Rattle.vax_outside.specs.declared.traits.Chan.TheVariants.{Report}
use Rattle.vax_machine.specs.Meaning.{engine}
use Rattle.vax_debug.specs.Pages.{pages_at}
use Rattle.vax_debug_views.specs.Pages.{area_shown}
use Rattle.vax_debug_views.proofs.pages.write_areas.Given as goal

-- the lines of the areas so far were written
abbrev pub invariant-loop-area : goal.invariant-loop-area
invariant-loop-area g l = record {
  quiet : (g.K.Sink.faults l.sink).count ≡ (g.K.Sink.faults l.fn.sink).count;
  grew : Grew (g.K.Sink.contents l.fn.sink) (g.K.Sink.contents l.sink) (only Report (flat_map (area_shown l.legend (pages_at (engine l.machine))) (take l.area-index l.areas)));
}

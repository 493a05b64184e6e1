use Rattle.std.proofs.Common.{◌≡◌, ◌+◌, ◌%◌, ◌^◌, take}
use Rattle.std.specs.List.{flat_map, range_with_len}
use Rattle.vax_outside.specs.Channels.{Grew, only}
use Rattle.vax_outside.specs.declared.traits.Chan.TheVariants.{Report}
use Rattle.vax_machine.specs.Meaning.{engine}
use Rattle.vax_debug.specs.Pages.{pages_at}
use Rattle.vax_debug_views.specs.Pages.{page_shown}
use Rattle.vax_debug_views.proofs.pages.write_area.Given as goal

-- the lines of the pages so far were written
abbrev pub invariant-loop-k : goal.invariant-loop-k
invariant-loop-k g l = record {
  quiet : (g.K.Sink.faults l.sink).count ≡ (g.K.Sink.faults l.fn.sink).count;
  grew : Grew (g.K.Sink.contents l.fn.sink) (g.K.Sink.contents l.sink)
      (only Report (flat_map (λ k. page_shown l.legend (pages_at (engine l.machine)) ((l.area.first + k) % 2 ^ 32)) (take l.k (range_with_len 0 l.area.pages))));
}

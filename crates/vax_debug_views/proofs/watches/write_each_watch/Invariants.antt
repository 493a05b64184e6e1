use Rattle.std.proofs.Common.{◌≡◌, take}
use Rattle.std.specs.List.{flat_map}
use Rattle.vax_outside.specs.Channels.{Grew, only}
use Rattle.vax_outside.specs.declared.traits.Chan.TheVariants.{Report}
use Rattle.vax_debug_views.specs.Watches.{watch_shown}
use Rattle.vax_debug_views.proofs.watches.write_each_watch.Given as goal

-- the lines so far were written
abbrev pub invariant-loop-watch : goal.invariant-loop-watch
invariant-loop-watch g l = record {
  quiet : (g.K.Sink.faults l.sink).count ≡ (g.K.Sink.faults l.fn.sink).count;
  grew : Grew (g.K.Sink.contents l.fn.sink) (g.K.Sink.contents l.sink) (only Report (flat_map (watch_shown l.legend) (take l.watch-index l.watches)));
}

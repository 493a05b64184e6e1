use Rattle.std.proofs.Common.{◌≡◌, drop}
use Rattle.std.specs.List.{flat_map}
use Rattle.vax_save.specs.Saved.{area_field, areas_field}
use Rattle.vax_save.specs.Stream.{Leaves, stream}
use Rattle.vax_save.proofs.saving.put_areas.Given as goal

-- the areas so far were put
abbrev pub invariant-loop-area : goal.invariant-loop-area
invariant-loop-area g l = record {
  quiet : (g.K.Sink.faults l.sink).count ≡ (g.K.Sink.faults l.fn.sink).count;
  leaves : Leaves (areas_field l.areas) (flat_map area_field (drop l.area-index l.areas)) (stream (g.K.Sink.contents l.fn.sink) l.fn.held.items) (stream (g.K.Sink.contents l.sink) l.held.items);
}

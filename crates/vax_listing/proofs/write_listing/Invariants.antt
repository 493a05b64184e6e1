use Rattle.std.proofs.Common.{◌≡◌, take}
use Rattle.std.specs.List.{flat_map}
use Rattle.vax_outside.specs.Channels.{Grew, only}
use Rattle.vax_outside.specs.declared.traits.Chan.TheVariants.{Out}
use Rattle.vax_listing.specs.Listing.{area_lines}
use Rattle.vax_listing.proofs.write_listing.Given as goal

-- the areas so far were written
abbrev pub invariant-loop-area : goal.invariant-loop-area
invariant-loop-area g l = record {
  quiet : (g.K.Sink.faults l.sink).count ≡ (g.K.Sink.faults l.fn.sink).count;
  grew : Grew (g.K.Sink.contents l.fn.sink) (g.K.Sink.contents l.sink) (only Out (flat_map area_lines (take l.area-index l.areas)));
}

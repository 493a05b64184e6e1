use Rattle.std.proofs.Common.{◌≡◌, length}
use Rattle.vax_listing.specs.Listing.{area_lines, lines_from}
use Rattle.vax_listing.specs.Writing.{IsBetween}
use Rattle.vax_listing.proofs.write_area.Given as goal

-- the lines so far were written, or are held back
abbrev pub invariant-loop-rest : goal.invariant-loop-rest
invariant-loop-rest g l = record {
  quiet : (g.K.Sink.faults l.sink).count ≡ (g.K.Sink.faults l.fn.sink).count;
  between : IsBetween (area_lines l.area) (g.K.Sink.contents l.fn.sink) (g.K.Sink.contents l.sink) l.lines.items (lines_from 0 l.addr l.rest);
}

abbrev pub decreases-loop-rest : goal.decreases-loop-rest
decreases-loop-rest g l = length l.rest

use Rattle.std.proofs.Common.{◌≡◌, ◌*◌, length, take}
use Rattle.std.specs.Int.{div_ceil}
use Rattle.std.specs.List.{flat_map, range_with_len}
use Rattle.vax_outside.specs.Channels.{Grew, only}
use Rattle.vax_outside.specs.declared.traits.Chan.TheVariants.{Report}
use Rattle.vax_report.specs.Report.{dump_line}
use Rattle.vax_report.proofs.write.write_dump.Given as goal

-- the lines so far were written
abbrev pub invariant-loop-line : goal.invariant-loop-line
invariant-loop-line g l = record {
  quiet : (g.K.Sink.faults l.sink).count ≡ (g.K.Sink.faults l.fn.sink).count;
  grew : Grew (g.K.Sink.contents l.fn.sink) (g.K.Sink.contents l.sink) (only Report (flat_map (λ k. dump_line l.dump (16 * k)) (take l.line (range_with_len 0 (div_ceil (length l.dump.bytes) 16)))));
}

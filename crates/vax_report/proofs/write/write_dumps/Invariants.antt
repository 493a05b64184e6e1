use Rattle.std.proofs.Common.{◌≡◌, take}
use Rattle.std.specs.List.{flat_map}
use Rattle.vax_outside.specs.Channels.{Grew, only}
use Rattle.vax_outside.specs.declared.traits.Chan.TheVariants.{Report}
use Rattle.vax_report.specs.Report.{dump_text}
use Rattle.vax_report.proofs.write.write_dumps.Given as goal

-- the dumps so far were written
abbrev pub invariant-loop-dump : goal.invariant-loop-dump
invariant-loop-dump g l = record {
  quiet : (g.K.Sink.faults l.sink).count ≡ (g.K.Sink.faults l.fn.sink).count;
  grew : Grew (g.K.Sink.contents l.fn.sink) (g.K.Sink.contents l.sink) (only Report (flat_map dump_text (take l.dump-index l.dumps)));
}

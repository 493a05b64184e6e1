use Rattle.std.specs.Prelude.{◌≡◌}
use Rattle.vax_vector_lines.specs.Lines.{AreOfAll, Wrote}
use Rattle.vax_vector_lines.proofs.write.write_each.Given as goal

-- those of the opcodes so far were written
abbrev pub invariant-loop-code : goal.invariant-loop-code
invariant-loop-code g l = record {
  quiet : (g.K.Sink.faults l.sink).count ≡ (g.K.Sink.faults l.fn.sink).count;
  wrote : Wrote (AreOfAll l.asked.case.mode l.asked.absent l.asked.count l.code) (g.K.Sink.contents l.fn.sink) (g.K.Sink.contents l.sink);
}

use Rattle.std.specs.Prelude.{◌≡◌}
use Rattle.vax_vector_lines.specs.Lines.{AreGroups, Wrote}
use Rattle.vax_vector_lines.proofs.write.write_asked.Given as goal

-- so many were written
abbrev pub invariant-loop-number : goal.invariant-loop-number
invariant-loop-number g l = record {
  quiet : (g.K.Sink.faults l.sink).count ≡ (g.K.Sink.faults l.fn.sink).count;
  wrote : Wrote (AreGroups l.asked.case.opcode l.asked.case.mode l.asked.absent l.number) (g.K.Sink.contents l.fn.sink) (g.K.Sink.contents l.sink);
}

use Rattle.std.proofs.Common.{◌≡◌, ℕ, List, ◌++◌, length}
use Rattle.vax_outside.specs.Channels.{Grew, only}
use Rattle.vax_outside.proofs.put.put_all.Given as goal

-- a prefix of the bytes was written, and the rest is left
abbrev pub invariant-loop-rest : goal.invariant-loop-rest
invariant-loop-rest g l = record {
  quiet : (g.K.Sink.faults l.sink).count ≡ (g.K.Sink.faults l.fn.sink).count;
  front : (front : List ℕ) × (front ++ l.rest ≡ l.bytes) × Grew (g.K.Sink.contents l.fn.sink) (g.K.Sink.contents l.sink) (only l.chan front);
}

abbrev pub decreases-loop-rest : goal.decreases-loop-rest
decreases-loop-rest g l = length l.rest

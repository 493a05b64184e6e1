use Rattle.std.proofs.Common.{◌≡◌, ◌<◌, ◌≤◌, [], List, None}
use Rattle.std.specs.Prelude.{IsSome}
use Rattle.vax_space.specs.declared.Area.{Area}
use Rattle.vax_flat.specs.Port.{StandsFor}
use Rattle.vax_cpu.specs.Attempt.{flat_of}
use Rattle.vax_bare.proofs.Turns.{IsAt, to_do}
use Rattle.vax_bare.proofs.runs.run.Given as goal

-- on each memory, the flat machine has made the steps so far and goes on, in a step where an instruction is open
abbrev pub invariant-loop-steps : goal.invariant-loop-steps
invariant-loop-steps g l = record {
  at : (memory : List Area) → StandsFor (g.P.Port.view l.fn.port) memory → IsAt (flat_of l.fn.cpu memory []) l.steps l.cpu (g.P.Port.view l.port) (g.K.Sink.contents l.fn.sink) (g.K.Sink.contents l.sink);
  within : l.steps ≤ l.limit;
  inside : IsSome l.cpu.latch → l.steps < l.limit;
  unsent : l.cpu.term.out ≡ None;
  quiet : (g.K.Sink.faults l.sink).count ≡ (g.K.Sink.faults l.fn.sink).count;
}

abbrev pub decreases-loop-steps : goal.decreases-loop-steps
decreases-loop-steps g l = to_do l.limit l.steps l.cpu

use Rattle.std.proofs.Common.{◌≡◌, [], List, None}
use Rattle.vax_space.specs.declared.Area.{Area}
use Rattle.vax_flat.specs.Step.{Flat}
use Rattle.vax_vector_runs.specs.Attempts.{IsReady}
use Rattle.vax_vector_runs.proofs.Settling.{IsGoing}
use Rattle.vax_vector_runs.proofs.settle.settle.Given as goal

-- the pages so far are the first that the step touches, and the processor is at its start again
abbrev pub invariant-loop : goal.invariant-loop
invariant-loop l = record {
  going : (m : Flat) → (space : List Area) → IsReady m space [] l.fn.cpu l.fn.memory → IsGoing m space l.touched.items l.cpu l.memory;
  input : l.cpu.term.input ≡ l.fn.cpu.term.input;
  unsent : l.cpu.term.out ≡ None;
}

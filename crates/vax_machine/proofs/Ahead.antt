-- Steps that the processor makes at once, said by the flat machine.
use Rattle.std.proofs.Common.{◌≡◌, ℕ, sym, ap, subst, ◌∙◌}
use Rattle.vax_flat.specs.OverPort.{Present}
use Rattle.vax_flat.specs.Port.{StandsFor, View}
use Rattle.vax_flat.specs.State.{State}
use Rattle.vax_flat.specs.Step.{Flat, state_of}
use Rattle.vax_undo.specs.Transaction.{state_of as state_at}
use Rattle.vax_cpu.proofs.Runs.{Reaches}
use Rattle.vax_cpu.specs.declared.cpu.Cpu.{Cpu}
use Rattle.vax_machine.specs.AtOnce.{AreSteps}

module _ (view : View) (m : Flat) (count : ℕ) (mid : Present) (r : Reaches view m count mid) (cpu : Cpu) (after : View) (input : m.input ≡ cpu.term.input.items) (same : (let new : Present = record { state = state_at cpu.core cpu.term; view = after } in new) ≡ mid) where
  state_here : state_at cpu.core cpu.term ≡ state_of r.here
  state_here = ap (λ (p : Present). p.state) same ∙ r.is.state

  view_here : after ≡ mid.view
  view_here = ap (λ (p : Present). p.view) same

  pub are_steps : AreSteps view m count cpu after
  are_steps = record {
    here = r.here;
    steps = r.steps;
    running = r.is.running;
    resident = r.resident;
    at_once = r.at_once;
    silent = r.silent;
    absent = r.absent;
    processor = λ k. record {
      core = ap (λ (x : State). x.core) state_here k;
      memory = r.here.memory;
      input = sym (r.input ∙ input) k;
      taken = ap (λ (x : State). x.taken) state_here k;
      output = r.here.output;
      ending = sym r.is.running k;
    };
    stands = subst (λ (v : View). StandsFor v r.here.memory) (sym view_here) r.is.stands;
    marks = ap (λ (v : View). v.marked) view_here ∙ r.marks;
    pages = ap (λ (v : View). v.resident) view_here ∙ r.is.resident;
    areas = ap (λ (v : View). v.areas) view_here ∙ r.is.areas;
  }

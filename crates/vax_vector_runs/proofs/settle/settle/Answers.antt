use Rattle.std.proofs.Common.{refl, sym, ◌∙◌}
use Rattle.vax_flat.specs.Parts.{At}
use Rattle.vax_undo.proofs.PlainMemory.{pushed_on}
use Rattle.vax_cpu.specs.declared.cpu.Attempt.TheVariants as attempt
use Rattle.vax_vector_runs.specs.declared.settle.Settled.{Settled}
use Rattle.vax_vector_memory.specs.Record.{view_of}
use Rattle.vax_vector_runs.proofs.Settling.{at_start, going_first, going_on, is_settling, ready_again, settled, tried}
use Rattle.vax_vector_runs.proofs.settle.settle.Goals as goal

pub loop-init : goal.loop-init
loop-init c = record {
  going = λ m space ready. going_first c.new-touched.result.items c.new-touched.ensures.items ready;
  input = refl;
  unsent = c.requires;
}

pub returns-in-Step : goal.returns-in-Step
returns-in-Step c = record {
  settled = λ m space ready.
      let going = c.loop.invariant.going m space ready in
      let again = ready_again c.forget.new.self c.forget.ensures.view going.ready in
      let s : Settled = record { touched = c.loop.touched; attempt = c.attempt-attempt.result } in
      settled s c.attempt-attempt.new.self c.attempt-attempt.new.port again going.begun c.forget.ensures.touches c.forget.ensures.complete refl
      (is_settling c.attempt-attempt.result c.in-Step.is)
      (tried c.attempt-attempt.result c.attempt-attempt.new.self (view_of c.attempt-attempt.new.port) again (c.attempt-attempt.ensures.attempted (At m) (at_start again)))
      (c.attempt-attempt.ensures.since c.forget.new.self) c.loop.invariant.unsent c.attempt-attempt.ensures.trail;
  input = c.attempt-attempt.ensures.input ∙ c.loop.invariant.input;
}

pub loop-preserved : goal.loop-preserved
loop-preserved c = record {
  going = λ m space ready.
      let going = c.loop.invariant.going m space ready in
      let again = ready_again c.forget.new.self c.forget.ensures.view going.ready in
      let a = c.in-Absent.ensures in
      going_on c.in-Absent.page c.attempt-attempt.new.self c.attempt-attempt.new.port c.show.new.self c.push.new.self.items again going.begun
      (tried (attempt.Absent c.in-Absent.page) c.attempt-attempt.new.self (view_of c.attempt-attempt.new.port) again (a.attempted (At m) (at_start again)))
      a.before a.absent.1 a.latch c.show.ensures
      (pushed_on c.push.result c.loop.touched.items c.push.new.self.items c.in-Absent.page (sym c.is_err.ensures.value ∙ c.if-is_err.false) c.push.ensures.items);
  input = c.attempt-attempt.ensures.input ∙ c.loop.invariant.input;
  unsent = c.attempt-attempt.ensures.unsent;
}

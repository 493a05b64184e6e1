use Rattle.std.proofs.Common.{◌≡◌, ◌<◌, ◌≤◌, ℕ, ◌+◌, ◌∙◌, List, [], ◌∷◌, None, ap, subst, refl, arith}
use Rattle.std.specs.Prelude.{IsSome}
use Rattle.vax_space.specs.declared.Area.{Area}
use Rattle.vax_flat.specs.Port.{StandsFor}
use Rattle.vax_flat.specs.Parts.{Place, machine_at}
use Rattle.vax_outside.specs.declared.traits.Chan.TheVariants.{Out}
use Rattle.vax_outside.proofs.Growth.{grew_nothing, grew_only}
use Rattle.vax_flat.specs.Step.{run}
use Rattle.vax_cpu.specs.declared.cpu.Attempt.{Attempt}
use Rattle.vax_cpu.specs.declared.cpu.Attempt.TheVariants as attempt
use Rattle.vax_cpu.specs.Attempt.{flat_of, IsAt as IsPlaced, IsOpenAfter}
use Rattle.vax_cpu.specs.Batch.{AreAttempts, IsOneAttempt}
use Rattle.vax_bare.proofs.Turns.{at_start, closed_at_limit, goes_on, at_limit, ends, less_by_part, less_by_step, none_absent, parted, cut_short, failed, turned}
use Rattle.vax_bare.proofs.runs.run.Goals as goal

pub loop-steps-init : goal.loop-steps-init
loop-steps-init g c = record {
  at = λ memory st. at_start c.args.cpu.now (g.P.Port.view c.args.port.now) memory (g.K.Sink.contents c.args.sink.now) c.requires.closed st c.requires.resident (grew_nothing (g.K.Sink.contents c.args.sink.now));
  within = omega arith;
  inside = λ some. let no = subst IsSome c.requires.closed some in absurd (cc);
  unsent = c.requires.unsent;
  quiet = refl;
}

pub loop-steps-preserved-in-None : goal.loop-steps-preserved-in-None
loop-steps-preserved-in-None g c =
    let few : c.loop-steps.steps + c.attempts-batch.result.steps + 1 ≤ c.args.limit = omega arith in
    let closed : c.attempts-batch.new.self.latch ≡ None = subst (λ (l : Attempt). IsOpenAfter l c.loop-steps.cpu.latch c.attempts-batch.new.self.latch) c.in-Step.is c.attempts-batch.ensures.latch in
    record {
      at = λ memory st.
          let b = c.attempts-batch in
          let t = turned (c.loop-steps.invariant.at memory st) b.new.self (g.P.Port.view b.new.port) b.result.steps (c.in-Step.is ∙ ap (λ x. attempt.Step x) c.in-None.is)
          b.ensures.steps b.ensures.within b.ensures.before in
          goes_on t (g.K.Sink.contents c.loop-steps.sink) closed t.at.wrote;
      within = few;
      inside = λ some. let no = subst IsSome closed some in absurd (cc);
      unsent = c.attempts-batch.ensures.unsent;
      quiet = c.loop-steps.invariant.quiet;
    }

pub loop-steps-preserved : goal.loop-steps-preserved
loop-steps-preserved g c =
    let few : c.loop-steps.steps + c.attempts-batch.result.steps < c.args.limit = omega arith in
    record {
      at = λ memory st.
          let b = c.attempts-batch in
          let t = turned (c.loop-steps.invariant.at memory st) b.new.self (g.P.Port.view b.new.port) b.result.steps c.in-Part.is
          b.ensures.steps b.ensures.within b.ensures.before in
          parted t;
      within = omega arith;
      inside = λ some. few;
      unsent = c.attempts-batch.ensures.unsent;
      quiet = c.loop-steps.invariant.quiet;
    }

pub loop-steps-preserved-in-Continue-1 : goal.loop-steps-preserved-in-Continue-1
loop-steps-preserved-in-Continue-1 g c =
    let few : c.loop-steps.steps + c.attempts-batch.result.steps + 1 ≤ c.args.limit = omega arith in
    let closed : c.attempts-batch.new.self.latch ≡ None = subst (λ (l : Attempt). IsOpenAfter l c.loop-steps.cpu.latch c.attempts-batch.new.self.latch) c.in-Step.is c.attempts-batch.ensures.latch in
    record {
      at = λ memory st.
          let b = c.attempts-batch in
          let t = turned (c.loop-steps.invariant.at memory st) b.new.self (g.P.Port.view b.new.port) b.result.steps (c.in-Step.is ∙ ap (λ x. attempt.Step x) c.in-Some.is)
          b.ensures.steps b.ensures.within b.ensures.before in
          goes_on t (g.K.Sink.contents c.put_all.new.sink) closed
          (grew_only _ _ _ Out (run c.loop-steps.steps (flat_of c.args.cpu.now memory [])).output (c.in-Some.byte ∷ []) t.at.wrote c.in_ok-put_all-in-Some.ensures.ok);
      within = few;
      inside = λ some. let no = subst IsSome closed some in absurd (cc);
      unsent = c.attempts-batch.ensures.unsent;
      quiet = c.in_ok-put_all-in-Some.ensures.counts.quiet ∙ c.loop-steps.invariant.quiet;
    }

pub loop-steps-smaller-in-None : goal.loop-steps-smaller-in-None
loop-steps-smaller-in-None g c = less_by_step c.args.limit c.loop-steps.steps c.attempts-batch.result.steps c.loop-steps.cpu c.attempts-batch.new.self (omega arith)

pub loop-steps-smaller-in-Continue-1 : goal.loop-steps-smaller-in-Continue-1
loop-steps-smaller-in-Continue-1 g c = less_by_step c.args.limit c.loop-steps.steps c.attempts-batch.result.steps c.loop-steps.cpu c.attempts-batch.new.self (omega arith)

pub loop-steps-smaller : goal.loop-steps-smaller
loop-steps-smaller g c =
    let memory = c.requires.meant.0 in
    let m = flat_of c.args.cpu.now memory [] in
    let n = c.loop-steps.steps in
    let count = c.attempts-batch.result.steps in
    let cpu = c.loop-steps.cpu in
    let next = c.attempts-batch.new.self in
    let view = g.P.Port.view c.loop-steps.port in
    let after = g.P.Port.view c.attempts-batch.new.port in
    less_by_part c.args.limit m n cpu next view after _ _ (c.loop-steps.invariant.at memory c.requires.meant.1) count
    (subst (λ (l : Attempt). cpu.latch ≡ None → (held : List Area) → (output : List ℕ) → StandsFor view held → AreAttempts view (flat_of cpu held output) count l next after) c.in-Part.is c.attempts-batch.ensures.steps)
    (subst (λ (l : Attempt). IsSome cpu.latch → (place : Place) → IsPlaced cpu place → StandsFor view (machine_at place).memory → IsOneAttempt view place count l next after) c.in-Part.is c.attempts-batch.ensures.within)
    (subst (λ (l : Attempt). IsOpenAfter l cpu.latch next.latch) c.in-Part.is c.attempts-batch.ensures.latch) (omega arith)

pub returns-in_err-put_all-in-Some-clause-err : goal.returns-in_err-put_all-in-Some-clause-err
returns-in_err-put_all-in-Some-clause-err g c = λ memory st.
    let b = c.attempts-batch in
    let t = turned (c.loop-steps.invariant.at memory st) b.new.self (g.P.Port.view b.new.port) b.result.steps (c.in-Step.is ∙ ap (λ x. attempt.Step x) c.in-Some.is)
    b.ensures.steps b.ensures.within b.ensures.before in
    failed c.from_residual.result (cut_short c.args.limit c.in-Some.byte _ t (omega arith) c.in_err-put_all-in-Some.ensures.prefix)

pub returns-in-Ended-clause-ok : goal.returns-in-Ended-clause-ok
returns-in-Ended-clause-ok g c = λ memory st.
    let b = c.attempts-batch in
    let t = turned (c.loop-steps.invariant.at memory st) b.new.self (g.P.Port.view b.new.port) b.result.steps c.in-Ended.is
    b.ensures.steps b.ensures.within b.ensures.before in
    ends c.args.limit c.in-Ended.ending t (omega arith)

pub returns-in-Absent-clause-ok : goal.returns-in-Absent-clause-ok
returns-in-Absent-clause-ok g c = λ memory st.
    let b = c.attempts-batch in
    let t = turned (c.loop-steps.invariant.at memory st) b.new.self (g.P.Port.view b.new.port) b.result.steps c.in-Absent.is
    b.ensures.steps b.ensures.within b.ensures.before in
    absurd (none_absent c.in-Absent.field-0 t)

pub returns-clause-ok : goal.returns-clause-ok
returns-clause-ok g c = λ memory st.
    at_limit c.args.limit (flat_of c.args.cpu.now memory []) c.loop-steps.steps c.loop-steps.cpu (g.P.Port.view c.loop-steps.port) _ _ (c.loop-steps.invariant.at memory st)
    (closed_at_limit c.loop-steps.cpu.latch c.loop-steps.steps c.args.limit c.loop-steps.invariant.inside (omega arith)) c.loop-steps.invariant.within (omega arith)

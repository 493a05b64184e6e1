use Rattle.std.proofs.Common.{◌≡◌, ◌≤◌, ◌∙◌, true, false, None, ap, subst, arith, rules}
use Rattle.vax_flat.specs.Parts.{part_step}
use Rattle.vax_undo.specs.Transaction.{seen}
use Rattle.vax_quick.specs.Made.{computer}
use Rattle.vax_cpu.specs.declared.attempt.Tried.TheVariants as tried
use Rattle.vax_cpu.specs.Tried.{IsTried, KeepsClosed, KeepsTime}
use Rattle.vax_cpu.proofs.Attempts.{still_closed}
use Rattle.vax_cpu.proofs.Quick.{ran_append, ran_on, ran_quick}
use Rattle.vax_cpu.proofs.attempt.try_steps.Goals as goal

pub returns-then-steps-most-clause-ran : goal.returns-then-steps-most-clause-ran
returns-then-steps-most-clause-ran g c =
    let view = g.P.Port.view in
    let inv = c.loop-last.invariant in
    let old = seen view c.args.core.now c.args.term.now c.args.port.now in
    let now = seen view c.loop-last.core c.loop-last.term c.loop-last.port in
    let mid = seen view c.run-quick.new.core c.loop-last.term c.run-quick.new.port in
    let before = computer view c.loop-last.core c.loop-last.port in
    let after = computer view c.run-quick.new.core c.run-quick.new.port in
    let second = ran_quick c.run-quick.result before after c.loop-last.term inv.unsent c.run-quick.ensures.ran in
    (mid, ran_append c.loop-last.steps c.run-quick.result old now mid inv.ran second, c.try_apart-silent.ensures.tried)

pub returns-then-not-silent-clause-ran : goal.returns-then-not-silent-clause-ran
returns-then-not-silent-clause-ran g c =
    let view = g.P.Port.view in
    let inv = c.loop-last.invariant in
    let old = seen view c.args.core.now c.args.term.now c.args.port.now in
    let now = seen view c.loop-last.core c.loop-last.term c.loop-last.port in
    let mid = seen view c.run-quick.new.core c.loop-last.term c.run-quick.new.port in
    let before = computer view c.loop-last.core c.loop-last.port in
    let after = computer view c.run-quick.new.core c.run-quick.new.port in
    let second = ran_quick c.run-quick.result before after c.loop-last.term inv.unsent c.run-quick.ensures.ran in
    (mid, ran_append c.loop-last.steps c.run-quick.result old now mid inv.ran second, c.try_apart-silent.ensures.tried)

pub returns-then-not-silent-clause-all : goal.returns-then-not-silent-clause-all
returns-then-not-silent-clause-all g c = λ step.
    let no : c.try_apart-silent.result ≡ false = search rules in
    absurd (c.try_apart-silent.ensures.other no step)

pub returns-clause-ran : goal.returns-clause-ran
returns-clause-ran g c =
    let view = g.P.Port.view in
    let old = seen view c.args.core.now c.args.term.now c.args.port.now in
    let now = seen view c.loop-last.core c.loop-last.term c.loop-last.port in
    let rest = c.try_logged-several.ensures.ran in
    (rest.0, ran_append c.loop-last.steps c.try_logged-several.result.steps old now rest.0 c.loop-last.invariant.ran rest.1, rest.2)

pub loop-last-preserved : goal.loop-last-preserved
loop-last-preserved g c =
    let view = g.P.Port.view in
    let inv = c.loop-last.invariant in
    let run = c.run-quick in
    let last = c.try_apart-silent in
    let old = seen view c.args.core.now c.args.term.now c.args.port.now in
    let now = seen view c.loop-last.core c.loop-last.term c.loop-last.port in
    let mid = seen view run.new.core c.loop-last.term run.new.port in
    let new = seen view last.new.core last.new.term last.new.port in
    let yes : last.result ≡ true = search rules in
    let is : last.new.last ≡ tried.Step None = last.ensures.silent yes in
    let one : IsTried part_step mid (tried.Step None) new = subst (λ t. IsTried part_step mid t new) is last.ensures.tried in
    let before = computer view c.loop-last.core c.loop-last.port in
    let after = computer view run.new.core run.new.port in
    let second = ran_quick run.result before after c.loop-last.term inv.unsent run.ensures.ran in
    record {
      ran = ran_on c.loop-last.steps run.result old now mid new inv.ran second one (ap (λ v. v.items) last.ensures.input);
      few = omega arith;
      silent = is;
      unsent = last.ensures.unsent;
      input = last.ensures.input ∙ inv.input;
      clock = λ h.
          let within = inv.clock h in
          let same = run.ensures.clock in
          let here : run.new.core.clock ≤ 999 = omega arith in
          subst (λ t. KeepsTime last.new.core.clock t) is (last.ensures.clock here);
      closed = λ h. subst (λ t. KeepsClosed last.new.core.psl t) is (last.ensures.closed (still_closed c.loop-last.core.psl run.new.core.psl run.ensures.closed (inv.closed h)));
      since = λ start h. last.ensures.since start (run.ensures.since start (inv.since start h));
    }

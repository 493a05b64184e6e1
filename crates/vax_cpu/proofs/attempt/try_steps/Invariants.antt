use Rattle.std.proofs.Common.{◌≡◌, ◌-◌, ◌<◌, ◌≤◌, None}
use Rattle.vax_undo.specs.FirstPart.{NothingOpen}
use Rattle.vax_undo.specs.Transaction.{seen}
use Rattle.vax_cpu.specs.declared.attempt.Tried.TheVariants as tried
use Rattle.vax_cpu.specs.Batch.{Ran}
use Rattle.vax_cpu.proofs.attempt.try_steps.Given as goal

-- the steps so far were completed
abbrev pub invariant-loop-last : goal.invariant-loop-last
invariant-loop-last g l = record {
  ran : Ran l.steps (seen g.P.Port.view l.fn.core l.fn.term l.fn.port) (seen g.P.Port.view l.core l.term l.port);
  few : l.steps < l.most;
  silent : l.last ≡ tried.Step None;
  unsent : l.term.out ≡ None;
  input : l.term.input ≡ l.fn.term.input;
  clock : l.fn.core.clock ≤ 999 → l.core.clock ≤ 999;
  closed : NothingOpen l.fn.core.psl → NothingOpen l.core.psl;
  since : (start : _) → g.P.Port.since start l.fn.port → g.P.Port.since start l.port;
}

abbrev pub decreases-loop-last : goal.decreases-loop-last
decreases-loop-last g l = l.most - l.steps

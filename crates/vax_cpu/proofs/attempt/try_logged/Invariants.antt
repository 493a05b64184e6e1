use Rattle.std.proofs.Common.{◌≡◌, ◌-◌, ◌<◌, ◌≤◌, None}
use Rattle.vax_undo.specs.FirstPart.{NothingOpen}
use Rattle.vax_undo.specs.Transaction.{bare, present, undone, room, IsReady, seen}
use Rattle.vax_cpu.specs.Batch.{Ran}
use Rattle.vax_cpu.proofs.attempt.try_logged.Given as goal

-- the steps so far were completed, and the log is that of a transaction that has just begun
abbrev pub invariant-loop-steps : goal.invariant-loop-steps
invariant-loop-steps g l = record {
  ran : Ran l.steps (seen g.P.Port.view l.fn.core l.fn.term l.fn.port) (present g.P.Port.view l.txn);
  few : l.steps < l.most;
  undone : undone g.P.Port.view l.txn ≡ bare (present g.P.Port.view l.txn);
  room : room l.txn ≡ 96;
  ready : IsReady g.P.Port.view l.txn;
  core : l.txn.core.ghost_name ≡ l.initial.txn.core.ghost_name;
  term : l.txn.term.ghost_name ≡ l.initial.txn.term.ghost_name;
  port : l.txn.port.ghost_name ≡ l.initial.txn.port.ghost_name;
  unsent : l.txn.term.now.out ≡ None;
  input : l.txn.term.now.input ≡ l.fn.term.input;
  clock : l.fn.core.clock ≤ 999 → l.txn.core.now.clock ≤ 999;
  closed : NothingOpen l.fn.core.psl → NothingOpen l.txn.core.now.psl;
  since : (start : _) → g.P.Port.since start l.fn.port → g.P.Port.since start l.txn.port.now;
}

abbrev pub decreases-loop-steps : goal.decreases-loop-steps
decreases-loop-steps g l = l.most - l.steps

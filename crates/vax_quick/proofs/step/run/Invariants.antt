use Rattle.std.proofs.Common.{◌≡◌, ◌-◌, ◌≤◌}
use Rattle.vax_undo.specs.FirstPart.{first_part_done}
use Rattle.vax_quick.specs.Code.{IsKnown}
use Rattle.vax_quick.specs.Made.{IsStill, MakesSteps, computer}
use Rattle.vax_quick.proofs.step.run.Given as goal

-- the steps so far were made
abbrev pub invariant-loop-steps : goal.invariant-loop-steps
invariant-loop-steps g l = record {
  ran : MakesSteps l.steps (computer g.P.Port.view l.fn.core l.fn.port) (computer g.P.Port.view l.core l.port);
  few : l.steps ≤ l.most;
  still : IsStill l.core;
  clock : l.core.clock ≡ l.fn.core.clock;
  closed : first_part_done l.core.psl ≤ first_part_done l.fn.core.psl;
  since : (start : _) → g.P.Port.since start l.fn.port → g.P.Port.since start l.port;
  known : IsKnown g.P.Port.lies_in g.P.Port.since l.code l.port;
}

abbrev pub decreases-loop-steps : goal.decreases-loop-steps
decreases-loop-steps g l = l.most - l.steps

use Rattle.std.proofs.Common.{◌≡◌, map, drop}
use Rattle.vax_asm_second.specs.Faults.{first, first_of, assigned_faults}
use Rattle.vax_asm_first.specs.View.{assignment_of}
use Rattle.vax_asm_scope.specs.Kept.{scope_of}
use Rattle.vax_asm_second.proofs.faults.assigned_fault.Given as goal

abbrev pub invariant-loop-assignment : goal.invariant-loop-assignment
invariant-loop-assignment l =
    first l.found (first_of (assigned_faults (scope_of l.scope).sources (map assignment_of (drop l.assignment-index l.assignments))))
    ≡ first_of (assigned_faults (scope_of l.scope).sources (map assignment_of l.assignments))

use Rattle.std.proofs.Common.{◌≡◌, ◌++◌, map, drop}
use Rattle.vax_asm_second.specs.Faults.{assigned_faults}
use Rattle.vax_asm_first.specs.View.{assignment_of}
use Rattle.vax_asm_scope.specs.Kept.{scope_of}
use Rattle.vax_asm_second.proofs.lists.Listing.list_assignments.Given as goal

abbrev pub invariant-loop-assignment : goal.invariant-loop-assignment
invariant-loop-assignment l =
    l.self.faults.items ++ assigned_faults (scope_of l.scope).sources (map assignment_of (drop l.assignment-index l.assignments))
    ≡ l.fn.self.faults.items ++ assigned_faults (scope_of l.scope).sources (map assignment_of l.assignments)

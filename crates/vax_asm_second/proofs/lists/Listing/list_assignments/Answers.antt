use Rattle.vax_asm_scope.specs.Kept.{scope_of}
use Rattle.vax_asm_second.proofs.Listing.{assignment_listed}
use Rattle.vax_asm_second.proofs.lists.Listing.list_assignments.Goals as goal

pub loop-assignment-preserved : goal.loop-assignment-preserved
loop-assignment-preserved c =
    let before = c.loop-assignment in
    assignment_listed (scope_of c.args.scope.now).sources c.args.assignments.now before.assignment-index c.assignment-item.result c.fault_of.result before.self.faults.items _ _
    c.loop-assignment-test.true c.assignment-item.is c.fault_of.ensures c.in_ok-add.ensures before.invariant

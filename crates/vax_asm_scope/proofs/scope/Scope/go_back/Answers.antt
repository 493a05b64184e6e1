use Rattle.std.proofs.Common.{◌∙◌, sym}
use Rattle.vax_asm_scope.specs.View.{scope_in}
use Rattle.vax_asm_scope.proofs.scope.Scope.go_back.Goals as goal

pub invariant_of-drop : goal.invariant_of-drop
invariant_of-drop c =
    let before = c.replace-tables.result in
    record {
      in_range = before.mark_in_range (scope_in c.go_back.new.self) (c.go_back.ensures.back cc);
      mark_in_range = λ m h. absurd (cc (c.go_back.ensures.marked, h));
    }

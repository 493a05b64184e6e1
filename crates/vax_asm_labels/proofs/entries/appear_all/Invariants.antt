use Rattle.std.proofs.Common.{◌≡◌, Some, drop, map}
use Rattle.vax_asm_labels.specs.Naming.{names_from}
use Rattle.vax_asm_scope.specs.Kept.{scope_of, KeepsMark}
use Rattle.vax_asm_statement.specs.Parts.{parts}
use Rattle.vax_asm_labels.proofs.entries.appear_all.Given as goal

abbrev pub invariant-loop-part : goal.invariant-loop-part
invariant-loop-part l = record {
  names : names_from l.linkage l.line (map (λ s. s.now) (drop l.part-index l.part-items)) (Some (scope_of l.scope))
      ≡ names_from l.linkage l.line (parts l.operands) (Some (scope_of l.fn.scope));
  mark : KeepsMark l.fn.scope l.scope;
}

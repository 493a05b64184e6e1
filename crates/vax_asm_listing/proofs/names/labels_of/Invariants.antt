use Rattle.std.proofs.Common.{◌≡◌, map, take}
use Rattle.vax_asm_listing.specs.Rows.{label_of}
use Rattle.vax_asm_names.specs.View.{name_of}
use Rattle.vax_asm_names.specs.declared.types.Name.{Name}
use Rattle.vax_asm_scope.specs.Kept.{scope_of}
use Rattle.vax_asm_listing.proofs.names.labels_of.Given as goal

abbrev pub invariant-loop-name : goal.invariant-loop-name
invariant-loop-name l = l.labels.items ≡ map (λ (n : Name). label_of (scope_of l.scope) (name_of n)) (take l.name-index l.names)

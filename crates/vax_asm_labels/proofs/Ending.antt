-- A fault of a part is the fault of the statement, or one that goes before it; and what stood before leaves its names.
use Rattle.std.proofs.Common.{◌≡◌, ℕ, Bool, List, Option, Some, None, Result, Ok, Err, refl, sym, ap, ◌∙◌}
use Rattle.vax_macro.specs.declared.error.FaultKind.{FaultKind}
use Rattle.vax_asm_names.specs.declared.types.Duplicate.{Duplicate}
use Rattle.vax_asm_labels.specs.Naming.{assigned_by}
use Rattle.vax_asm_first.specs.Faults.{lowest}
use Rattle.vax_asm_first.specs.Progress.{after_change, done, done_by, joined}
use Rattle.vax_asm_first.specs.Standing.{Standing, with_scope}
use Rattle.vax_asm_scope.specs.Scope.{Scope}

either : (f : Option FaultKind) (kind : FaultKind) (s t : Standing) → done_by (lowest f (Some kind)) t ≡ done_by (lowest f (Some kind)) s
either (Some other) kind s t = refl
either None kind s t = refl

pub part_fails : (f : Option FaultKind) (kind : FaultKind) (s t : Standing) (r : Result Standing FaultKind) → r ≡ Err kind → done_by (lowest f (Some kind)) t ≡ done (joined f (after_change s r))
part_fails f kind s t r h = either f kind s t ∙ ap (λ (x : Result Standing FaultKind). done (joined f (after_change s x))) (sym h)

pub scope_left : (global : Bool) (name : List ℕ) (x : Scope) (s : Standing) (r : Result Scope Duplicate) → assigned_by global name (with_scope x s) r ≡ assigned_by global name s r
scope_left global name x s (Ok scope) = refl
scope_left global name x s (Err e) = refl

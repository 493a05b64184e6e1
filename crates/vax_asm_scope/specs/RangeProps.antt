-- That names are in range is a fact.
use Rattle.std.proofs.Props.{props}
use Rattle.vax_asm_scope.specs.Scope.{Scope, IsInRange}
use Rattle.vax_asm_scope.specs.View.{IsMarkInRange}
use Rattle.vax_asm_scope.specs.declared.tables.Tables.{Tables}

pub range_prop : (s : Scope) → IsProp (IsInRange s)
range_prop s = Prim.hlevel props

pub mark_range_prop : (t : Tables) → IsProp (IsMarkInRange t)
mark_range_prop t = Prim.hlevel props

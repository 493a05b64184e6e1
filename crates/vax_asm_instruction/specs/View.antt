-- What the code's types mean.
use Rattle.std.specs.Prelude.{◌≡◌, Result, IfOk}
use Rattle.vax_asm_first.specs.Standing.{Standing as Before}
use Rattle.vax_asm_first.specs.View.{filling_of, progress_of, standing_of}
use Rattle.vax_asm_first.specs.declared.types.Standing.{Standing}
use Rattle.vax_asm_scope.specs.Scope.{Scope}
use Rattle.vax_asm_instruction.specs.declared.statement.Prepared.{Prepared}
use Rattle.vax_asm_instruction.specs.declared.statement.Reached.{Reached}
use Rattle.vax_asm_instruction.specs.Stating as specs

abbrev pub prepared_seen : Prepared → Scope → specs.Prepared
prepared_seen p s = record { addressed = p.addressed; filling = filling_of p.filling; scope = s }

abbrev pub reached_seen : Reached → Standing → specs.Reached
reached_seen r s = record { at = r.at; progress = progress_of r.fault s }

-- The call comes to what a part of an instruction adds to what stood before; memory may be refused at any time.
abbrev pub Reaches : {E : Type 0} → (Before → specs.Reached) → Result Reached E → (old new : Standing) → Type 0
Reaches meant result old new = IfOk result (λ r. reached_seen r new ≡ meant (standing_of old))

-- What a statement's code answers.
use Rattle.std.specs.Prelude.{◌≡◌, List, Result, IfOk}
use Rattle.vax_asm.specs.Placing as specs
use Rattle.vax_asm.specs.Placing.{waiting_in}
use Rattle.vax_asm.specs.Walk.{Assembly}
use Rattle.vax_asm.specs.declared.placing.Placed.{Placed}
use Rattle.vax_asm.specs.declared.placing.Placed.TheVariants.{Stands, FaultyLabel, Faulty}
use Rattle.vax_asm_labels.specs.Naming.{with_waiting}
use Rattle.vax_asm_first.specs.Fixups.{Assignment}
use Rattle.vax_asm_first.specs.Standing.{Standing}

-- What stands behind the statement, or its fault; behind a faulty label all is as before. The assignments that wait are those before, and the one
-- that the statement is.
abbrev pub IsPlaced : Placed → (before after : Standing) → (assignments more : List Assignment) → specs.Placed → Type 0
IsPlaced Stands before after assignments more p = (p ≡ specs.Stands after (waiting_in p)) × (more ≡ with_waiting (waiting_in p) assignments)
IsPlaced (FaultyLabel kind) before after assignments more p = (p ≡ specs.FaultyLabel kind) × (after ≡ before) × (more ≡ assignments)
IsPlaced (Faulty kind) before after assignments more p = (p ≡ specs.Faulty kind (waiting_in p)) × (more ≡ with_waiting (waiting_in p) assignments)

-- The call comes to what a statement is from what stands before it; memory may be refused at any time.
abbrev pub Places : {E : Type 0} → (Standing → specs.Placed) → Result Placed E → (before after : Assembly) → Type 0
Places meant result before after = IfOk result (λ p. IsPlaced p before.standing after.standing before.assignments after.assignments (meant before.standing))

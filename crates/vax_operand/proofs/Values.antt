-- Values of operands.
use Rattle.std.proofs.Common.{ℕ, ◌<◌, ◌^◌}
use Rattle.vax_flat.specs.declared.Operand.{Operand}
use Rattle.vax_flat.specs.declared.Operand.TheVariants.{Value, Register, Memory, FieldRegister, Target}
use Rattle.vax_flat.specs.Operand.{IsValue}
use Rattle.vax_flat.specs.Rows.{value_of}

pub value_of_fits : (width : ℕ) (operand : Operand) → IsValue width operand → value_of operand < 256 ^ width
unfolding value_of
value_of_fits width (Value x) h = h
value_of_fits width (Register n) h = absurd h
value_of_fits width (Memory addr) h = absurd h
value_of_fits width (FieldRegister n) h = absurd h
value_of_fits width (Target addr) h = absurd h

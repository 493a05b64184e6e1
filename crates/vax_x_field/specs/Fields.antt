-- What a call that reads a field gives, and what holds one.
use Rattle.std.specs.Prelude.{◌≡◌, ℕ, ◌<◌, ◌⊎◌, Bool, List, Result}
use Rattle.vax_flat.specs.declared.Operand.{Operand}
use Rattle.vax_flat.specs.declared.Operand.TheVariants as operand
use Rattle.vax_flat.specs.State.{State}
use Rattle.vax_flat.specs.Accesses.{Accesses, Leaf}
use Rattle.vax_flat.specs.Port.{View}
use Rattle.vax_flat.specs.Field.{bits_of}
use Rattle.vax_undo.specs.declared.txn.CutShort.{CutShort}
use Rattle.vax_undo.specs.declared.txn.Txn.{Txn as Transaction}
use Rattle.vax_undo.specs.Trail.{Trail}
use Rattle.vax_undo.specs.Transaction.{Passes}

-- The call makes the accesses of a tree that gives a field of this size, and answers the number that the field's bits are.
abbrev pub DoesBits : {P : Type 0} → (P → View) → (P → Trail) → ℕ → (State → (List Bool → State → Accesses Leaf) → Accesses Leaf)
    → Result ℕ CutShort → Transaction P → Transaction P → Type 0
DoesBits view trail size tree result old new = Passes view trail tree (λ next x. next (bits_of size x)) result old new

-- so many bytes of memory, or of a register or two of which none is PC
abbrev pub IsHeld : ℕ → Operand → Type 0
IsHeld width (operand.Value x) = ⊥
IsHeld width (operand.Register n) = (n < 15) × ((width ≡ 4) ⊎ ((width ≡ 8) × (n < 14)))
IsHeld width (operand.Memory addr) = Unit {0}
IsHeld width (operand.FieldRegister n) = ⊥
IsHeld width (operand.Target addr) = ⊥

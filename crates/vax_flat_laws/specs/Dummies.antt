-- What definitions would give for operands of a form that can't come.
use Rattle.std.specs.Prelude.{ℕ}
use Rattle.vax_isa.specs.declared.Letter.{Letter}
use Rattle.vax_isa.specs.declared.Letter.TheVariants.{Read, Modify, Write, Address, Field, Branch}
use Rattle.vax_flat.specs.declared.Operand.{Operand}
use Rattle.vax_flat.specs.declared.Operand.TheVariants as operand
use Rattle.vax_flat.specs.State.{State}
use Rattle.vax_flat.specs.Accesses.{Accesses, Leaf}
use Rattle.vax_flat.specs.Operand.{read_at, write_at, register_value}
use Rattle.vax_flat.specs.Rows.{with_value}

-- the value of an operand that is read, or any other number
abbrev pub value_or : ℕ → Operand → ℕ
value_or other (operand.Value x) = x
value_or other (operand.Register n) = other
value_or other (operand.Memory addr) = other
value_or other (operand.FieldRegister n) = other
value_or other (operand.Target addr) = other

-- the address of an operand in memory, or any other number
abbrev pub address_or : ℕ → Operand → ℕ
address_or other (operand.Value x) = other
address_or other (operand.Register n) = other
address_or other (operand.Memory addr) = addr
address_or other (operand.FieldRegister n) = other
address_or other (operand.Target addr) = other

-- where a branch goes, or any other number
abbrev pub target_or : ℕ → Operand → ℕ
target_or other (operand.Value x) = other
target_or other (operand.Register n) = other
target_or other (operand.Memory addr) = other
target_or other (operand.FieldRegister n) = other
target_or other (operand.Target addr) = addr

-- the value at a place of a result, or any other tree
abbrev pub value_at_or : Accesses Leaf → ℕ → Operand → State → (ℕ → State → Accesses Leaf) → Accesses Leaf
value_at_or other width (operand.Value x) s next = other
value_at_or other width (operand.Register n) s next = next (register_value width n s) s
value_at_or other width (operand.Memory addr) s next = read_at addr width s next
value_at_or other width (operand.FieldRegister n) s next = other
value_at_or other width (operand.Target addr) s next = other

-- a value written to a place of a result, or any other tree
abbrev pub stored_or : Accesses Leaf → ℕ → Operand → ℕ → State → (State → Accesses Leaf) → Accesses Leaf
stored_or other width (operand.Value x) value s next = other
stored_or other width (operand.Register n) value s next = next (with_value width n value s)
stored_or other width (operand.Memory addr) value s next = write_at addr width value s next
stored_or other width (operand.FieldRegister n) value s next = other
stored_or other width (operand.Target addr) value s next = other

-- the forms that an operand of a letter may have
abbrev pub HasForm : Letter → Operand → Type 0
HasForm Read (operand.Value x) = Unit {0}
HasForm Read (operand.Register n) = ⊥
HasForm Read (operand.Memory addr) = ⊥
HasForm Read (operand.FieldRegister n) = ⊥
HasForm Read (operand.Target addr) = ⊥
HasForm Modify (operand.Value x) = ⊥
HasForm Modify (operand.Register n) = Unit {0}
HasForm Modify (operand.Memory addr) = Unit {0}
HasForm Modify (operand.FieldRegister n) = ⊥
HasForm Modify (operand.Target addr) = ⊥
HasForm Write (operand.Value x) = ⊥
HasForm Write (operand.Register n) = Unit {0}
HasForm Write (operand.Memory addr) = Unit {0}
HasForm Write (operand.FieldRegister n) = ⊥
HasForm Write (operand.Target addr) = ⊥
HasForm Address (operand.Value x) = ⊥
HasForm Address (operand.Register n) = ⊥
HasForm Address (operand.Memory addr) = Unit {0}
HasForm Address (operand.FieldRegister n) = ⊥
HasForm Address (operand.Target addr) = ⊥
HasForm Field (operand.Value x) = ⊥
HasForm Field (operand.Register n) = ⊥
HasForm Field (operand.Memory addr) = Unit {0}
HasForm Field (operand.FieldRegister n) = Unit {0}
HasForm Field (operand.Target addr) = ⊥
HasForm Branch (operand.Value x) = ⊥
HasForm Branch (operand.Register n) = ⊥
HasForm Branch (operand.Memory addr) = ⊥
HasForm Branch (operand.FieldRegister n) = ⊥
HasForm Branch (operand.Target addr) = Unit {0}

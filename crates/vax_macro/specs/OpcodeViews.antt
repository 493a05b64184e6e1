-- What the types of opcodes mean.
use Rattle.std.specs.Prelude.{List, Option, option_map, Vec}
use Rattle.std.specs.Global.{Global}
use Rattle.vax_macro.specs.Opcodes as specs
use Rattle.vax_macro.specs.declared.opcodes.Opcode as code_opcode
use Rattle.vax_macro.specs.declared.opcodes.Operand.{Operand}

abbrev pub opcode_view : code_opcode.Opcode → specs.Opcode
opcode_view o = record { name = o.name.items; number = o.number; operands = o.operands.items }

abbrev pub operands_view : Option (Vec Operand Global) → Option (List Operand)
operands_view o = option_map (λ v. v.items) o

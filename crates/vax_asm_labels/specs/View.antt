-- What an assignment's code leaves.
use Rattle.std.specs.Prelude.{◌≡◌, List, map, Option, Result, Ok, Err}
use Rattle.std.specs.Global.{Vec}
use Rattle.vax_asm_labels.specs.Naming.{with_waiting}
use Rattle.vax_asm_first.specs.Fixups.{Assignment}
use Rattle.vax_asm_first.specs.View.{assignment_of}
use Rattle.vax_asm_first.specs.declared.types.Assignment as code
use Rattle.vax_asm_first.specs.declared.types.Refused.{Refused}
use Rattle.vax_asm_first.specs.declared.types.Refused.TheVariants.{Fault, NoMemory}

-- the assignments behind a statement that may be one, whether it has a fault or not; memory may be refused at any time
abbrev pub Waits : Result Unit Refused → (before after : List Assignment) → Option Assignment → Type 0
Waits (Ok done) before after waiting = after ≡ with_waiting waiting before
Waits (Err (Fault kind)) before after waiting = after ≡ with_waiting waiting before
Waits (Err NoMemory) before after waiting = Unit {0}

-- the same of the code's assignments
abbrev pub Leaves : Option Assignment → Result Unit Refused → (old new : Vec code.Assignment) → Type 0
Leaves waiting result old new = Waits result (map assignment_of old.items) (map assignment_of new.items) waiting

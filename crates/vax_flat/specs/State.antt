-- What an instruction may change beside memory.
use Rattle.std.specs.Prelude.{ℕ, Bool, Option, List, slice_get, slice_index, slice_set}
use Rattle.vax_word.specs.declared.Core.{Core}
use Rattle.vax_word.specs.declared.Codes.{Codes}
use Rattle.vax_word.specs.declared.Psl.{Psl}
use Rattle.vax_word.specs.Status.{is_one, mode_of, ipl_of, with_codes}
use Rattle.vax_flat.specs.declared.Trap.{Trap}
use Rattle.vax_flat.specs.declared.Trap.TheVariants as trap

-- the registers; the console's input, with the number of its bytes taken; and the byte that this instruction sent to the console
pub record State : Type 0 where
  pub core : Core
  pub input : List ℕ
  pub taken : ℕ
  pub sent : Option ℕ

-- register n
abbrev pub register : State → ℕ → ℕ
register s n = slice_index s.core.regs n

abbrev pub with_register : State → ℕ → ℕ → State
with_register s n value = record s { core = record s.core { regs = slice_set s.core.regs n value } }

-- the current access mode
abbrev pub mode : State → ℕ
mode s = mode_of s.core.psl

abbrev pub with_psl : State → Psl → State
with_psl s psl = record s { core = record s.core { psl = psl } }

-- other condition codes, and the rest of the status as it was
abbrev pub with_conditions : State → Codes → State
with_conditions s codes = with_psl s (with_codes s.core.psl codes)

-- the interrupt priority level
abbrev pub priority : State → ℕ
priority s = ipl_of s.core.psl

-- whether an integer overflow traps (processor status word, IV)
abbrev pub overflow_enabled : State → Bool
overflow_enabled s = is_one s.core.psl.0 5

-- the type of an arithmetic trap, as it is pushed
abbrev pub trap_number : Trap → ℕ
trap_number trap.IntegerOverflow = 1
trap_number trap.IntegerDivide = 2
trap_number trap.SubscriptRange = 7

abbrev pub with_stack : State → ℕ → ℕ → State
with_stack s n value = record s { core = record s.core { stacks = slice_set s.core.stacks n value } }

-- the software interrupt requests, one bit a level
abbrev pub with_requests : State → ℕ → State
with_requests s value = record s { core = record s.core { sisr = value } }

-- the interval clock's control and status, and its count
abbrev pub with_timer : State → ℕ → State
with_timer s value = record s { core = record s.core { iccs = value } }

abbrev pub with_clock : State → ℕ → State
with_clock s value = record s { core = record s.core { clock = value } }

-- the next byte of the console's input
abbrev pub next_input : State → Option ℕ
next_input s = slice_get s.input s.taken

abbrev pub with_taken : State → ℕ → State
with_taken s place = record s { taken = place }

abbrev pub with_sent : State → Option ℕ → State
with_sent s byte = record s { sent = byte }

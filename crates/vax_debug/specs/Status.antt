-- The processor status longword, as it is changed.
use Rattle.std.specs.Prelude.{ℕ, ◌≡◌, ◌+◌, ◌*◌, ◌/◌, ◌%◌, ◌^◌, ◌==◌, ◌&&◌, ◌||◌, not, nat_le, nat_lt, Bool, false, if◌then◌else◌, List}
use Rattle.vax_word.specs.Status.{ipl_of, mode_of, prev_of}
use Rattle.vax_word.specs.declared.Core.{Core}
use Rattle.vax_word.specs.declared.Psl.{Psl}
use Rattle.vax_flat.specs.Delivery.{on_interrupt_stack, stack_in_use, switched}
use Rattle.vax_flat.specs.State.{State}
use Rattle.vax_flat.specs.Step.{Flat, state_of}
use Rattle.vax_flat.specs.System.{has_reserved_bits}
use Rattle.vax_machine.specs.Console.{with_core}
use Rattle.vax_console.specs.Ends.{Scene}
use Rattle.vax_console.specs.Transcript.{Session, with_machine}
use Rattle.vax_debug.specs.Sessions.{IsHere, Origin}
use Rattle.vax_debug_words.specs.declared.request.Field.{Field}
use Rattle.vax_debug_words.specs.declared.request.Field.TheVariants as field

abbrev pub psl : ℕ → Psl
psl value = record { 0 = value }

-- mode, stack and priority don't go together: interrupts have their stack in kernel mode above priority 0, only kernel mode has a priority, and the previous
-- mode isn't more privileged
unfoldable pub is_mixed : Psl → Bool
is_mixed p =
    (on_interrupt_stack p && (not (mode_of p == 0) || ipl_of p == 0))
    || ((nat_lt 0 (ipl_of p) && not (mode_of p == 0)) || nat_lt (prev_of p) (mode_of p))

-- a status that REI takes from some other: no reserved bit is 1, and mode, stack and priority go together
unfoldable pub is_status : Psl → Bool
is_status p = not (has_reserved_bits p.0 || is_mixed p)

-- The registers with another status. Where it names another stack, that one's pointer goes into SP, as in REI.
unfoldable pub with_stack_of : Psl → State → Core
with_stack_of p s = record (switched (stack_in_use s.core.psl) (stack_in_use p) s).core { psl = p }

abbrev pub with_status : Psl → Flat → Flat
with_status p m = with_core (with_stack_of p (state_of m)) m

-- where it is one that a program may have
abbrev pub session_with_status : ℕ → Session → Session
session_with_status value s = if is_status (psl value) then with_machine (with_status (psl value) s.machine) s else s

-- the fields of the status: the lowest bit of each, and how many bits it has (VAX Architecture Reference Manual, processor status longword)

abbrev pub lowest_bit : Field → ℕ
lowest_bit field.Mode = 24
lowest_bit field.Previous = 22
lowest_bit field.Priority = 16
lowest_bit field.InterruptStack = 26
lowest_bit field.FirstPartDone = 27
lowest_bit field.TracePending = 30
lowest_bit field.DecimalOverflow = 7
lowest_bit field.FloatingUnderflow = 6
lowest_bit field.IntegerOverflow = 5
lowest_bit field.Trace = 4
lowest_bit field.Negative = 3
lowest_bit field.Zero = 2
lowest_bit field.Overflow = 1
lowest_bit field.Carry = 0

abbrev pub width : Field → ℕ
width field.Mode = 2
width field.Previous = 2
width field.Priority = 5
width f = 1

-- so many bits from a bit on have another value, and all others stay
abbrev pub replaced : (first width value bits : ℕ) → ℕ
replaced first width value bits = ((bits / 2 ^ first / 2 ^ width * 2 ^ width + value) * 2 ^ first + bits % 2 ^ first) % 2 ^ 32

abbrev pub with_field : Field → ℕ → Psl → ℕ
with_field f value p = replaced (lowest_bit f) (width f) value p.0

-- the field has such a value, and with it the status is one that a program may have
abbrev pub may_have : Field → ℕ → Psl → Bool
may_have f value p = if nat_le (2 ^ width f) value then false else is_status (psl (with_field f value p))

abbrev pub session_with_field : Field → ℕ → Session → Session
session_with_field f value s =
    if nat_le (2 ^ width f) value then s else session_with_status (with_field f value s.machine.core.psl) s

-- the answer tells whether the field may have that value
abbrev pub FieldFrom : Scene → Scene → Field → (value : ℕ) → Bool → Type 0
FieldFrom before after f value result =
    (o : Origin) (s : Session) (replies : List ℕ) → IsHere o s replies before →
    (result ≡ may_have f value s.machine.core.psl) × IsHere o (session_with_field f value s) replies after

-- the answer tells whether it is
abbrev pub StatusFrom : Scene → Scene → (value : ℕ) → Bool → Type 0
StatusFrom before after value result =
    (o : Origin) (s : Session) (replies : List ℕ) → IsHere o s replies before →
    (result ≡ is_status (psl value)) × IsHere o (session_with_status value s) replies after

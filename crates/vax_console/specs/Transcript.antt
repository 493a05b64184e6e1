-- What a console replies, line by line: a fold over the lines of its script, on the flat machine, the steps that were made and their limit.
use Rattle.std.specs.Prelude.{ℕ, zero, suc, ◌+◌, ◌-◌, ◌||◌, min, Bool, nat_lt, if◌then◌else◌, List, [], ◌∷◌, ◌++◌, codes, decimal, length, slice_index, Option, None, Some, is_some}
use Rattle.vax_space.specs.declared.Area.{Area}
use Rattle.vax_space.specs.declared.Access.TheVariants.{Write}
use Rattle.vax_space.specs.Reference.{violation}
use Rattle.vax_outside.specs.Hex.{hex}
use Rattle.vax_flat.specs.declared.Ending.{Ending}
use Rattle.vax_flat.specs.Outcome.{is_allowed}
use Rattle.vax_flat.specs.Step.{Flat, step}
use Rattle.vax_report.specs.Lines.{ending_line, line, memory_line, register_line}
use Rattle.vax_report.specs.Report.{report}
use Rattle.vax_report.specs.declared.Last.{Last}
use Rattle.vax_report.specs.declared.Last.TheVariants as last
use Rattle.vax_machine.specs.Console.{memory_from, with_bytes, with_register}
use Rattle.vax_script.specs.declared.request.Request.{Request}
use Rattle.vax_script.specs.declared.request.Request.TheVariants.{ExamineRegister, ExamineMemory, DepositRegister, DepositMemory, Next, Continue, Show}
use Rattle.vax_script.specs.declared.request.Line.{Line}
use Rattle.vax_script.specs.declared.request.Line.TheVariants.{Blank, Request as Asks, Malformed}

-- a flat machine, and how many steps were made
pub record Session : Type 0 where
  pub machine : Flat
  pub steps : ℕ

-- runs

abbrev pub step_by : Option Ending → Session → Session
step_by (Some e) s = s
step_by None s = record { machine = step s.machine; steps = s.steps + 1 }

-- one step, unless the machine has ended
abbrev pub stepped : Session → Session
stepped s = step_by s.machine.ending s

-- so many steps, or fewer where the machine ends
unfoldable pub advanced : ℕ → Session → Session
advanced zero s = s
advanced (suc count) s = stepped (advanced count s)

-- how many steps are left up to a limit
abbrev pub left : ℕ → Session → ℕ
left limit s = limit - s.steps

-- changes of memory

-- a byte may be deposited in each page that some mode may write, and these are the pages that the kernel may write
abbrev pub may_deposit : List Area → (addr count : ℕ) → Bool
may_deposit memory addr count = is_allowed (violation memory addr count 0 Write)

-- replies

abbrev pub done_line : List ℕ
done_line = line (codes "OK")

-- the program counter, and how many steps were made
unfoldable pub at_line : Session → List ℕ
at_line s = line (codes "AT " ++ hex 8 (slice_index s.machine.core.regs 15) ++ codes " STEPS " ++ decimal s.steps)

-- how the machine ended, else that it reached the limit of steps
abbrev pub last_of : Option Ending → Last
last_of (Some e) = last.Ending e
last_of None = last.Steps

abbrev pub stop_line : Session → List ℕ
stop_line s = ending_line (last_of s.machine.ending)

abbrev pub unless_ended : Option Ending → List ℕ → List ℕ
unless_ended (Some e) text = line (codes "?ENDED")
unless_ended None text = text

-- behind so many steps of `NEXT`, of which the limit may have left some out
abbrev pub next_line : (short : Bool) → Session → List ℕ
next_line short s = if is_some s.machine.ending || short then stop_line s else at_line s

-- the reply to a request
unfoldable pub reply : (limit : ℕ) → Session → Request → List ℕ
reply limit s (ExamineRegister n) = register_line n (slice_index s.machine.core.regs n)
reply limit s (ExamineMemory addr count) = memory_line addr (memory_from s.machine.memory addr count)
reply limit s (DepositRegister n value) = done_line
reply limit s (DepositMemory addr bytes) = if may_deposit s.machine.memory addr (length bytes) then done_line else line (codes "?ADDRESS")
reply limit s (Next count) = unless_ended s.machine.ending (next_line (nat_lt (left limit s) count) (advanced (min count (left limit s)) s))
reply limit s Continue = unless_ended s.machine.ending (stop_line (advanced (left limit s) s))
reply limit s Show = report s.machine.core (last_of s.machine.ending) s.steps 0 s.machine.taken []

abbrev pub with_machine : Flat → Session → Session
with_machine m s = record s { machine = m }

-- and where it leaves the session
unfoldable pub answered : (limit : ℕ) → Session → Request → Session
answered limit s (ExamineRegister n) = s
answered limit s (ExamineMemory addr count) = s
answered limit s (DepositRegister n value) = with_machine (with_register n value s.machine) s
answered limit s (DepositMemory addr bytes) = if may_deposit s.machine.memory addr (length bytes) then with_machine (with_bytes addr bytes s.machine) s else s
answered limit s (Next count) = advanced (min count (left limit s)) s
answered limit s Continue = advanced (left limit s) s
answered limit s Show = s

-- lines

abbrev pub line_reply : ℕ → Session → Line → List ℕ
line_reply limit s Blank = []
line_reply limit s (Asks r) = reply limit s r
line_reply limit s Malformed = line (codes "?COMMAND")

abbrev pub after_line : ℕ → Session → Line → Session
after_line limit s Blank = s
after_line limit s (Asks r) = answered limit s r
after_line limit s Malformed = s

-- the replies to all lines, in order
unfoldable pub transcript : (limit : ℕ) → Session → List Line → List ℕ
transcript limit s [] = []
transcript limit s (l ∷ lines) = line_reply limit s l ++ transcript limit (after_line limit s l) lines

-- where they leave the session
unfoldable pub session_after : (limit : ℕ) → Session → List Line → Session
session_after limit s [] = s
session_after limit s (l ∷ lines) = session_after limit (after_line limit s l) lines

-- What the lines of a console script ask for.
use Rattle.std.specs.Prelude.{◌<◌, ◌≤◌, ℕ, ◌^◌, ◌==◌, ◌||◌, Bool, List, [], ◌∷◌, length, codes, map, Option, None, Some, option_map, if◌then◌else◌}
use Rattle.std.specs.List.{list_all}
use Rattle.std.specs.Str.{str_eq_ignore_ascii_case}
use Rattle.vax_lines.specs.Lines.{Text, lines}
use Rattle.vax_lines.specs.Words.{words, is_trimmed}
use Rattle.vax_lines.specs.Numbers.{number}
use Rattle.vax_script.specs.Numbers.{register, longword, some_bytes}
use Rattle.vax_script.specs.declared.request.Command.{Command}
use Rattle.vax_script.specs.declared.request.Command.TheVariants as command
use Rattle.vax_script.specs.declared.request.Request.{Request}
use Rattle.vax_script.specs.declared.request.Request.TheVariants.{ExamineRegister, ExamineMemory, DepositRegister, DepositMemory, Next, Continue, Show}
use Rattle.vax_script.specs.declared.request.Line.{Line}
use Rattle.vax_script.specs.declared.request.Line.TheVariants.{Blank, Request as Asks, Malformed}

-- a whole word, in any letter case
abbrev pub is_called : Text → Text → Bool
is_called name word = str_eq_ignore_ascii_case word name

unfoldable pub command_of : Text → Option Command
command_of word =
    if is_called (codes "EXAMINE") word then Some command.Examine
    else if is_called (codes "DEPOSIT") word then Some command.Deposit
    else if is_called (codes "NEXT") word then Some command.Next
    else if is_called (codes "CONTINUE") word then Some command.Continue
    else if is_called (codes "SHOW") word then Some command.Show
    else None

abbrev pub else_by : Option Request → Option Request → Option Request
else_by (Some r) other = Some r
else_by None other = other

-- `Rn`, or the address of four bytes
abbrev pub shown_at : Text → Option Request
shown_at what = else_by (option_map ExamineRegister (register what)) (option_map (λ addr. ExamineMemory addr 4) (longword what))

-- an address, and how many bytes from it on
abbrev pub shown_from : Option ℕ → Option ℕ → Option Request
shown_from None count = None
shown_from (Some addr) count = option_map (ExamineMemory addr) count

abbrev pub examined : List Text → Option Request
examined (what ∷ []) = shown_at what
examined (what ∷ count ∷ []) = shown_from (longword what) (number 16 count)
examined operands = None

-- a register and its new value
abbrev pub put_in : Option ℕ → Option ℕ → Option Request
put_in None value = None
put_in (Some n) value = option_map (DepositRegister n) value

-- an address and its new bytes
abbrev pub put_at : Option ℕ → Option (List ℕ) → Option Request
put_at None bytes = None
put_at (Some addr) bytes = option_map (DepositMemory addr) bytes

abbrev pub deposited : List Text → Option Request
deposited (what ∷ value ∷ []) = else_by (put_in (register what) (longword value)) (put_at (longword what) (some_bytes value))
deposited operands = None

-- so many steps, or one
abbrev pub stepped : List Text → Option Request
stepped [] = Some (Next 1)
stepped (count ∷ []) = option_map Next (number (10 ^ 15) count)
stepped operands = None

abbrev pub alone : Request → List Text → Option Request
alone r [] = Some r
alone r (operand ∷ operands) = None

unfoldable pub asked_by : Command → List Text → Option Request
asked_by command.Examine operands = examined operands
asked_by command.Deposit operands = deposited operands
asked_by command.Next operands = stepped operands
asked_by command.Continue operands = alone Continue operands
asked_by command.Show operands = alone Show operands

abbrev pub asked_with : Option Command → List Text → Option Request
asked_with None operands = None
asked_with (Some c) operands = asked_by c operands

-- `EXAMINE Rn`, `EXAMINE A` or `EXAMINE A N`, `DEPOSIT Rn V`, `DEPOSIT A BYTES`, `NEXT` or `NEXT N`, `CONTINUE`, `SHOW`
unfoldable pub request_of : List Text → Option Request
request_of [] = None
request_of (verb ∷ operands) = asked_with (command_of verb) operands

-- a space or a tab
abbrev pub is_blank : ℕ → Bool
is_blank c = c == 32 || c == 9

abbrev pub said : Option Request → Line
said (Some r) = Asks r
said None = Malformed

-- what a line says: spaces and tabs alone say nothing, and no space stands before the first word or behind the last
unfoldable pub line_of : Text → Line
line_of line =
    if list_all is_blank line then Blank
    else if is_trimmed line then said (request_of (words line))
    else Malformed

-- the lines of a script, each read by itself
abbrev pub readings : Text → List Line
readings script = map line_of (lines script)

-- the numbers of a request are in their ranges
unfoldable pub IsProper : Request → Type 0
IsProper (ExamineRegister n) = n < 16
IsProper (ExamineMemory addr count) = (1 ≤ count) × (count ≤ 16)
IsProper (DepositRegister n value) = n < 16
IsProper (DepositMemory addr bytes) = (1 ≤ length bytes) × (length bytes ≤ 64)
IsProper (Next count) = (1 ≤ count) × (count ≤ 10 ^ 15)
IsProper Continue = Unit {0}
IsProper Show = Unit {0}

abbrev pub IsProperLine : Line → Type 0
IsProperLine Blank = Unit {0}
IsProperLine (Asks r) = IsProper r
IsProperLine Malformed = Unit {0}

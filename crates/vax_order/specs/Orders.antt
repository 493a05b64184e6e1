-- The order in which processes go, and the first fault of a text.
use Rattle.std.specs.Prelude.{ℕ, zero, suc, ◌≡◌, ◌+◌, ◌-◌, ◌*◌, ◌^◌, ◌==◌, Bool, true, false, ◌&&◌, ◌||◌, nat_lt, nat_le, List, [], ◌∷◌, length, map, take, codes, Option, None, Some, Result, Ok, Err, ⊤, if◌then◌else◌}
use Rattle.std.specs.List.{filter_map, list_all, list_any}
use Rattle.vax_lines.specs.Lines.{Text, begins_with, lines}
use Rattle.vax_lines.specs.Words.{words, is_trimmed}
use Rattle.vax_lines.specs.Numbers.{number}
use Rattle.vax_order.specs.declared.line.Line.{Line}
use Rattle.vax_order.specs.declared.line.Reading.{Reading}
use Rattle.vax_order.specs.declared.line.Reading.TheVariants.{Silent, Says, Strange, Malformed}
use Rattle.vax_order.specs.declared.order.OrderError.{OrderError}
use Rattle.vax_order.specs.declared.order.OrderError.TheVariants.{Fault, NoMemory}

-- a space or a tab
abbrev pub is_blank : ℕ → Bool
is_blank c = c == 32 || c == 9

-- a blank line, or one whose first byte is `;`
abbrev pub is_silent : Text → Bool
is_silent line = list_all is_blank line || begins_with 59 line

abbrev pub is_digit : ℕ → Bool
is_digit c = nat_le 48 c && nat_le c 57

-- a decimal number without a leading zero, of any length
abbrev pub is_number : Text → Bool
is_number [] = false
is_number (c ∷ cs) = if c == 48 then length cs == 0 else list_all is_digit (c ∷ cs)

-- of a process, from 1, and a number of attempts, where they are in their ranges
abbrev pub counted : Option ℕ → Option ℕ → Reading
counted job None = Malformed
counted (Some j) (Some n) = Says (record { job = j - 1; count = n })
counted None (Some n) = Strange

-- `J N`, of so many processes
unfoldable pub pair_of : ℕ → List Text → Reading
pair_of jobs (job ∷ count ∷ []) = if is_number job then counted (number jobs job) (number (10 ^ 9) count) else Malformed
pair_of jobs ws = Malformed

unfoldable pub line_of : ℕ → Text → Reading
line_of jobs line =
    if is_silent line then Silent
    else if is_trimmed line then pair_of jobs (words line)
    else Malformed

-- the lines of a text, each read by itself
abbrev pub readings : ℕ → Text → List Reading
readings jobs text = map (line_of jobs) (lines text)

abbrev pub kind_of : Reading → Option ℕ
kind_of Silent = None
kind_of (Says line) = None
kind_of Strange = Some 2
kind_of Malformed = Some 1

abbrev pub said : Reading → Option Line
said Silent = None
said (Says line) = Some line
said Strange = None
said Malformed = None

abbrev pub or_later : ℕ → Option ℕ → Option (ℕ × ℕ) → Option (ℕ × ℕ)
or_later line (Some kind) later = Some (line, kind)
or_later line None later = later

-- the first fault of lines that are numbered from here on
unfoldable pub first_fault : ℕ → List Reading → Option (ℕ × ℕ)
first_fault n [] = None
first_fault n (r ∷ rs) = or_later n (kind_of r) (first_fault (n + 1) rs)

-- the line is of this process
abbrev pub is_of : ℕ → Line → Bool
is_of job line = line.job == job

-- each of so many processes has a line
unfoldable pub names_all : ℕ → List Line → Bool
names_all zero order = true
names_all (suc job) order = list_any (is_of job) order && names_all job order

-- no process is missing of so many, or it is one line past so many
abbrev pub unless_missing : ℕ → ℕ → List Line → Result (List Line) (ℕ × ℕ)
unless_missing jobs count order = if names_all jobs order then Ok order else Err (count + 1, 3)

abbrev pub unless_faulty : Option (ℕ × ℕ) → Result (List Line) (ℕ × ℕ) → Result (List Line) (ℕ × ℕ)
unless_faulty (Some fault) order = Err fault
unless_faulty None order = order

-- the order that a text is for so many processes, or its first fault: the line, from 1, and the kind
unfoldable pub order_of : ℕ → Text → Result (List Line) (ℕ × ℕ)
order_of jobs text =
    unless_faulty (first_fault 1 (readings jobs text))
    (unless_missing jobs (length (lines text)) (filter_map said (readings jobs text)))

-- the answer is that
abbrev pub Reads : ℕ → Text → Result (List Line) OrderError → Type 0
Reads jobs text (Ok order) = order_of jobs text ≡ Ok order
Reads jobs text (Err (Fault line kind)) = order_of jobs text ≡ Err (line, kind)
Reads jobs text (Err NoMemory) = ⊤

-- the error tells the fault of the line with this number, or that memory was refused
abbrev pub IsFaultOf : ℕ → Reading → OrderError → Type 0
IsFaultOf number reading (Fault line kind) = (line ≡ number) × (kind_of reading ≡ Some kind)
IsFaultOf number reading NoMemory = ⊤

-- a line of one of so many processes, of 1 to 10^9 attempts
abbrev pub is_line : ℕ → Line → Bool
is_line jobs line = nat_lt line.job jobs && (nat_lt 0 line.count && nat_le line.count (10 ^ 9))

abbrev pub is_proper : ℕ → Reading → Bool
is_proper jobs Silent = true
is_proper jobs (Says line) = is_line jobs line
is_proper jobs Strange = true
is_proper jobs Malformed = true

-- an order of so many processes
pub record IsOrder (jobs : ℕ) (order : List Line) : Type 0 where
  pub proper : list_all (is_line jobs) order ≡ true
  pub named : names_all jobs order ≡ true

-- one attempt of each in turn
unfoldable pub default_order : ℕ → Text
default_order jobs = take (4 * jobs) (codes "1 1\n2 1\n3 1\n4 1\n5 1\n6 1\n7 1\n8 1\n")

-- What the lines of a debugger ask for.
use Rattle.std.specs.Prelude.{ℕ, ◌<◌, ◌≤◌, ◌+◌, ◌-◌, ◌*◌, ◌^◌, ◌==◌, ◌||◌, not, Bool, true, false, nat_lt, nat_le, List, [], ◌∷◌, codes, length, slice_index, take, drop, Option, None, Some, option_map, if◌then◌else◌, IfSome}
use Rattle.std.specs.List.{prefix_len}
use Rattle.std.specs.Str.{bytes_eq}
use Rattle.vax_lines.specs.Lines.{Text}
use Rattle.vax_lines.specs.Words.{words}
use Rattle.vax_lines.specs.Numbers.{number}
use Rattle.vax_debug_words.specs.Commands.{begins, form_of, is_called, meaning, name_of}
use Rattle.vax_debug_words.specs.Expressions.{IsExpression, expression, is_hexadecimal, longword, register}
use Rattle.vax_debug_words.specs.declared.command.Command.{Command}
use Rattle.vax_debug_words.specs.declared.command.Command.TheVariants as command
use Rattle.vax_debug_words.specs.declared.command.Form.{Form}
use Rattle.vax_debug_words.specs.declared.command.Form.TheVariants as form
use Rattle.vax_debug_words.specs.declared.command.Meaning.{Meaning}
use Rattle.vax_debug_words.specs.declared.command.Meaning.TheVariants.{Unknown, Only, Several}
use Rattle.vax_debug_words.specs.declared.request.Expression.{Expression}
use Rattle.vax_debug_words.specs.declared.request.Field.{Field}
use Rattle.vax_debug_words.specs.declared.request.Field.TheVariants as field
use Rattle.vax_debug_words.specs.declared.request.Span.{Span}
use Rattle.vax_debug_words.specs.declared.request.Size.TheVariants as size
use Rattle.vax_debug_words.specs.declared.request.Value.{Value}
use Rattle.vax_debug_words.specs.declared.request.Value.TheVariants as value
use Rattle.vax_debug_words.specs.declared.request.Request.{Request}
use Rattle.vax_debug_words.specs.declared.request.Request.TheVariants as request
use Rattle.vax_debug_words.specs.declared.request.Refusal.{Refusal}
use Rattle.vax_debug_words.specs.declared.request.Refusal.TheVariants as refusal
use Rattle.vax_debug_words.specs.declared.request.Line.{Line}
use Rattle.vax_debug_words.specs.declared.request.Line.TheVariants.{Blank, Request as Asks, Refused}

-- operands

-- a count of values, longwords, bytes or instructions
abbrev pub count : Text → Option ℕ
count w = number 64 w

-- one count, where it isn't left out
unfoldable pub count_or : ℕ → List Text → Option ℕ
count_or default [] = Some default
count_or default (many ∷ []) = count many
count_or default operands = None

unfoldable pub one_expression : List Text → Option Expression
one_expression (at ∷ []) = expression at
one_expression operands = None

abbrev pub span : Option Expression → Option ℕ → Option Span
span None count = None
span (Some from) count = option_map (λ n. record { from = from; count = n }) count

-- from where on, and how many, where that isn't left out
unfoldable pub spanned : ℕ → List Text → Option Span
spanned default (from ∷ []) = span (expression from) (Some default)
spanned default (from ∷ many ∷ []) = span (expression from) (count many)
spanned default operands = None

-- EXAMINE

abbrev pub memory_shown : Form → Option Span → Option Request
memory_shown f at = option_map (request.ExamineMemory f) at

-- the form that is said, or longwords
abbrev pub form_or_long : Option Form → Form
form_or_long None = form.Long
form_or_long (Some f) = f

abbrev pub one_shown : Form → Text → Option Request
one_shown f what = memory_shown f (span (expression what) (Some 1))

-- the fields of the status, as EXAMINE PSL names them
unfoldable pub field_of : Text → Option Field
field_of w =
    if is_called (codes "PSL.MODE") w then Some field.Mode
    else if is_called (codes "PSL.PREVIOUS") w then Some field.Previous
    else if is_called (codes "PSL.IPL") w then Some field.Priority
    else if is_called (codes "PSL.IS") w then Some field.InterruptStack
    else if is_called (codes "PSL.FPD") w then Some field.FirstPartDone
    else if is_called (codes "PSL.TP") w then Some field.TracePending
    else if is_called (codes "PSL.DV") w then Some field.DecimalOverflow
    else if is_called (codes "PSL.FU") w then Some field.FloatingUnderflow
    else if is_called (codes "PSL.IV") w then Some field.IntegerOverflow
    else if is_called (codes "PSL.T") w then Some field.Trace
    else if is_called (codes "PSL.N") w then Some field.Negative
    else if is_called (codes "PSL.Z") w then Some field.Zero
    else if is_called (codes "PSL.V") w then Some field.Overflow
    else if is_called (codes "PSL.C") w then Some field.Carry
    else None

abbrev pub field_shown : Option Field → Text → Option Request
field_shown (Some f) what = Some (request.ExamineField f)
field_shown None what = one_shown form.Long what

abbrev pub shown_by : Option ℕ → Text → Option Request
shown_by (Some n) what = Some (request.ExamineRegister n)
shown_by None what = if is_called (codes "PSL") what then Some request.ExamineStatus else field_shown (field_of what) what

-- a register, the status, one of its fields, or one value
abbrev pub shown_at : Option Form → Text → Option Request
shown_at None what = shown_by (register what) what
shown_at (Some f) what = one_shown f what

unfoldable pub examined : Option Form → List Text → Option Request
examined f (what ∷ []) = shown_at f what
examined f operands = memory_shown (form_or_long f) (spanned 1 operands)

-- DEPOSIT

abbrev pub both_halves : Option ℕ → Option ℕ → Option ℕ
both_halves None low = None
both_halves (Some high) low = option_map (λ n. high * 2 ^ 32 + n) low

-- a number of 64 bits in hexadecimal digits
unfoldable pub quadword : Text → Option ℕ
quadword w =
    if nat_le (length w) 8 then longword w
    else both_halves (longword (take (length w - 8) w)) (longword (drop (length w - 8) w))

-- digits that write no number of 64 bits write a greater one
abbrev pub quadword_or : Text → Option ℕ → Option Value
quadword_or w (Some n) = Some (value.Quadword n)
quadword_or w None = if is_hexadecimal w then Some value.TooLarge else None

unfoldable pub quadword_value : Text → Option Value
quadword_value w = quadword_or w (quadword w)

-- what stands before the quote at the end
unfoldable pub before_quote : Text → Option Text
before_quote w =
    if length w == 0 then None
    else if slice_index w (length w - 1) == 34 then Some (take (length w - 1) w) else None

-- what stands between quotes, where a word begins with one; then another must end it
unfoldable pub unquoted : Text → Option Text
unquoted [] = Some []
unquoted (c ∷ cs) = if c == 34 then before_quote cs else Some (c ∷ cs)

abbrev pub few_characters : Text → Option (List ℕ)
few_characters w = if length w == 0 || nat_lt 64 (length w) then None else Some w

abbrev pub characters_in : Option Text → Option (List ℕ)
characters_in None = None
characters_in (Some w) = few_characters w

-- 1 to 64 characters, in quotes or without
unfoldable pub characters : Text → Option (List ℕ)
characters w = characters_in (unquoted w)

-- a value in its form
unfoldable pub value_of : Form → Text → Option Value
value_of form.Byte w = option_map (value.Number size.Byte) (expression w)
value_of form.Word w = option_map (value.Number size.Word) (expression w)
value_of form.Long w = option_map (value.Number size.Long) (expression w)
value_of form.Quad w = quadword_value w
value_of form.Ascii w = option_map value.Text (characters w)
value_of form.Instruction w = None

abbrev pub memory_put : Option Expression → Option Value → Option Request
memory_put None value = None
memory_put (Some to) value = option_map (request.DepositMemory to) value

-- the number of an access mode, where it is called by its name
unfoldable pub mode_number : Text → Text
mode_number w =
    if is_called (codes "KERNEL") w then codes "0"
    else if is_called (codes "EXECUTIVE") w then codes "1"
    else if is_called (codes "SUPERVISOR") w then codes "2"
    else if is_called (codes "USER") w then codes "3"
    else w

abbrev pub spelled : Field → Text → Text
spelled field.Mode w = mode_number w
spelled field.Previous w = mode_number w
spelled f w = w

abbrev pub field_put : Option Field → Text → Text → Option Request
field_put (Some f) what given = option_map (request.DepositField f) (expression (spelled f given))
field_put None what given = memory_put (expression what) (value_of form.Long given)

abbrev pub put_by : Option ℕ → Text → Text → Option Request
put_by (Some n) what given = option_map (request.DepositRegister n) (expression given)
put_by None what given =
    if is_called (codes "PSL") what then option_map request.DepositStatus (expression given)
    else field_put (field_of what) what given

-- into a register, the status, one of its fields, or memory
abbrev pub put_at : Option Form → Text → Text → Option Request
put_at None what given = put_by (register what) what given
put_at (Some f) what given = memory_put (expression what) (value_of f given)

unfoldable pub deposited : Option Form → List Text → Option Request
deposited f (what ∷ given ∷ []) = put_at f what given
deposited f operands = None

-- the others

-- from PC on, where it isn't said; and ten instructions
unfoldable pub disassembled : List Text → Option Request
disassembled [] = Some (request.Disassemble None)
disassembled operands = option_map (λ at. request.Disassemble (Some at)) (spanned 10 operands)

unfoldable pub stepped : List Text → Option Request
stepped [] = Some (request.Step 1)
stepped (many ∷ []) = option_map request.Step (number (10 ^ 15) many)
stepped operands = None

unfoldable pub cleared : List Text → Option Request
cleared [] = Some (request.Clear None)
cleared operands = option_map (λ at. request.Clear (Some at)) (one_expression operands)

-- longwords, where it isn't said
abbrev pub watched : List Text → Option Request
watched operands = option_map request.Watch (spanned 4 operands)

abbrev pub shown_of : Text → Option Request
shown_of what =
    if begins (codes "BREAKS") what then Some request.Show
    else if begins (codes "WATCHES") what then Some request.ShowWatches else None

-- `SHOW BREAKS`, or `SHOW`; `SHOW WATCHES`
unfoldable pub shown : List Text → Option Request
shown [] = Some request.Show
shown (what ∷ []) = shown_of what
shown operands = None

-- eight longwords, where it isn't said
abbrev pub stacked : List Text → Option Request
stacked operands = option_map request.Stack (count_or 8 operands)

-- all pages, or that of an address
abbrev pub evicted_at : Text → Option Request
evicted_at what = if is_called (codes "ALL") what then Some request.EvictAll else option_map request.Evict (expression what)

unfoldable pub evicted : List Text → Option Request
evicted (what ∷ []) = evicted_at what
evicted operands = None

abbrev pub help_on : Meaning → Option Request
help_on Unknown = None
help_on (Only c) = Some (request.Help (Some c))
help_on Several = None

unfoldable pub helped : List Text → Option Request
helped [] = Some (request.Help None)
helped (what ∷ []) = help_on (meaning what)
helped operands = None

abbrev pub alone : Request → List Text → Option Request
alone r [] = Some r
alone r (operand ∷ operands) = None

-- a command without a form
unfoldable pub asked_plainly : Command → List Text → Option Request
asked_plainly command.Examine operands = None
asked_plainly command.Deposit operands = None
asked_plainly command.Disassemble operands = disassembled operands
asked_plainly command.Step operands = stepped operands
asked_plainly command.Over operands = alone request.Over operands
asked_plainly command.Out operands = alone request.Out operands
asked_plainly command.Go operands = alone request.Go operands
asked_plainly command.Until operands = option_map request.Until (one_expression operands)
asked_plainly command.Break operands = option_map request.Break (one_expression operands)
asked_plainly command.Watch operands = watched operands
asked_plainly command.Clear operands = cleared operands
asked_plainly command.Show operands = shown operands
asked_plainly command.Where operands = alone request.Where operands
asked_plainly command.Stack operands = stacked operands
asked_plainly command.Queue operands = option_map request.Queue (one_expression operands)
asked_plainly command.Pages operands = alone request.Pages operands
asked_plainly command.Turn operands = alone request.Turn operands
asked_plainly command.Evict operands = evicted operands
asked_plainly command.Restart operands = alone request.Restart operands
asked_plainly command.Save operands = alone request.Save operands
asked_plainly command.Help operands = helped operands
asked_plainly command.Quit operands = alone request.Quit operands

-- `EXAMINE` and `DEPOSIT` alone have forms
abbrev pub unless_formed : Option Form → Option Request → Option Request
unless_formed None r = r
unless_formed (Some f) r = None

unfoldable pub asked_by : Command → Option Form → List Text → Option Request
asked_by command.Examine f operands = examined f operands
asked_by command.Deposit f operands = deposited f operands
asked_by c f operands = unless_formed f (asked_plainly c operands)

-- lines

-- up to a slash
abbrev pub verb_len : Text → ℕ
verb_len w = prefix_len (λ c. not (c == 47)) w

-- the command's word without its form
abbrev pub verb_of : Text → Text
verb_of w = take (verb_len w) w

-- the form behind the slash, if there is one
abbrev pub form_behind : Text → Option (Option Form)
form_behind [] = Some None
form_behind (c ∷ w) = option_map Some (form_of w)

abbrev pub form_in : Text → Option (Option Form)
form_in w = form_behind (drop (verb_len w) w)

abbrev pub asked : Command → Option (Option Form) → List Text → Option Request
asked c None operands = None
asked c (Some f) operands = asked_by c f operands

abbrev pub understood : Command → Option Request → Line
understood c None = Refused (refusal.Usage c)
understood c (Some r) = Asks r

abbrev pub by_meaning : Meaning → Option (Option Form) → List Text → Line
by_meaning Unknown f operands = Refused refusal.Unknown
by_meaning Several f operands = Refused refusal.Several
by_meaning (Only c) f operands = understood c (asked c f operands)

-- the word of a command, with its form, and operands
unfoldable pub said : List Text → Line
said [] = Blank
said (verb ∷ operands) = by_meaning (meaning (verb_of verb)) (form_in verb) operands

-- what a line says
unfoldable pub line_of : Text → Line
line_of line = if nat_lt 1024 (length line) then Refused refusal.Length else said (words line)

-- refusals

-- the word begins the command's
abbrev pub may_begin : List Text → Command → Bool
may_begin [] c = false
may_begin (verb ∷ operands) c = begins (name_of c) (verb_of verb)

-- a command that a line may have meant: any, one whose word begins so, or the one that was used in another way
unfoldable pub is_meant : Refusal → Text → Command → Bool
is_meant refusal.Length line c = false
is_meant refusal.Unknown line c = true
is_meant refusal.Several line c = may_begin (words line) c
is_meant (refusal.Usage d) line c = bytes_eq (name_of c) (name_of d)

-- the numbers of a request are in their ranges
abbrev pub IsCount : ℕ → Type 0
IsCount n = (1 ≤ n) × (n ≤ 64)

abbrev pub IsSpan : Span → Type 0
IsSpan s = IsExpression s.from × IsCount s.count

abbrev pub IsValue : Value → Type 0
IsValue (value.Number s e) = IsExpression e
IsValue (value.Quadword n) = Unit {0}
IsValue value.TooLarge = Unit {0}
IsValue (value.Text cs) = (1 ≤ length cs) × (length cs ≤ 64)

unfoldable pub IsProper : Request → Type 0
IsProper (request.ExamineRegister n) = n < 16
IsProper request.ExamineStatus = Unit {0}
IsProper (request.ExamineField f) = Unit {0}
IsProper (request.ExamineMemory f at) = IsSpan at
IsProper (request.DepositRegister n e) = (n < 16) × IsExpression e
IsProper (request.DepositStatus e) = IsExpression e
IsProper (request.DepositField f e) = IsExpression e
IsProper (request.DepositMemory e v) = IsExpression e × IsValue v
IsProper (request.Disassemble at) = IfSome at IsSpan
IsProper (request.Step n) = (1 ≤ n) × (n ≤ 10 ^ 15)
IsProper request.Over = Unit {0}
IsProper request.Out = Unit {0}
IsProper request.Go = Unit {0}
IsProper (request.Until e) = IsExpression e
IsProper (request.Break e) = IsExpression e
IsProper (request.Watch at) = IsSpan at
IsProper (request.Clear e) = IfSome e IsExpression
IsProper request.Show = Unit {0}
IsProper request.ShowWatches = Unit {0}
IsProper request.Where = Unit {0}
IsProper (request.Stack n) = IsCount n
IsProper (request.Queue e) = IsExpression e
IsProper request.Pages = Unit {0}
IsProper request.Turn = Unit {0}
IsProper (request.Evict e) = IsExpression e
IsProper request.EvictAll = Unit {0}
IsProper request.Restart = Unit {0}
IsProper request.Save = Unit {0}
IsProper (request.Help c) = Unit {0}
IsProper request.Quit = Unit {0}

abbrev pub IsProperLine : Line → Type 0
IsProperLine Blank = Unit {0}
IsProperLine (Asks r) = IsProper r
IsProperLine (Refused why) = Unit {0}

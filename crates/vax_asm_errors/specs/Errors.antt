-- The errors of a source as text.
use Rattle.std.specs.Prelude.{◌≡◌, All, ℕ, ◌+◌, ◌-◌, Bool, true, false, ◌==◌, ◌&&◌, ◌||◌, not, nat_le, nat_lt, if◌then◌else◌, List, [], ◌∷◌, ◌++◌, length, map, take, codes, decimal}
use Rattle.std.specs.List.{flat_map, position_or_len}
use Rattle.vax_asm_check.specs.Listed.{AreAll}
use Rattle.vax_asm_faults.specs.Refusal.{faults_of}
use Rattle.vax_asm_causes.specs.Printed.{ArePrinted}
use Rattle.vax_asm_errors.specs.declared.said.Said.{Said}
use Rattle.vax_asm_second.specs.declared.types.Fault.{Fault}
use Rattle.vax_dialect.specs.declared.Dialect.{Dialect}
use Rattle.vax_lines.specs.Lines.{Text, lines}
use Rattle.vax_prelude.specs.Preludes.{Title, name_at, number_at}
use Rattle.vax_macro.specs.Fault.{code_of}
use Rattle.vax_macro.specs.declared.error.FaultKind.{FaultKind}
use Rattle.vax_macro.specs.declared.error.FaultKind.TheVariants as fault

-- what is wrong
unfoldable pub message : FaultKind → Text
message fault.Token = codes "a byte belongs to no token, or the line is too long"
message fault.UnknownOperator = codes "no instruction, directive or macro has this name, or `.` is assigned to"
message fault.Count = codes "too few or too many operands, or a comma is missing"
message fault.Form = codes "an operand or an expression has no form that may stand here"
message fault.Undefined = codes "a name has no value here, or its block has no such local label"
message fault.Duplicate = codes "a name is defined twice"
message fault.Range = codes "a number or a distance is out of range"
message fault.Nesting = codes "a begin has no end, or an end no begin"
message fault.Depth = codes "macros, repeats or conditions stand in each other more than 64 deep"
message fault.Lines = codes "more than 100,000 lines with those of expansions"
message fault.Large = codes "a section or the module is too long"
message fault.Message = codes "the source says that it is wrong here"

-- the source says it itself
abbrev pub is_message : FaultKind → Bool
is_message fault.Token = false
is_message fault.UnknownOperator = false
is_message fault.Count = false
is_message fault.Form = false
is_message fault.Undefined = false
is_message fault.Duplicate = false
is_message fault.Range = false
is_message fault.Nesting = false
is_message fault.Depth = false
is_message fault.Lines = false
is_message fault.Large = false
is_message fault.Message = true

-- what is wrong, and words on the cause; a source that says it itself has words of its own
abbrev pub said_words : FaultKind → (cause : Text) → Text
said_words kind [] = message kind
said_words kind (b ∷ cause) = if is_message kind then b ∷ cause else message kind ++ b ∷ cause

-- the line with a number that counts from 1
unfoldable pub line_at : ℕ → List Text → Text
line_at n [] = []
line_at n (line ∷ more) = if nat_le n 1 then line else line_at (n - 1) more

-- neither a blank nor a tab
abbrev pub is_text : ℕ → Bool
is_text b = not (b == 32) && not (b == 9)

-- how many blanks and tabs stand before the text of a line
abbrev pub indent : Text → ℕ
indent line = position_or_len is_text line

-- a mark stands for a byte that isn't printable
abbrev pub shown : ℕ → ℕ
shown b = if (b == 9) || (nat_le 32 b && nat_lt b 127) then b else 63

-- a line as it is shown, of a long one the front
abbrev pub shown_line : Text → Text
shown_line line = map shown (take 160 line)

-- where an error stands
unfoldable pub place : Title → (line column : ℕ) → Text
place title line column = name_at title line ++ codes ":" ++ decimal (number_at title line) ++ codes ":" ++ decimal column ++ codes ": error: "

-- a tab stands below a tab, and else a blank
abbrev pub under : ℕ → ℕ
under b = if b == 9 then b else 32

abbrev pub under_line : Text → ℕ → Text
under_line line column = map under (take column (take 160 line))

-- a line, and a mark below a column of it
unfoldable pub mark : Text → (column : ℕ) → Text
mark line column = shown_line line ++ codes "\n" ++ under_line line column ++ codes "^\n"

-- the line of an expansion, if there is one
unfoldable pub noted : Title → (line : ℕ) → Text → Text
noted title line [] = []
noted title line (b ∷ expansion) = name_at title line ++ codes ":" ++ decimal (number_at title line) ++ codes ": " ++ (b ∷ expansion) ++ codes "\n"

-- the first line of an error: its place, its kind, what that says, and words on its cause
unfoldable pub headline : Title → Said → Text
headline title s = place title s.fault.origin.line (s.column + 1) ++ decimal (code_of s.fault.kind) ++ codes ": " ++ said_words s.fault.kind s.cause.items ++ codes "\n"

-- an error: its first line, the line of the source with a mark below a column, and the line of an expansion
unfoldable pub error : Title → (source : Text) → Said → Text
error title source s =
    headline title s ++ mark (line_at s.fault.origin.line (lines source)) s.column ++ noted title s.fault.origin.line s.expansion.items

-- The words on a cause and the line of an expansion can be printed.
pub record IsPlain (s : Said) : Type 0 where
  pub cause : ArePrinted s.cause.items
  pub expansion : ArePrinted s.expansion.items

-- so many more than a hundred there are
unfoldable pub count_words : ℕ → Text
count_words count = decimal count ++ codes " more in this file\n"

-- that of a file
unfoldable pub more_words : (name : Text) → ℕ → Text
more_words name count = name ++ codes ": error: " ++ count_words count

-- A hundred faults are told at most, and then how many more there are.
abbrev pub ending : Text → (count : ℕ) → Text
ending name count = if nat_le count 100 then [] else more_words name (count - 100)

abbrev pub errors : Title → (source : Text) → List Said → (count : ℕ) → Text
errors title source said count = flat_map (error title source) said ++ ending title.name count

-- The errors of the text of a source of a dialect, with what stands before it, were added: those of its first hundred faults, or of all. Each has a column and words on its cause.
pub record IsErrors (dialect : Dialect) (title : Title) (source before after : Text) : Type 0 where
  pub found : List Fault
  pub all : AreAll found (faults_of dialect source)
  pub said : List Said
  pub told : map (λ s. s.fault) said ≡ take 100 found
  pub plain : All IsPlain said
  pub text : after ≡ before ++ errors title source said (length found)

-- What an expander means.
use Rattle.std.specs.Prelude.{◌≡◌, ℕ, ◌<◌, Option, Some, None, option_map, Result, Ok, Err}
use Rattle.vax_lex.specs.Values.{Sense}
use Rattle.vax_macro.specs.Rest.{Opening, Rest, work}
use Rattle.vax_macro.specs.Directives.{Statement}
use Rattle.vax_macro.specs.Expansion.{Stepped, Steps, Says, Faults, Ends, Opened, Given, Faulty, AtEnd, opened}
use Rattle.vax_macro.specs.LineViews.{remainder_of}
use Rattle.vax_macro.specs.View.{rest_in, opening_of}
use Rattle.vax_macro.specs.declared.error.FaultKind.{FaultKind}
use Rattle.vax_macro.specs.declared.error.FaultKind.TheVariants.{Nesting}
use Rattle.vax_macro.specs.declared.error.MacroError.{MacroError}
use Rattle.vax_macro.specs.declared.error.MacroError.TheVariants as errors
use Rattle.vax_macro.specs.declared.expander.Expander.{Expander}
use Rattle.vax_macro.specs.declared.expander.Line.{Line}
use Rattle.vax_macro.specs.declared.expander.Step.{Step}
use Rattle.vax_macro.specs.declared.expander.Step.TheVariants as steps

-- what is left to open
abbrev pub rest_of : Expander → Rest
rest_of e = record (rest_in e.read e.state) { again = option_map remainder_of e.again }

-- the error that it has answered, the begin without its end once that was it, and how many lines were read
abbrev pub error_of : Expander → Option MacroError
error_of e = e.error

abbrev pub unclosed_of : Expander → Option Opening
unclosed_of e = option_map opening_of e.unclosed

abbrev pub read_of : Expander → ℕ
read_of e = e.read

abbrev pub statement_of : Line → Statement
statement_of line = record { number = line.number; text = line.text.items }

-- what one step did
abbrev pub Does : Step → Expander → Stepped → Type 0
Does steps.Goes after s = s ≡ Steps (rest_of after)
Does (steps.Says line) after s = s ≡ Says (statement_of line) (rest_of after)
Does (steps.Faults number kind) after s = s ≡ Faults number after.read kind
Does (steps.Ends begin) after s = s ≡ Ends (option_map opening_of begin)

-- the fault that was answered: one at its place, or a begin without its end
abbrev pub FaultIs : Option Opening → ℕ → ℕ → FaultKind → Opened → Type 0
FaultIs None place number kind o = o ≡ Faulty number place kind
FaultIs (Some begin) place number kind o = (o ≡ AtEnd (Some begin)) × (number ≡ begin.number) × (kind ≡ Nesting)

-- what was answered is what comes next
abbrev pub Opens : Result (Option Line) MacroError → Expander → Opened → Type 0
Opens (Ok (Some line)) after o = (left : ℕ) × (work (rest_of after) < left) × (o ≡ Given (statement_of line) left (rest_of after))
Opens (Ok None) after o = o ≡ AtEnd None
Opens (Err errors.NoMemory) after o = Unit {0}
Opens (Err (errors.Fault number kind)) after o = FaultIs (unclosed_of after) after.read number kind o

-- what was answered is what comes next of what was left to open, in steps enough
abbrev pub OpensNext : Sense → Result (Option Line) MacroError → (old new : Expander) → Type 0
OpensNext names result old new = (steps : ℕ) → work (rest_of old) < steps → Opens result new (opened steps names (rest_of old))

-- a step that goes on, or gives a statement, takes some of what is left
abbrev pub Shrinks : Step → ℕ → ℕ → Type 0
Shrinks steps.Goes before after = after < before
Shrinks (steps.Says line) before after = after < before
Shrinks (steps.Faults number kind) before after = Unit {0}
Shrinks (steps.Ends begin) before after = Unit {0}

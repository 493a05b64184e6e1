-- How lines are read, with those that continue them.
use Rattle.std.specs.Prelude.{◌≡◌, ℕ, ◌+◌, ◌*◌, ◌<◌, ◌≤◌, List, ◌∷◌, ◌++◌, length, if◌then◌else◌}
use Rattle.vax_dialect.specs.declared.Dialect.{Dialect}
use Rattle.vax_lex.specs.Tokens.{pieces_of}
use Rattle.vax_lex.specs.Values.{Sense}
use Rattle.vax_macro.specs.Expansion.{Stepped, Faults, Ends, line_step, read_on, joined_with, next_line_step, unclosed}
use Rattle.vax_macro.specs.Lines.{SourceLine, Reading, dash_in}
use Rattle.vax_macro.specs.LineViews.{reading_of}
use Rattle.vax_macro.specs.Rest.{Rest}
use Rattle.vax_macro.specs.declared.line_types.Joined.{Joined}
use Rattle.vax_macro.specs.declared.line_types.Joined.TheVariants as joins
use Rattle.vax_macro.specs.declared.line_types.Read.{Read}
use Rattle.vax_macro.specs.declared.line_types.Reading as code_reading
use Rattle.vax_macro.specs.declared.line_types.Read.TheVariants as reads

-- a line behind the text so far: the whole, or it is continued, or what is joined is too long
abbrev pub Puts : Dialect → Joined → Reading → List ℕ → Reading → Type 0
Puts d joins.Whole r part after =
    (place : ℕ) (whole more : Reading → Stepped) → joined_with place r (r.text ++ part) part (dash_in (pieces_of d (r.text ++ part))) whole more ≡ whole after
Puts d joins.More r part after =
    (place : ℕ) (whole more : Reading → Stepped) → joined_with place r (r.text ++ part) part (dash_in (pieces_of d (r.text ++ part))) whole more ≡ more after
Puts d (joins.Fault number kind) r part after =
    (place : ℕ) (whole more : Reading → Stepped) → joined_with place r (r.text ++ part) part (dash_in (pieces_of d (r.text ++ part))) whole more ≡ Faults number place kind

-- a line that is whole, goes on with these lines, or has a fault
abbrev pub Joins : Sense → Joined → List SourceLine → Reading → Rest → Stepped → Type 0
Joins names joins.Whole lines r rest s = s ≡ line_step names r (record rest { lines = lines })
Joins names joins.More lines r rest s = s ≡ read_on names r lines rest
Joins names (joins.Fault number kind) lines r rest s = s ≡ Faults number rest.read kind

abbrev pub IsJoined : Dialect → Joined → Reading → SourceLine → Reading → (before after : ℕ) → Type 0
IsJoined d j r line next before after =
    (names : Sense) (lines : List SourceLine) (rest : Rest)
    → Joins names j lines next (record rest { dialect = d; read = after }) (read_on names r (line ∷ lines) (record rest { dialect = d; read = before }))

-- no more lines are read than may be
abbrev pub IsWithin : Joined → ℕ → Type 0
IsWithin joins.Whole read = read ≤ 100000
IsWithin joins.More read = read ≤ 100000
IsWithin (joins.Fault number kind) read = Unit {0}

-- What was read of the lines to come: a line of which this is the step, the fault of one, or none.
abbrev pub Reads : Sense → Read → Rest → Stepped → Type 0
Reads names (reads.Line line) after s = s ≡ line_step names (reading_of line) after
Reads names (reads.Fault number kind) after s = s ≡ Faults number after.read kind
Reads names reads.Nothing after s = s ≡ Ends (unclosed after.conditions after.collecting)

abbrev pub IsRead : Dialect → Read → (lines left : List SourceLine) → (before after : ℕ) → Type 0
IsRead d r lines left before after =
    (names : Sense) (rest : Rest)
    → Reads names r (record rest { dialect = d; lines = left; read = after }) (next_line_step names lines (record rest { dialect = d; read = before }))

-- a line that was read is one of this dialect
abbrev pub IsOf : Dialect → Read → Type 0
IsOf d (reads.Line line) = line.dialect ≡ d
IsOf d (reads.Fault number kind) = Unit {0}
IsOf d reads.Nothing = Unit {0}

-- a line that was read is counted
abbrev pub IsCounted : Read → (before after : ℕ) → Type 0
IsCounted (reads.Line line) before after = (before < after) × (after ≤ 100000)
IsCounted (reads.Fault number kind) before after = Unit {0}
IsCounted reads.Nothing before after = Unit {0}

-- what a line may leave to be read again
abbrev pub left_of : code_reading.Reading → ℕ
left_of line = length line.text.items * 2 + (if line.labelled then 0 else 1)

-- what is left after a line was taken is less, by that at least
abbrev pub Spares : Read → (before after : ℕ) → Type 0
Spares (reads.Line line) before after = after + left_of line < before
Spares (reads.Fault number kind) before after = Unit {0}
Spares reads.Nothing before after = Unit {0}

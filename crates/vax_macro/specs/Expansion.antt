-- What comes of a source, one step after another.
use Rattle.std.specs.Prelude.{ℕ, zero, suc, ◌+◌, true, false, nat_le, List, [], ◌∷◌, ◌++◌, take, drop, Option, Some, None, option_map, if◌then◌else◌}
use Rattle.vax_lex.specs.Tokens.{pieces_of}
use Rattle.vax_lex.specs.Values.{Sense}
use Rattle.vax_macro.specs.declared.error.FaultKind.{FaultKind}
use Rattle.vax_macro.specs.declared.error.FaultKind.TheVariants as faults
use Rattle.vax_macro.specs.Heads.{head_in}
use Rattle.vax_macro.specs.Lines.{SourceLine, Remainder, Reading, dash_in, before_dash, is_long, with_part}
use Rattle.vax_macro.specs.Rest.{Opening, Pending, OpenCondition, Rest}
use Rattle.vax_macro.specs.Directives.{Statement, Done, Goes, Gives, Writes, Turns, Again, Label, Fails, done}

-- What one step does. A statement's place is the number of lines read with it, which is `read` of the rest that it
-- leaves: two statements of one place are parts of one line, and then the first leaves `again`. A fault tells its line's
-- number, its place in the same count, and its kind. The end tells the first begin that has no end.
pub data Stepped : Type 0 where
  Steps : Rest → Stepped
  Says : Statement → Rest → Stepped
  Faults : (number place : ℕ) → FaultKind → Stepped
  Ends : Option Opening → Stepped

-- the first begin that has no end
abbrev pub last_begin : OpenCondition → List OpenCondition → Opening
last_begin c [] = c.begin
last_begin c (d ∷ conditions) = last_begin d conditions

abbrev pub unclosed : List OpenCondition → Option Pending → Option Opening
unclosed [] collecting = option_map (λ p. p.begin) collecting
unclosed (c ∷ conditions) collecting = Some (last_begin c conditions)

-- what is behind a place of a line, as a line of its own
abbrev pub cut : ℕ → Reading → Remainder
cut at line = record { number = line.number; depth = line.depth; text = drop at line.text; labelled = false }

-- a line that is read again as this text
abbrev pub turned : List ℕ → Reading → Remainder
turned text line = record { number = line.number; depth = line.depth; text = text; labelled = line.labelled }

-- a line whose label was handed out
abbrev pub behind_label : Reading → Remainder
behind_label line = record { number = line.number; depth = line.depth; text = line.text; labelled = true }

abbrev pub outcome : Reading → ℕ → Done → Stepped
outcome line place (Goes rest) = Steps rest
outcome line place (Gives rest) = Says (record { number = line.number; text = line.text }) rest
outcome line place (Writes text rest) = Says (record { number = line.number; text = text }) rest
outcome line place (Turns text rest) = Steps (record rest { again = Some (turned text line) })
outcome line place (Again at rest) = Steps (record rest { again = Some (cut at line) })
outcome line place (Label at rest) = Says (record { number = line.number; text = take at line.text }) (record rest { again = Some (behind_label line) })
outcome line place (Fails kind) = Faults line.number place kind

unfoldable pub line_step : Sense → Reading → Rest → Stepped
line_step names line rest = outcome line rest.read (done names line (pieces_of rest.dialect line.text) (head_in (pieces_of rest.dialect line.text)) rest)

-- A line that may be continued by those to come: of one that is, the `-` and the comment behind it are dropped, and what
-- is joined counts without them.
abbrev pub joined_on : Reading → Option ℕ → (Reading → Stepped) → (Reading → Stepped) → Stepped
joined_on r None whole more = whole r
joined_on r (Some dash) whole more = more r

abbrev pub joined_with : ℕ → Reading → List ℕ → List ℕ → Option ℕ → (Reading → Stepped) → (Reading → Stepped) → Stepped
joined_with place r text part dash whole more =
    if is_long (before_dash text dash) then Faults r.number place faults.Token
    else joined_on (with_part r (before_dash text dash) part) dash whole more

-- the step of the line that begins with r and goes on with the lines to come
unfoldable pub read_on : Sense → Reading → List SourceLine → Rest → Stepped
read_on names r [] rest = line_step names r (record rest { lines = [] })
read_on names r (line ∷ lines) rest =
    if is_long line.text then Faults line.number (rest.read + 1) faults.Token
    else (if nat_le 100000 rest.read then Faults line.number (rest.read + 1) faults.Lines
    else joined_with (rest.read + 1) r (r.text ++ line.text) line.text (dash_in (pieces_of rest.dialect (r.text ++ line.text)))
    (λ whole. line_step names whole (record rest { lines = lines; read = rest.read + 1 }))
    (λ more. read_on names more lines (record rest { read = rest.read + 1 })))

abbrev pub begun : SourceLine → Reading
begun line = record { number = line.number; depth = line.depth; text = []; parts = []; labelled = false }

abbrev pub whole : Remainder → Reading
whole line = record { number = line.number; depth = line.depth; text = line.text; parts = line.text ∷ []; labelled = line.labelled }

-- One step: what is left of the line just read, else the next line.
abbrev pub next_line_step : Sense → List SourceLine → Rest → Stepped
next_line_step names [] rest = Ends (unclosed rest.conditions rest.collecting)
next_line_step names (line ∷ lines) rest = read_on names (begun line) (line ∷ lines) rest

unfoldable pub step : Sense → Rest → Stepped
step names rest = elim rest.again [
  | Some line ↦ line_step names (whole line) (record rest { again = None })
  | None ↦ next_line_step names rest.lines rest
]

-- What comes next, within so many steps, of which some may be left.
pub data Opened : Type 0 where
  Given : Statement → (left : ℕ) → Rest → Opened
  Faulty : (number place : ℕ) → FaultKind → Opened
  AtEnd : Option Opening → Opened
  Later : Opened

abbrev pub behind : ℕ → Stepped → (Rest → Opened) → Opened
behind left (Steps after) next = next after
behind left (Says statement after) next = Given statement left after
behind left (Faults number place kind) next = Faulty number place kind
behind left (Ends begin) next = AtEnd begin

unfoldable pub opened : ℕ → Sense → Rest → Opened
opened zero names rest = Later
opened (suc left) names rest = behind left (step names rest) (λ after. opened left names after)

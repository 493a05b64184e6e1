-- The faults of all lines of a source (VAX MACRO and Instruction Set Reference Manual, "Diagnostic messages").
use Rattle.std.specs.Prelude.{ℕ, zero, suc, ◌==◌, Bool, false, if◌then◌else◌, List, [], ◌∷◌, ◌++◌, Option, Some, None}
use Rattle.vax_asm.specs.Placing.{Placed, Stands, FaultyLabel, Faulty, placed}
use Rattle.vax_asm.specs.Walk.{Assembly, at, names_in, nothing}
use Rattle.vax_asm_circles.specs.Circles.{comes_back}
use Rattle.vax_asm_first.specs.Circles.{step_by, steps_by}
use Rattle.vax_asm_first.specs.Fixups.{Assignment}
use Rattle.vax_asm_first.specs.declared.types.Origin.{Origin}
use Rattle.vax_asm_labels.specs.Naming.{with_waiting}
use Rattle.vax_asm_second.specs.declared.types.Fault.{Fault}
use Rattle.vax_dialect.specs.declared.Dialect.{Dialect}
use Rattle.vax_macro.specs.Expansion.{Stepped, Steps, Says, Faults, Ends, step}
use Rattle.vax_macro.specs.Rest.{Opening, Rest, started, work}
use Rattle.vax_macro.specs.declared.error.FaultKind.TheVariants as fault

-- What the lines of a source come to: the faults of each, in order; what those without a fault leave; and, where the source is read to its end,
-- the first begin without its end.
pub record Survey : Type 0 where
  pub faults : List Fault
  pub behind : Assembly
  pub ends : Option (Option Opening)

abbrev pub with_faults : List Fault → Survey → Survey
with_faults faults s = record s { faults = faults ++ s.faults }

-- An assignment makes its name come back to itself, by those before it.
abbrev pub closes : List Assignment → Assignment → Bool
closes before a = comes_back (steps_by before ++ step_by a ∷ []) a.definition

abbrev pub circle_faults : List Assignment → Option Assignment → List Fault
circle_faults before None = []
circle_faults before (Some a) = if closes before a then record { origin = a.origin; kind = fault.Form } ∷ [] else []

-- the faults of a statement, behind these assignments
abbrev pub statement_faults : Placed → Origin → List Assignment → List Fault
statement_faults (Stands t waiting) origin before = circle_faults before waiting
statement_faults (FaultyLabel kind) origin before = record { origin = origin; kind = kind } ∷ []
statement_faults (Faulty kind waiting) origin before = record { origin = origin; kind = kind } ∷ circle_faults before waiting

-- A statement with a fault that it and those before it decide defines no name, begins no section and has no bytes.
abbrev pub left_by : Placed → Assembly → Assembly
left_by (Stands t waiting) a = record { standing = t; assignments = with_waiting waiting a.assignments }
left_by (FaultyLabel kind) a = a
left_by (Faulty kind waiting) a = a

-- Behind the fault of a label its line goes on. Any other ends its line.
abbrev pub line_ended : Placed → ℕ → Option ℕ
line_ended (Stands t waiting) place = None
line_ended (FaultyLabel kind) place = None
line_ended (Faulty kind waiting) place = Some place

-- the line with this place has ended
abbrev pub is_ended : Option ℕ → ℕ → Bool
is_ended None place = false
is_ended (Some ended) place = ended == place

abbrev pub Onward : Type 0
Onward = Assembly → Option ℕ → Survey

abbrev pub carried : Origin → Placed → Assembly → Onward → Survey
carried origin p a next = with_faults (statement_faults p origin a.assignments) (next (left_by p a) (line_ended p origin.place))

-- a statement, and what comes behind it
unfoldable pub stated : Origin → (text : List ℕ) → Assembly → Option ℕ → Onward → Survey
stated origin text a ended next = if is_ended ended origin.place then next a ended else carried origin (placed origin text a.standing) a next

-- Behind a fault of what macros, repeats and conditions open, nothing is read.
abbrev pub onward : Stepped → Assembly → Option ℕ → (Rest → Onward) → Survey
onward (Steps rest) a ended next = next rest a ended
onward (Says st rest) a ended next = stated (at st.number rest.read) st.text a ended (next rest)
onward (Faults line place kind) a ended next = record {
  faults = if is_ended ended place then [] else record { origin = at line place; kind = kind } ∷ [];
  behind = a;
  ends = None;
}
onward (Ends begin) a ended next = record { faults = []; behind = a; ends = Some begin }

-- what is left to open of a source, behind what stands
unfoldable pub survey : ℕ → Rest → Assembly → Option ℕ → Survey
survey zero rest a ended = record { faults = []; behind = a; ends = Some None }
survey (suc left) rest a ended = onward (step (names_in a.standing) rest) a ended (survey left)

abbrev pub survey_of : Dialect → List ℕ → Survey
survey_of dialect source = survey (suc (work (started dialect source))) (started dialect source) (nothing dialect) None

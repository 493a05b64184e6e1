-- What a source assembles to: its statements one after another, as its macros, repeats and conditions open (VAX MACRO and Instruction Set
-- Reference Manual, "VAX MACRO assembler directives" and "Diagnostic messages").
use Rattle.std.specs.Prelude.{ℕ, zero, suc, ◌==◌, if◌then◌else◌, List, [], Option, Some, None, Result, Err}
use Rattle.vax_dialect.specs.declared.Dialect.{Dialect}
use Rattle.vax_lex.specs.Values.{Sense}
use Rattle.vax_macro.specs.Expansion.{Stepped, Steps, Says, Faults, Ends, Opened, Given, Faulty as Stops, AtEnd, Later, step}
use Rattle.vax_macro.specs.Rest.{Opening, Rest, started, work}
use Rattle.vax_macro.specs.declared.error.FaultKind.{FaultKind}
use Rattle.vax_macro.specs.declared.error.FaultKind.TheVariants as fault
use Rattle.vax_module.specs.declared.Module.{Module}
use Rattle.vax_asm_labels.specs.Naming.{with_waiting}
use Rattle.vax_asm_first.specs.Circles.{first_circle}
use Rattle.vax_asm_first.specs.Faults.{first_of}
use Rattle.vax_asm_first.specs.Fixups.{Assignment}
use Rattle.vax_asm_first.specs.Standing.{Standing, at_start, here_in}
use Rattle.vax_asm_scope.specs.Known.{known_here}
use Rattle.vax_asm_second.specs.Modules.{filled_in}
use Rattle.vax_asm_second.specs.declared.types.Fault.{Fault}
use Rattle.vax_asm_first.specs.declared.types.Origin.{Origin}
use Rattle.vax_asm.specs.Placing.{Placed, Stands, FaultyLabel, Faulty, placed}

-- A fault that is met behind another one: of one line the first in the order of the kinds counts, else the one that was met before.
abbrev pub least : Option Fault → Origin → FaultKind → Fault
least None origin kind = record { origin = origin; kind = kind }
least (Some f) origin kind = if f.origin.place == origin.place then record f { kind = first_of f.kind kind } else f

-- the fault that was met before this place, if it is one of another line
abbrev pub of_another : Option Fault → Origin → Option Fault
of_another None origin = None
of_another (Some f) origin = if f.origin.place == origin.place then None else Some f

-- What the statements so far leave: what stands, and the assignments that have no value yet, in order.
pub record Assembly : Type 0 where
  pub standing : Standing
  pub assignments : List Assignment

abbrev pub nothing : Dialect → Assembly
nothing dialect = record { standing = at_start dialect; assignments = [] }

-- A fault that ends the walk. Where an assignment makes its name come back to itself, it has no form, and goes before the faults of later lines;
-- of one line the first in the order of the kinds counts.
abbrev pub behind_circle : Option Origin → Fault → Fault
behind_circle None f = f
behind_circle (Some o) f = if f.origin.place == o.place then record f { kind = first_of f.kind fault.Form } else record { origin = o; kind = fault.Form }

abbrev pub stopped : List Assignment → Fault → Result Module Fault
stopped assignments f = Err (behind_circle (first_circle assignments) f)

abbrev pub Next : Type 0
Next = Assembly → Option Fault → Result Module Fault

-- Behind a faulty label the line goes on from what stood before it.
abbrev pub behind : Placed → Origin → Assembly → Option Fault → Next → Result Module Fault
behind (Stands t waiting) origin a met next = next (record { standing = t; assignments = with_waiting waiting a.assignments }) met
behind (FaultyLabel kind) origin a met next = next a (Some (least met origin kind))
behind (Faulty kind waiting) origin a met next = stopped (with_waiting waiting a.assignments) (least met origin kind)

abbrev pub unless_met : Option Fault → List Assignment → Result Module Fault → Result Module Fault
unless_met (Some f) assignments result = stopped assignments f
unless_met None assignments result = result

-- a statement
unfoldable pub said : Origin → (text : List ℕ) → Assembly → Option Fault → Next → Result Module Fault
said origin text a met next = unless_met (of_another met origin) a.assignments (behind (placed origin text a.standing) origin a met next)

abbrev pub unless_circle : Option Origin → Result Module Fault → Result Module Fault
unless_circle (Some o) result = Err (record { origin = o; kind = fault.Form })
unless_circle None result = result

-- The end of the source. The first begin without its end, if there is one, counts among the faults that the whole module decides.
abbrev pub ended : Assembly → Option Fault → Option Opening → Result Module Fault
ended a met begin = unless_met met a.assignments (unless_circle (first_circle a.assignments) (filled_in a.standing a.assignments begin))

-- the statement of a line, at its place among the lines that were read
abbrev pub at : (line place : ℕ) → Origin
at line place = record { line = line; place = place }

abbrev pub onward : Stepped → Assembly → Option Fault → (Rest → Next) → Result Module Fault
onward (Steps rest) a met next = next rest a met
onward (Says st rest) a met next = said (at st.number rest.read) st.text a met (next rest)
onward (Faults line place kind) a met next = stopped a.assignments (least met (at line place) kind)
onward (Ends begin) a met next = ended a met begin

-- what names are worth where the next statement stands
abbrev pub names_in : Standing → Sense
names_in s = known_here s.dialect (here_in s.sections) s.scope

-- What is left to open of a source comes to this, behind what stands: its statements one after another, within so many steps.
unfoldable pub walked : ℕ → Rest → Assembly → Option Fault → Result Module Fault
walked zero rest a met = ended a met None
walked (suc left) rest a met = onward (step (names_in a.standing) rest) a met (walked left)

-- a walk that goes on with what was opened
abbrev pub resumed : Opened → Assembly → Option Fault → Result Module Fault
resumed (Given st left rest) a met = said (at st.number rest.read) st.text a met (walked left rest)
resumed (Stops line place kind) a met = stopped a.assignments (least met (at line place) kind)
resumed (AtEnd begin) a met = ended a met begin
resumed Later a met = ended a met None

-- the module of a source in a dialect, or its first fault
unfoldable pub assembled : Dialect → List ℕ → Result Module Fault
assembled dialect source = walked (suc (work (started dialect source))) (started dialect source) (nothing dialect) None

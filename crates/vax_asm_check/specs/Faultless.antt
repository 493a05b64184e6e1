-- The statements of a source that have no fault (VAX MACRO and Instruction Set Reference Manual, "Diagnostic messages").
use Rattle.std.specs.Prelude.{ℕ, zero, suc, if◌then◌else◌, List, [], ◌∷◌, ◌++◌, Option, None}
use Rattle.vax_asm.specs.Placing.{Placed, placed}
use Rattle.vax_asm.specs.Walk.{Assembly, at, names_in, nothing}
use Rattle.vax_asm_check.specs.Restating.{Said}
use Rattle.vax_asm_faults.specs.Survey.{is_ended, left_by, line_ended, statement_faults}
use Rattle.vax_asm_first.specs.declared.types.Origin.{Origin}
use Rattle.vax_asm_second.specs.declared.types.Fault.{Fault}
use Rattle.vax_dialect.specs.declared.Dialect.{Dialect}
use Rattle.vax_macro.specs.Expansion.{Stepped, Steps, Says, Faults, Ends, step}
use Rattle.vax_macro.specs.Rest.{Rest, started, work}

abbrev pub said_at : Origin → (text : List ℕ) → Said
said_at origin text = record { origin = origin; text = text }

-- a statement with these faults, if they are none
abbrev pub unless_faulty : List Fault → Said → List Said
unless_faulty [] s = s ∷ []
unless_faulty (f ∷ faults) s = []

abbrev pub Following : Type 0
Following = Assembly → Option ℕ → List Said

abbrev pub carried : Said → Placed → Assembly → Following → List Said
carried s p a next = unless_faulty (statement_faults p s.origin a.assignments) s ++ next (left_by p a) (line_ended p s.origin.place)

-- A statement, and those behind it. What is left of a line that has ended isn't carried out.
abbrev pub stated : Said → Assembly → Option ℕ → Following → List Said
stated s a ended next = if is_ended ended s.origin.place then next a ended else carried s (placed s.origin s.text a.standing) a next

-- Behind a fault of what macros, repeats and conditions open, nothing is read.
abbrev pub onward : Stepped → Assembly → Option ℕ → (Rest → Following) → List Said
onward (Steps rest) a ended next = next rest a ended
onward (Says st rest) a ended next = stated (said_at (at st.number rest.read) st.text) a ended (next rest)
onward (Faults line place kind) a ended next = []
onward (Ends begin) a ended next = []

-- those without a fault of what is left to open of a source, behind what stands
unfoldable pub faultless : ℕ → Rest → Assembly → Option ℕ → List Said
faultless zero rest a ended = []
faultless (suc left) rest a ended = onward (step (names_in a.standing) rest) a ended (faultless left)

-- in order
abbrev pub faultless_of : Dialect → List ℕ → List Said
faultless_of dialect source = faultless (suc (work (started dialect source))) (started dialect source) (nothing dialect) None

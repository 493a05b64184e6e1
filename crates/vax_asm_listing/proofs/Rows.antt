-- Statements, one after another.
use Rattle.std.proofs.Common.{◌≡◌, ◌++◌, ℕ, suc, arith, List, [], ◌∷◌, map, Option, Some, None, Result, Ok, refl, sym, subst, ap, ◌∙◌}
use Rattle.vax_asm.specs.Walk.{Assembly, ended, names_in, unless_circle}
use Rattle.vax_asm_first.specs.Circles.{first_circle}
use Rattle.vax_asm_first.specs.Fixups.{Assignment}
use Rattle.vax_asm_first.specs.Standing.{Standing, at_start}
use Rattle.vax_asm_first.specs.declared.types.Origin.{Origin}
use Rattle.vax_asm_second.specs.Modules.{filled_in}
use Rattle.vax_asm_second.specs.declared.types.Fault.{Fault}
use Rattle.vax_dialect.specs.declared.Dialect.{Dialect}
use Rattle.vax_lex.specs.Values.{Sense}
use Rattle.vax_macro.specs.Expanders.{OpensNext, read_of, rest_of}
use Rattle.vax_macro.specs.Rest.{Opening, Rest, started, work}
use Rattle.vax_macro.specs.declared.expander.Expander.{Expander}
use Rattle.vax_macro.specs.declared.expander.Line.{Line}
use Rattle.vax_module.specs.declared.Module.{Module}
use Rattle.vax_asm.specs.View.{Stood}
use Rattle.vax_asm_listing.specs.Rows.{AreRowsOf, IsAtEnd, IsTrace, Leads, LeadAll, OpenAll, Opens, label_of, point_of, row_of}
use Rattle.vax_asm_listing.specs.declared.types.Trace.{Trace}
use Rattle.vax_asm_listing.specs.declared.types.Point.{Point}
use Rattle.vax_asm_listing.specs.declared.types.Row.{Row}

pub begun : (dialect : Dialect) (source : List ℕ) (rows : List Row) (rest : Rest) (s : Standing) (assignments : List Assignment) → rows ≡ [] → rest ≡ started dialect source → s ≡ at_start dialect → assignments ≡ []
    → AreRowsOf dialect source rows rest (record { standing = s; assignments = assignments })
begun dialect source rows rest s assignments e f g h = rw (e, f, g, h) (refl, refl)

open_more : (rest : Rest) (a : Assembly) (rows : List Row) (middle : Rest) (b : Assembly) (row : Row) (end : Rest) (c : Assembly) → OpenAll rest a rows middle b → Opens middle b row.origin row.text end → Leads b row c
    → OpenAll rest a (rows ++ row ∷ []) end c
open_more rest a [] middle b row end c (e, f) opens h =
    (end, c, subst (λ (x : Assembly). Opens rest x row.origin row.text end) (sym f) (subst (λ (r : Rest). Opens r b row.origin row.text end) (sym e) opens), subst (λ (x : Assembly). Leads x row c) (sym f) h, (refl, refl))
open_more rest a (r ∷ rows) middle b row end c (after, d, gives, first, others) opens h = (after, d, gives, first, open_more after d rows middle b row end c others opens h)

-- rows of statements that are opened are rows of statements
pub lead_all : (rest : Rest) (a : Assembly) (rows : List Row) (end : Rest) (b : Assembly) → OpenAll rest a rows end b → LeadAll a rows b
lead_all rest a [] end b h = h.1
lead_all rest a (row ∷ rows) end b (after, c, opens, first, others) = (c, first, lead_all after c rows end b others)

-- a source that is read to its end and has a module had no fault
pub record IsEnded (a : Assembly) (met : Option Fault) (begin : Option Opening) (m : Module) : Type 0 where
  pub quiet : met ≡ None
  pub filled : filled_in a.standing a.assignments begin ≡ Ok m

no_circle : (o : Option Origin) (r : Result Module Fault) (m : Module) → unless_circle o r ≡ Ok m → r ≡ Ok m
no_circle None r m e = e
no_circle (Some origin) r m e = absurd cc

pub ended_is : (a : Assembly) (met : Option Fault) (begin : Option Opening) (m : Module) → ended a met begin ≡ Ok m → IsEnded a met begin m
ended_is a None begin m e = record { quiet = refl; filled = no_circle (first_circle a.assignments) (filled_in a.standing a.assignments begin) m e }
ended_is a (Some f) begin m e = absurd cc

pub trace_ended : (dialect : Dialect) (source : List ℕ) (left : Rest) (a : Assembly) (met : Option Fault) (t : Trace) → IsAtEnd left a → (met ≡ None → AreRowsOf dialect source t.notes.rows.items left a)
    → t.notes.labels.items ≡ map (label_of a.standing.scope) a.standing.scope.names.all → ended a met None ≡ Ok t.module → IsTrace dialect source t
trace_ended dialect source left a met t end rows labels e =
    let h = ended_is a met None t.module e in
    record { left = left; behind = a; rows = rows h.quiet; ends = end; filled = h.filled; labels = labels }

pub opens_on : (rest : Rest) (a : Assembly) (rows : List Row) (middle : Rest) (b : Assembly) (end : Rest) (c : Assembly) (row : Row) (origin : Origin) (text : List ℕ) (p q : Point) → OpenAll rest a rows middle b
    → Opens middle b origin text end → Stood origin text b c → row ≡ row_of origin text p q → p ≡ point_of b.standing → q ≡ point_of c.standing → OpenAll rest a (rows ++ row ∷ []) end c
opens_on rest a rows middle b end c row origin text p q h opens stood e f g =
    let is : row ≡ row_of origin text (point_of b.standing) (point_of c.standing) = e ∙ (ap (λ (x : Point). row_of origin text x q) f ∙ ap (λ (x : Point). row_of origin text (point_of b.standing) x) g) in
    open_more rest a rows middle b row end c h (subst (λ (r : Row). Opens middle b r.origin r.text end) (sym is) opens) (subst (λ (r : Row). Leads b r c) (sym is) (record { stands = stood; placed = refl }))

-- what an expander answers is what its source opens to
pub opens_next : (names : Sense) (before after : Expander) (a : Assembly) (said : Line) (origin : Origin) → names ≡ names_in a.standing → origin.line ≡ said.number → origin.place ≡ read_of after
    → OpensNext names (Ok (Some said)) before after → Opens (rest_of before) a origin said.text.items (rest_of after)
opens_next names before after a said origin same line place h =
    let most : ℕ = suc (work (rest_of before)) in
    let next = h most (omega arith) in
    record { steps = most; left = next.0; given = rw (sym same, line) next.2; place = place }

pub ends_next : (names : Sense) (before after : Expander) (a : Assembly) → names ≡ names_in a.standing → OpensNext names (Ok None) before after → IsAtEnd (rest_of before) a
ends_next names before after a same h =
    let most : ℕ = suc (work (rest_of before)) in
    (most, rw (sym same) (h most (omega arith)))

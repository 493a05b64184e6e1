-- A source is a row of statements.
use Rattle.std.proofs.Common.{◌≡◌, ◌<◌, ℕ, zero, suc, List, [], ◌∷◌, length, Option, Some, None, Result, Ok, refl, subst, arith}
use Rattle.std.proofs.lemmas.List.Elements.{All-cons, All-nil}
use Rattle.std.specs.Prelude.{slice_get}
use Rattle.vax_asm.specs.Placing.{Placed, Stands, FaultyLabel, Faulty, placed}
use Rattle.vax_asm.specs.Walk.{Assembly, Next, assembled, at, behind, ended, least, names_in, nothing, of_another, onward, said, unless_circle, unless_met, walked}
use Rattle.vax_asm_second.specs.Modules.{filled_in, known_in}
use Rattle.vax_asm_second.specs.declared.types.Fault.{Fault}
use Rattle.vax_asm_sections.specs.Layout.{at_first, unnamed}
use Rattle.vax_dialect.specs.declared.Dialect.{Dialect}
use Rattle.vax_macro.specs.Expansion.{Stepped, Steps, Says, Faults, Ends, step}
use Rattle.vax_macro.specs.Rest.{Opening, Rest, started, work}
use Rattle.vax_module.specs.declared.Module.{Module}
use Rattle.vax_module.specs.declared.Section.{Section}
use Rattle.vax_asm_first.specs.Circles.{first_circle}
use Rattle.vax_asm_first.specs.Fixups.{Assignment}
use Rattle.vax_asm_first.specs.Standing.{Standing}
use Rattle.vax_asm_first.specs.declared.types.Origin.{Origin}
use Rattle.vax_asm_laws.specs.Counted.{AreCounted, IsCounted, section_at}
use Rattle.vax_asm_laws.specs.Leading.{Halves, IsOf, IsStated, Leads, LiesBehind, Line, with_statement}
use Rattle.vax_asm_laws.specs.Lying.{AllStand, Held, IsIn, MayAllStand, MayStand, StandsAt, place_of}
use Rattle.vax_asm_laws.proofs.Counting.{Step, step_same, step_then}
use Rattle.vax_asm_laws.proofs.Laying.{lies_behind, sizes_are}
use Rattle.vax_asm_laws.proofs.Lying.{stands}
use Rattle.vax_asm_laws.proofs.Stating.{statement_goes}

-- statements lead from what was left to a module
record Path (a : Assembly) (m : Module) : Type 0 where
  lines : List Line
  last : Assembly
  begin : Option Opening
  leads : Leads a lines last
  filled : filled_in last.standing last.assignments begin ≡ Ok m

path_more : (origin : Origin) (text : List ℕ) (a : Assembly) (t : Standing) (waiting : Option Assignment) (m : Module) → placed origin text a.standing ≡ Stands t waiting → Path (with_statement t waiting a) m → Path a m
path_more origin text a t waiting m e p = record { lines = record { origin = origin; text = text } ∷ p.lines; last = p.last; begin = p.begin; leads = (t, waiting, e, p.leads); filled = p.filled }

circle_is : (o : Option Origin) (r : Result Module Fault) (m : Module) → unless_circle o r ≡ Ok m → r ≡ Ok m
circle_is None r m e = e
circle_is (Some o) r m e = cc

met_is : (o : Option Fault) (assignments : List Assignment) (r : Result Module Fault) (m : Module) → unless_met o assignments r ≡ Ok m → r ≡ Ok m
met_is None assignments r m e = e
met_is (Some f) assignments r m e = cc

ended_path : (a : Assembly) (met : Option Fault) (begin : Option Opening) (m : Module) → ended a met begin ≡ Ok m → Path a m
ended_path a met begin m e =
    let filled : Result Module Fault = filled_in a.standing a.assignments begin in
    record { lines = []; last = a; begin = begin; leads = refl; filled = circle_is (first_circle a.assignments) filled m (met_is met a.assignments (unless_circle (first_circle a.assignments) filled) m e) }

behind_path : (p : Placed) (origin : Origin) (text : List ℕ) (a : Assembly) (met : Option Fault) (next : Next) (m : Module) → placed origin text a.standing ≡ p
    → ((b : Assembly) (now : Option Fault) → next b now ≡ Ok m → Path b m) → behind p origin a met next ≡ Ok m → Path a m
behind_path (Stands t waiting) origin text a met next m is h e = path_more origin text a t waiting m is (h (with_statement t waiting a) met e)
behind_path (FaultyLabel kind) origin text a met next m is h e = h a (Some (least met origin kind)) e
behind_path (Faulty kind waiting) origin text a met next m is h e = cc

said_path : (origin : Origin) (text : List ℕ) (a : Assembly) (met : Option Fault) (next : Next) (m : Module) → ((b : Assembly) (now : Option Fault) → next b now ≡ Ok m → Path b m) → said origin text a met next ≡ Ok m → Path a m
unfolding said
said_path origin text a met next m h e =
    behind_path (placed origin text a.standing) origin text a met next m refl h (met_is (of_another met origin) a.assignments (behind (placed origin text a.standing) origin a met next) m e)

onward_path : (st : Stepped) (a : Assembly) (met : Option Fault) (next : Rest → Next) (m : Module) → ((rest : Rest) (b : Assembly) (now : Option Fault) → next rest b now ≡ Ok m → Path b m) → onward st a met next ≡ Ok m → Path a m
onward_path (Steps rest) a met next m h e = h rest a met e
onward_path (Says st rest) a met next m h e = said_path (at st.number rest.read) st.text a met (next rest) m (h rest) e
onward_path (Faults line place kind) a met next m h e = cc
onward_path (Ends begin) a met next m h e = ended_path a met begin m e

walked_path : (left : ℕ) (rest : Rest) (a : Assembly) (met : Option Fault) (m : Module) → walked left rest a met ≡ Ok m → Path a m
unfolding walked
walked_path zero rest a met m e = ended_path a met None m e
walked_path (suc left) rest a met m e = onward_path (step (names_in a.standing) rest) a met (walked left) m (λ r b now made. walked_path left r b now m made) e

assembled_path : (dialect : Dialect) (source : List ℕ) (m : Module) → assembled dialect source ≡ Ok m → Path (nothing dialect) m
unfolding assembled
assembled_path dialect source m e = walked_path (suc (work (started dialect source))) (started dialect source) (nothing dialect) None m e

-- ---- what is counted

pub start_counted : AreCounted at_first
start_counted = record { current = omega arith; sections = All-cons IsCounted unnamed [] (record { stand = tt; size = refl }) (All-nil IsCounted) }

pub lead_on : (a b : Assembly) (lines : List Line) → AreCounted a.standing.sections → Leads a lines b → Step a.standing.sections b.standing.sections
lead_on a b [] c h = subst (λ (x : Assembly). Step a.standing.sections x.standing.sections) h (step_same a.standing.sections c)
lead_on a b (l ∷ lines) c h =
    let t : Standing = h.0 in
    let first : Step a.standing.sections t.sections = statement_goes l.origin l.text a.standing t h.1 c h.2 in
    step_then a.standing.sections t.sections b.standing.sections first (lead_on (with_statement t h.1 a) b lines first.counted h.3)

pub is_stated : (dialect : Dialect) (source : List ℕ) (m : Module) → assembled dialect source ≡ Ok m → IsStated dialect m
is_stated dialect source m e =
    let p : Path (nothing dialect) m = assembled_path dialect source m e in
    record {
      lines = p.lines;
      behind = p.last;
      begin = p.begin;
      leads = p.leads;
      filled = p.filled;
      sizes = sizes_are p.last.standing p.last.assignments p.begin m (lead_on (nothing dialect) p.last p.lines start_counted p.leads).counted p.filled;
    }

pub label_lies : (dialect : Dialect) (first rest : List Line) (a b : Assembly) (begin : Option Opening) (m : Module) (i : ℕ) (section : Section) → Leads (nothing dialect) first a → Leads a rest b → filled_in b.standing b.assignments begin ≡ Ok m
    → i < length a.standing.sections.all → slice_get m.sections i ≡ Some section → LiesBehind i (section_at i a.standing.sections).size a.standing b.standing section
label_lies dialect first rest a b begin m i section before after e less found =
    let c : AreCounted a.standing.sections = (lead_on (nothing dialect) a first start_counted before).counted in
    lies_behind a.standing b.standing b.assignments begin m i section c (lead_on a b rest c after).keeps e less found

-- ---- what may stand

pub start_stands : MayAllStand at_first
start_stands = All-cons AllStand unnamed [] (All-nil MayStand) (All-nil AllStand)

-- from the start to the end of a module's statements
pub all_go : (h : Halves) (m : Module) → IsOf h m → Step at_first h.end.standing.sections
all_go h m is =
    let first : Step at_first h.middle.standing.sections = lead_on (nothing h.dialect) h.middle h.first start_counted is.before in
    step_then at_first h.middle.standing.sections h.end.standing.sections first (lead_on h.middle h.end h.rest first.counted is.behind)

pub part_stands : (h : Halves) (m : Module) (i : ℕ) (section : Section) (p : Held) → IsOf h m → i < length h.end.standing.sections.all → slice_get m.sections i ≡ Some section → IsIn i h.end.standing.sections p
    → StandsAt (known_in h.end.standing) i (place_of p) p.part section m.relocs
part_stands h m i section p is less found held =
    stands h.end.standing h.end.assignments h.begin m i section p ((all_go h m is).stand start_stands) is.filled less found held

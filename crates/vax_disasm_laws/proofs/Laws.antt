-- The laws.
use Rattle.std.proofs.Common.{◌≡◌, false, ℕ, zero, suc, ◌+◌, ◌%◌, ◌<◌, ◌≤◌, ◌^◌, List, [], ◌∷◌, ◌++◌, length, map, take, get_or, Some, None, Result, Ok, refl, ap, ◌∙◌, sym, subst, arith}
use Rattle.std.specs.Prelude.{All, slice_get}
use Rattle.std.proofs.lemmas.List.{append-nil, length-map}
use Rattle.std.proofs.lemmas.List.Elements.{All-head, All-tail}
use Rattle.vax_link.specs.Values.{section_address}
use Rattle.std.proofs.lemmas.Option.{slice_get-get_or}
use Rattle.vax_asm.specs.Placing.{placed, placed_by}
use Rattle.vax_asm.specs.Walk.{assembled, nothing, walked}
use Rattle.vax_macro.specs.Rest.{started, work}
use Rattle.vax_asm_first.specs.Fixups.{Fixup}
use Rattle.vax_asm_first.specs.Progress.{Progress, done}
use Rattle.vax_asm_first.specs.Standing.{Standing}
use Rattle.vax_asm_first.specs.declared.types.Origin.{Origin}
use Rattle.vax_asm_instruction.specs.Bytes.{AreHeld, HasInstruction, Held, IsReadBack, instruction_bytes, sequence_of}
use Rattle.vax_asm_second.specs.Modules.{known_in}
use Rattle.vax_asm_sections.specs.Layout.{Part, Section as Building, current_of, section_limit, unnamed}
use Rattle.vax_flat.specs.Grammar.{IsInstruction, Sequence, End, ReservedHere, Next, IsUnreserved}
use Rattle.vax_isa.specs.Instructions.{Instruction}
use Rattle.vax_isa.specs.Rows.{row_of, with_opcode}
use Rattle.vax_link.specs.Names.{module_at}
use Rattle.vax_link_laws.specs.Holding.{HasSection}
use Rattle.vax_macro.specs.declared.error.FaultKind.{FaultKind}
use Rattle.vax_module.specs.declared.Module.{Module}
use Rattle.vax_module.specs.declared.Section.{Section}
use Rattle.vax_dialect.specs.declared.Dialect.{Dialect}
use Rattle.vax_asm_laws.proofs.Counting.{Step}
use Rattle.vax_asm_laws.proofs.Laying.{sizes_are}
use Rattle.vax_asm_laws.proofs.Walking.{lead_on, part_stands, start_counted}
use Rattle.vax_asm_laws.specs.Counted.{AreCounted, end_of, section_at}
use Rattle.vax_asm_laws.specs.Lying.{StandsAt}
use Rattle.vax_asm_laws.specs.Leading.{Halves, IsOf, Leads, Line}
use Rattle.vax_disasm.specs.Listed.{Listing, is_unreserved, listed, listing}
use Rattle.vax_disasm_laws.specs.Assembling.{BeginsWith, HasRoom, IsLinked, IsPart, IsStatement, Program, Shows, address_of, section_of, texts}
use Rattle.vax_disasm_laws.specs.Rows.{Assembles, IsSourceOf, Row, row_texts, rows_from}
use Rattle.vax_disasm_laws.proofs.Sources.{AreOrdinary, AreShort, IsReadAs, left_of, rows_ordinary, texts_read}
use Rattle.vax_disasm_laws.proofs.Accepting.{Alone, nothing_clear, rows_fit, texts_accepted}
use Rattle.vax_disasm_laws.proofs.Adding.{Longer, adds, adds_fits, adds_made, begun_at, put_longer, standing_with}
use Rattle.vax_disasm_laws.proofs.Assembled.{AllLie}
use Rattle.vax_disasm_laws.proofs.Lines.{line_placed, parts_of}
use Rattle.vax_disasm_laws.proofs.Listings.{Ahead, IsOne, bytes_behind, is_one, one_shown, parts_long, rows_shown}
use Rattle.vax_disasm_laws.proofs.Readings.{AreBytes}

-- ---- a statement

done_none : (p : Progress) → p.fault ≡ None → done p ≡ Ok p.standing
done_none p e = rw e refl

pub is_statement : (bytes : List ℕ) (address : ℕ) (l : Listing) (origin : Origin) (s : Standing) → AreBytes bytes → listed bytes address ≡ Some l → s.sections.current < length s.sections.all → HasRoom l.length s.sections
    → IsStatement origin l.text l.length s
is_statement bytes address l origin s are e within room =
    let one : IsOne bytes address l = is_one bytes address l e in
    let is = one.is in
    let parts : List (Part Fixup) = parts_of origin is.opcode address (current_of s.sections).size one.operands in
    let count : (from : ℕ) → end_of from parts ≡ from + l.length = λ from. parts_long bytes address l origin (current_of s.sections).size from are one in
    let fits : (adds parts (begun_at s)).progress.fault ≡ None =
    adds_fits parts (begun_at s) refl within (let room_section = room.section in omega (arith, count 0), let room_whole = room.whole in omega (arith, count 0), room.has_bytes) in
    let p : Progress = (adds parts (begun_at s)).progress in
    let longer : Longer parts s.sections (standing_with parts s).sections = put_longer parts s.sections within room.has_bytes in
    let stood : p.standing ≡ standing_with parts s = adds_made parts (begun_at s) fits in
    record {
      behind = standing_with parts s;
      placed =
          ap (λ (t : List ℕ). placed origin t s) one.text
          ∙ line_placed origin address is.opcode is.rest one.row one.operands s (bytes_behind bytes is.rest is.opcode is.split are) is.listed is.read is.unreserved
          ∙ ap (λ (r : Result Standing FaultKind). placed_by r None) (done_none p fits ∙ ap (λ (t : Standing). Ok t) stood);
      current = longer.current;
      size = longer.size ∙ count (current_of s.sections).size;
    }

-- ---- what stands in an image

record Whole (p : Program) (owner : ℕ) (h : Halves) : Type 0 where
  source : Module
  section : Section
  has : HasSection p.modules owner (section_of h) section
  lie : AllLie (known_in h.end.standing) (section_of h) (section_at (section_of h) h.end.standing.sections).parts section (module_at p.modules owner).relocs
  ahead : Ahead (section_at (section_of h) h.end.standing.sections).parts (section_of h) h.middle h.end

blank : Section
blank = record { name = []; align = 1; write = false; bytes = []; storage = 0 }

there_is : (modules : List Module) (owner : ℕ) (m : Module) → slice_get modules owner ≡ Some m → module_at modules owner ≡ m
there_is [] owner m e = cc
there_is (x ∷ modules) zero m e = cc
there_is (x ∷ modules) (suc owner) m e = there_is modules owner m e

whole : (p : Program) (owner : ℕ) (h : Halves) → IsPart p owner h → Whole p owner h
whole p owner h part =
    let m : Module = part.source in
    let i : ℕ = section_of h in
    let middle : AreCounted h.middle.standing.sections = (lead_on (nothing h.dialect) h.middle h.first start_counted part.made.before).counted in
    let to_end : Step h.middle.standing.sections h.end.standing.sections = lead_on h.middle h.end h.rest middle part.made.behind in
    let less : i < length h.end.standing.sections.all = omega (arith, middle.current, to_end.keeps.all) in
    let sizes : map (λ (x : Section). length x.bytes) m.sections ≡ map (λ (x : Building Fixup). x.size) h.end.standing.sections.all = sizes_are h.end.standing h.end.assignments h.begin m to_end.counted part.made.filled in
    let count : length m.sections ≡ length h.end.standing.sections.all =
    sym (length-map m.sections (λ (x : Section). length x.bytes)) ∙ ap length sizes ∙ length-map h.end.standing.sections.all (λ (x : Building Fixup). x.size) in
    let section : Section = get_or m.sections i blank in
    let found : slice_get m.sections i ≡ Some section = slice_get-get_or m.sections i blank (omega (arith, count, less)) in
    let here : module_at p.modules owner ≡ m = there_is p.modules owner m part.there in
    record {
      source = m;
      section = section;
      has = subst (λ (x : Module). slice_get x.sections i ≡ Some section) (sym here) found;
      lie = λ before q after e. subst (λ (x : Module). StandsAt (known_in h.end.standing) i (end_of 0 before) q section x.relocs) (sym here)
          (part_stands h m i section (record { before = before; part = q; after = after }) part.made less found e);
      ahead = record { counted = middle; current = refl; parts = refl };
    }

-- the second half's lines
lines_lead : (h : Halves) (m : Module) (lines more : List Line) → IsOf h m → h.rest ≡ lines ++ more → Leads h.middle (lines ++ more) h.end
lines_lead h m lines more is e = subst (λ (l : List Line). Leads h.middle l h.end) e is.behind

one_line : (p : Program) (owner : ℕ) (h : Halves) (bytes text : List ℕ) (l : Listing) (lines more : List Line) → AreBytes bytes → IsLinked p → IsPart p owner h → Whole p owner h → listed bytes (address_of p owner h) ≡ Some l
    → h.rest ≡ lines ++ more → texts lines ≡ l.text ∷ [] → Shows p.image (address_of p owner h) (take l.length bytes)
one_line p owner h bytes text l [] more are linked part w e split is = cc
one_line p owner h bytes text l (first ∷ lines) more are linked part w e split is =
    let same : first.text ≡ l.text = cc in
    (one_shown p owner (section_of h) w.section (known_in h.end.standing) linked w.has (section_at (section_of h) h.end.standing.sections).parts w.lie h.end bytes (address_of p owner h) l h.middle first (lines ++ more) are
    (is_one bytes (address_of p owner h) l e) same w.ahead (lines_lead h part.source (first ∷ lines) more part.made split) refl).shown

pub text_stands : (bytes : List ℕ) (l : Listing) (p : Program) (owner : ℕ) (h : Halves) → AreBytes bytes → IsLinked p → IsPart p owner h → listed bytes (address_of p owner h) ≡ Some l → BeginsWith h (l.text ∷ [])
    → Shows p.image (address_of p owner h) (take l.length bytes)
text_stands bytes l p owner h are linked part e b = one_line p owner h bytes l.text l b.lines b.more are linked part (whole p owner h part) e b.spelled b.are

pub rows_stand : (bytes : List ℕ) (p : Program) (owner : ℕ) (h : Halves) → AreBytes bytes → IsLinked p → IsPart p owner h → address_of p owner h + length bytes ≤ 2 ^ 32 → BeginsWith h (row_texts (rows_from 0 (address_of p owner h) bytes))
    → Shows p.image (address_of p owner h) bytes
rows_stand [] p owner h are linked part low b = λ k less. absurd (omega arith)
rows_stand (byte ∷ bytes) p owner h are linked part low b =
    let w : Whole p owner h = whole p owner h part in
    let address : ℕ = address_of p owner h in
    let small : address ≡ address % 2 ^ 32 = omega arith in
    let start : address + 0 ≡ address = omega arith in
    subst (λ (n : ℕ). Shows p.image n (byte ∷ bytes)) start
    (rows_shown p owner (section_of h) w.section (known_in h.end.standing) linked w.has (section_at (section_of h) h.end.standing.sections).parts w.lie h.end (byte ∷ bytes) 0 address are low h.middle b.lines b.more
    (b.are ∙ ap (λ (n : ℕ). row_texts (rows_from 0 n (byte ∷ bytes))) small) w.ahead (lines_lead h part.source b.lines b.more part.made b.spelled) (sym start))

-- ---- what is assembled is listed

unreserved_itself : (q : Sequence) → IsUnreserved q → is_unreserved q ≡ Some q
unreserved_itself End u = refl
unreserved_itself (ReservedHere count) u = absurd u
unreserved_itself (Next kind s count rest) u = rw (unreserved_itself rest u) refl

read_listed : (bytes : List ℕ) (i : Instruction) (q : Sequence) (count address : ℕ) → IsInstruction bytes i q count → listed bytes address ≡ Some (listing address i q)
unfolding listed
read_listed bytes i q count address is = rw (is.split, is.listed, is.read, unreserved_itself q is.unreserved) refl

pub assembled_listed : (i : Instruction) (before after : Building Fixup) (has : HasInstruction (row_of i) before after) (held : List Held) (rest : List ℕ) (address : ℕ) → AreHeld has.operands held → with_opcode i.opcode ≡ Some i
    → listed (instruction_bytes i.opcode held ++ rest) address ≡ Some (listing address i (sequence_of held))
assembled_listed i before after has held rest address are w =
    let back : IsReadBack (row_of i) held = (has.filled held are).read_back in
    read_listed (instruction_bytes i.opcode held ++ rest) i (sequence_of held) (length (instruction_bytes i.opcode held)) address (back i rest w refl)

-- ---- a listing as a source

short_each : (these : List (List ℕ)) → All (λ (t : List ℕ). length t ≤ 1024) these → AreShort these
short_each [] h = tt
short_each (t ∷ these) h = (All-head (λ (x : List ℕ). length x ≤ 1024) t these h, short_each these (All-tail (λ (x : List ℕ). length x ≤ 1024) t these h))

source_read : (dialect : Dialect) (source : List ℕ) (rows : List Row) (m : Module) → IsSourceOf source rows → AreOrdinary (row_texts rows) → assembled dialect source ≡ Ok m → IsReadAs (row_texts rows) (nothing dialect) m
unfolding assembled
source_read dialect source rows m is ordinary e =
    let steps : ℕ = suc (work (started dialect source)) in
    let same : walked steps (left_of dialect 0 (row_texts rows) 0) (nothing dialect) None ≡ Ok m = ap (λ (ts : List (List ℕ)). walked steps (left_of dialect 0 ts 0) (nothing dialect) None) (sym is.texts) ∙ e in
    texts_read dialect (row_texts rows) steps 0 0 (nothing dialect) m ordinary (short_each (row_texts rows) is.short) (let few = is.few in omega arith) (let few = is.few in omega arith) same

pub source_stands : (dialect : Dialect) (source bytes : List ℕ) (m : Module) (p : Program) (owner : ℕ) → AreBytes bytes → IsLinked p → slice_get p.modules owner ≡ Some m → assembled dialect source ≡ Ok m
    → IsSourceOf source (rows_from 0 (section_address p.region p.modules owner 0) bytes) → section_address p.region p.modules owner 0 + length bytes ≤ 2 ^ 32 → Shows p.image (section_address p.region p.modules owner 0) bytes
source_stands dialect source bytes m p owner are linked there e is low =
    let address : ℕ = section_address p.region p.modules owner 0 in
    let these : List (List ℕ) = row_texts (rows_from 0 address bytes) in
    let r : IsReadAs these (nothing dialect) m = source_read dialect source (rows_from 0 address bytes) m is (rows_ordinary bytes 0 address are) e in
    let h : Halves = record { dialect = dialect; first = []; middle = nothing dialect; rest = r.lines; end = r.end; begin = None } in
    let start : address_of p owner h ≡ address = omega arith in
    let part : IsPart p owner h = record { source = m; made = record { before = refl; behind = r.leads; filled = r.filled }; there = there } in
    let begins : BeginsWith h (row_texts (rows_from 0 (address_of p owner h) bytes)) =
    record { lines = r.lines; more = []; spelled = sym (append-nil r.lines); are = r.are ∙ ap (λ (n : ℕ). row_texts (rows_from 0 n bytes)) (sym start) } in
    subst (λ (n : ℕ). Shows p.image n bytes) start (rows_stand bytes p owner h are linked part (omega (arith, start)) begins)

pub source_accepted : (dialect : Dialect) (source bytes : List ℕ) (address : ℕ) → AreBytes bytes → length bytes ≤ section_limit → IsSourceOf source (rows_from 0 address bytes) → Assembles dialect source
unfolding assembled
source_accepted dialect source bytes address are room is =
    let these : List (List ℕ) = row_texts (rows_from 0 address bytes) in
    let steps : ℕ = suc (work (started dialect source)) in
    let start : Alone 0 (nothing dialect) = record { section = unnamed; is = refl; size = refl; has_bytes = refl; clear = nothing_clear; none = refl } in
    let made = texts_accepted dialect these steps 0 0 0 (nothing dialect) (rows_ordinary bytes 0 address are) (short_each these is.short) (rows_fit bytes are 0 address 0 (omega arith) (omega arith)) (let few = is.few in omega arith) (let few = is.few in omega arith) start in
    record { source_module = made.0; is = ap (λ (ts : List (List ℕ)). walked steps (left_of dialect 0 ts 0) (nothing dialect) None) is.texts ∙ made.1 }

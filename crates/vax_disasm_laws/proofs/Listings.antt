-- The texts of a listing, line by line.
use Rattle.std.proofs.Common.{◌≡◌, ℕ, zero, suc, ◌+◌, ◌-◌, ◌%◌, ◌<◌, ◌≤◌, ◌^◌, true, List, [], ◌∷◌, ◌++◌, length, take, drop, Option, Some, None, refl, ap, ◌∙◌, sym, subst, arith, append_assoc}
use Rattle.std.specs.Prelude.{All, nat_lt}
use Rattle.std.proofs.lemmas.Bool.Decides.{nat_tests}
use Rattle.std.specs.List.{flat_map}
use Rattle.std.proofs.lemmas.List.{length-take-le, take-append-drop}
use Rattle.vax_asm.specs.Placing.{placed, placed_by}
use Rattle.vax_asm.specs.Walk.{Assembly}
use Rattle.vax_asm_encode.specs.Bytes.{low_bytes}
use Rattle.vax_asm_encode.specs.Fields.{filled}
use Rattle.vax_asm_first.specs.Fixups.{Fixup}
use Rattle.vax_asm_first.specs.Progress.{done}
use Rattle.vax_asm_first.specs.declared.types.Origin.{Origin}
use Rattle.vax_asm_second.specs.Laid.{Known, output}
use Rattle.vax_asm_sections.specs.Layout.{Part, Sections, current_of, unnamed}
use Rattle.vax_flat.specs.Grammar.{Sequence, IsInstruction, IsUnreserved, read_operands, total}
use Rattle.vax_isa.specs.Instructions.{Instruction}
use Rattle.vax_isa.specs.Rows.{IsKind}
use Rattle.vax_isa.specs.declared.OperandKind.{OperandKind}
use Rattle.vax_link.specs.Names.{module_at}
use Rattle.vax_link.specs.Values.{section_address}
use Rattle.vax_link_laws.specs.Holding.{HasSection}
use Rattle.vax_module.specs.declared.Section.{Section}
use Rattle.vax_asm_laws.proofs.Walking.{lead_on}
use Rattle.vax_asm_laws.specs.Counted.{AreCounted, Begins, IsCounted, Keeps, end_of, section_at}
use Rattle.vax_asm_laws.specs.Leading.{Leads, Line}
use Rattle.vax_asm_laws.specs.Lying.{StandsAt}
use Rattle.vax_disasm.proofs.Instructions.{decoded}
use Rattle.vax_disasm.specs.Listed.{IsDecoded, Listing, listed}
use Rattle.vax_disasm.specs.Text.{instruction_text}
use Rattle.vax_listing.specs.Listing.{length_of, line, lines_from, text_of}
use Rattle.vax_disasm_laws.specs.Assembling.{IsLinked, Program, Shows, texts}
use Rattle.vax_disasm_laws.specs.Rows.{row_line, row_texts, rows_from}
use Rattle.vax_disasm_laws.proofs.Adding.{HasData, adds, begun_at}
use Rattle.vax_disasm_laws.proofs.Assembled.{AllLie, Puts, instruction_shown, line_puts, long_for, total_within}
use Rattle.vax_disasm_laws.proofs.Bytes.{byte_part, byte_placed, byte_text}
use Rattle.vax_disasm_laws.proofs.Lines.{NextRead, fields, found_formed, found_kinds, head_kind, later_bytes, line_placed, next_read, none_read, parts_of, tail_kinds}
use Rattle.vax_disasm_laws.proofs.Readings.{AreBytes, IsRead, is_read_from}
use Rattle.vax_disasm_laws.proofs.Stated.{length_for}
use Rattle.vax_disasm_laws.proofs.Showing.{own_shown, shows_both, shows_none}

-- what a listed instruction is
pub record IsOne (bytes : List ℕ) (address : ℕ) (l : Listing) : Type 0 where
  pub row : Instruction
  pub operands : Sequence
  pub is : IsInstruction bytes row operands l.length
  pub text : l.text ≡ instruction_text address row operands

pub is_one : (bytes : List ℕ) (address : ℕ) (l : Listing) → listed bytes address ≡ Some l → IsOne bytes address l
is_one bytes address l e =
    let d : IsDecoded bytes address (Some l) = subst (IsDecoded bytes address) e (decoded bytes address) in
    record { row = d.0; operands = d.1; is = d.2; text = d.3 }

pub bytes_behind : (bytes rest : List ℕ) (opcode : ℕ) → bytes ≡ opcode ∷ rest → AreBytes bytes → AreBytes rest
bytes_behind bytes rest opcode e are = λ i. (subst AreBytes e are) (suc i)

-- what stands at the end of the statements, seen from a line
pub record Ahead (all : List (Part Fixup)) (i : ℕ) (a end : Assembly) : Type 0 where
  pub counted : AreCounted a.standing.sections
  pub current : a.standing.sections.current ≡ i
  pub parts : (section_at i end.standing.sections).parts ≡ all

-- A line's parts stand where it begins, among all of the section.
record Amid (all parts : List (Part Fixup)) (a b end : Assembly) (i : ℕ) : Type 0 where
  before : List (Part Fixup)
  after : List (Part Fixup)
  place : end_of 0 before ≡ (current_of a.standing.sections).size
  split : all ≡ before ++ (parts ++ after)
  ahead : Ahead all i b end
  size : (current_of b.standing.sections).size ≡ end_of (current_of a.standing.sections).size parts

amid : (all parts : List (Part Fixup)) (i : ℕ) (a b end : Assembly) (l : Line) (lines : List Line) → Ahead all i a end → Leads a (l ∷ lines) end → AreCounted b.standing.sections → Puts parts a l b lines end → Amid all parts a b end i
amid all parts i a b end l lines h leads counted p =
    let s : Sections Fixup = a.standing.sections in
    let t : Sections Fixup = b.standing.sections in
    let same : t.current ≡ i = p.longer.current ∙ h.current in
    let keeps : Keeps t end.standing.sections = (lead_on b end lines counted p.leads).keeps in
    let begins : Begins (current_of t) (section_at i end.standing.sections) = subst (λ (n : ℕ). Begins (current_of t) (section_at n end.standing.sections)) same (keeps.parts t.current counted.current) in
    let here : IsCounted (current_of s) = h.counted.sections s.current unnamed h.counted.current in
    record {
      before = (current_of s).parts;
      after = begins.0;
      place = here.size;
      split = sym h.parts ∙ begins.1 ∙ ap (λ (x : List (Part Fixup)). x ++ begins.0) p.longer.parts_are ∙ append_assoc (current_of s).parts parts begins.0;
      ahead = record { counted = counted; current = same; parts = h.parts };
      size = p.longer.size;
    }

-- how long a listed instruction is
pub record IsLong (bytes : List ℕ) (l : Listing) : Type 0 where
  pub some : 1 ≤ l.length
  pub within : l.length ≤ length bytes

pub is_long : (bytes : List ℕ) (address : ℕ) (l : Listing) → AreBytes bytes → IsOne bytes address l → IsLong bytes l
is_long bytes address l are one =
    let is = one.is in
    let ks : All IsKind one.row.operands = found_kinds one.row (found_formed is.opcode one.row is.listed) in
    let total_fits : total one.operands ≤ length is.rest = total_within one.row.operands is.rest one.operands (bytes_behind bytes is.rest is.opcode is.split are) ks is.read is.unreserved in
    let long : length bytes ≡ suc (length is.rest) = ap length is.split in
    record { some = omega (arith, is.counted); within = omega (arith, is.counted, long, total_fits) }

fields_end : (origin : Origin) (kinds : List OperandKind) (bytes : List ℕ) (q : Sequence) (there from at : ℕ) → AreBytes bytes → All IsKind kinds → read_operands kinds bytes ≡ Some q → IsUnreserved q → end_of at (fields origin there from q) ≡ at + total q
unfolding total
fields_end origin [] bytes q there from at are ks e u = subst (λ (t : Sequence). end_of at (fields origin there from t) ≡ at + total t) (none_read bytes q e) (omega arith)
fields_end origin (kind ∷ kinds) bytes q there from at are ks e u =
    let n : NextRead kind kinds bytes q = next_read kind kinds bytes q e u in
    let read : IsRead kind bytes n.s n.count = is_read_from kind bytes n.s n.count are (head_kind kind kinds ks) n.first in
    let rest : IsUnreserved n.rest = subst (λ (t : Sequence). IsUnreserved t) (sym n.is) u in
    let counted : length_for kind n.s ≡ n.count = long_for kind n.s read.may ∙ ap length read.bytes_are ∙ length-take-le n.count bytes read.within in
    let more : end_of (at + length_for kind n.s) (fields origin (there + n.count) (from + length_for kind n.s) n.rest) ≡ at + length_for kind n.s + total n.rest =
    fields_end origin kinds (drop n.count bytes) n.rest (there + n.count) (from + length_for kind n.s) (at + length_for kind n.s) (later_bytes n.count bytes are) (tail_kinds kind kinds ks) n.later rest in
    subst (λ (t : Sequence). end_of at (fields origin there from t) ≡ at + total t) n.is (more ∙ omega (arith, counted))

-- all parts of a listed instruction
pub parts_long : (bytes : List ℕ) (address : ℕ) (l : Listing) (origin : Origin) (at from : ℕ) → AreBytes bytes → (one : IsOne bytes address l) → end_of from (parts_of origin one.is.opcode address at one.operands) ≡ from + l.length
parts_long bytes address l origin at from are one =
    let is = one.is in
    let ks : All IsKind one.row.operands = found_kinds one.row (found_formed is.opcode one.row is.listed) in
    fields_end origin one.row.operands is.rest one.operands (address + 1) (at + 1) (from + 1) (bytes_behind bytes is.rest is.opcode is.split are) ks is.read is.unreserved ∙ omega (arith, is.counted)

module _ (p : Program) (owner i : ℕ) (section : Section) (k : Known) (whole : IsLinked p) (has : HasSection p.modules owner i section) (all : List (Part Fixup)) (lie : AllLie k i all section (module_at p.modules owner).relocs) (end : Assembly) where
  abbrev pub base : ℕ
  base = section_address p.region p.modules owner i

  abbrev pub size_of : Assembly → ℕ
  size_of a = (current_of a.standing.sections).size

  -- a line has put bytes into the image
  pub record Shown (address count : ℕ) (bytes : List ℕ) (a : Assembly) (lines : List Line) : Type 0 where
    pub b : Assembly
    pub ahead : Ahead all i b end
    pub leads : Leads b lines end
    pub size : size_of b ≡ size_of a + count
    pub shown : Shows p.image address bytes

  line_amid : (parts : List (Part Fixup)) (a : Assembly) (l : Line) (lines : List Line) → HasData parts → Ahead all i a end → Leads a (l ∷ lines) end → placed l.origin l.text a.standing ≡ placed_by (done (adds parts (begun_at a.standing)).progress) None
      → (b : Assembly) × Leads b lines end × Amid all parts a b end i
  line_amid parts a l lines sort h leads is =
      let made = line_puts parts a l lines end sort h.counted.current is leads in
      let counted : AreCounted made.0.standing.sections = (lead_on a made.0 (l ∷ []) h.counted made.1.one).counted in
      (made.0, made.1.leads, amid all parts i a made.0 end l lines h leads counted made.1)

  pub one_shown : (bytes : List ℕ) (address : ℕ) (l : Listing) (a : Assembly) (text : Line) (lines : List Line) → AreBytes bytes → IsOne bytes address l → text.text ≡ l.text → Ahead all i a end → Leads a (text ∷ lines) end
      → base + size_of a ≡ address → Shown address l.length (take l.length bytes) a lines
  one_shown bytes address l a text lines are one same h leads at =
      let is = one.is in
      let q : Sequence = one.operands in
      let parts : List (Part Fixup) = parts_of text.origin is.opcode address (size_of a) q in
      let behind : AreBytes is.rest = bytes_behind bytes is.rest is.opcode is.split are in
      let ks : All IsKind one.row.operands = found_kinds one.row (found_formed is.opcode one.row is.listed) in
      let placed_so : placed text.origin text.text a.standing ≡ placed_by (done (adds parts (begun_at a.standing)).progress) None =
      ap (λ (t : List ℕ). placed text.origin t a.standing) (same ∙ one.text) ∙ line_placed text.origin address is.opcode is.rest one.row q a.standing behind is.listed is.read is.unreserved in
      let made = line_amid parts a text lines tt h leads placed_so in
      let m : Amid all parts a made.0 end i = made.2 in
      let shown : Shows p.image address (take (1 + total q) (is.opcode ∷ is.rest)) =
      instruction_shown p owner i section k whole has all lie text.origin is.opcode is.rest one.row q address (size_of a) m.before m.after behind ks is.read is.unreserved m.place at m.split in
      let end_is : end_of (size_of a) parts ≡ size_of a + 1 + total q = fields_end text.origin one.row.operands is.rest q (address + 1) (size_of a + 1) (size_of a + 1) behind ks is.read is.unreserved in
      record {
        b = made.0;
        ahead = m.ahead;
        leads = made.1;
        size = m.size ∙ end_is ∙ omega (arith, is.counted);
        shown = rw (is.counted, is.split) shown;
      }

  byte_shown : (byte address : ℕ) (a : Assembly) (text : Line) (lines : List Line) → byte < 256 → text.text ≡ byte_text byte → Ahead all i a end → Leads a (text ∷ lines) end → base + size_of a ≡ address → Shown address 1 (byte ∷ []) a lines
  unfolding filled low_bytes
  byte_shown byte address a text lines small same h leads at =
      let part : Part Fixup = byte_part text.origin byte (size_of a) in
      let placed_so : placed text.origin text.text a.standing ≡ placed_by (done (adds (part ∷ []) (begun_at a.standing)).progress) None =
      ap (λ (t : List ℕ). placed text.origin t a.standing) same ∙ byte_placed text.origin byte a.standing small in
      let made = line_amid (part ∷ []) a text lines tt h leads placed_so in
      let m : Amid all (part ∷ []) a made.0 end i = made.2 in
      let low : nat_lt byte 256 ≡ true = grind (arith, nat_tests) in
      let rest : byte % 256 ≡ byte = omega arith in
      let out : output k i (size_of a) part ≡ record { bytes = byte ∷ []; relocs = []; faults = [] } = rw low (rw rest refl) in
      let stands = subst (λ (n : ℕ). StandsAt k i n part section (module_at p.modules owner).relocs) m.place (lie m.before part m.after m.split) in
      let shown : Shows p.image (base + size_of a) (byte ∷ []) = own_shown p owner i section k whole has (size_of a) part (record { bytes = byte ∷ []; relocs = []; faults = [] }) out refl stands in
      record {
        b = made.0;
        ahead = m.ahead;
        leads = made.1;
        size = m.size;
        shown = subst (λ (n : ℕ). Shows p.image n (byte ∷ [])) at shown;
      }

  abbrev pub RowsShow : List ℕ → (before address : ℕ) → Type 0
  RowsShow bytes before address = (a : Assembly) (lines more : List Line) → texts lines ≡ row_texts (rows_from before (address % 2 ^ 32) bytes) → Ahead all i a end → Leads a (lines ++ more) end
      → base + size_of a ≡ address + before → Shows p.image (address + before) (drop before bytes)

  row_shown : (byte : ℕ) (bytes : List ℕ) (address : ℕ) (here : Option Listing) (a : Assembly) (lines more : List Line) → AreBytes (byte ∷ bytes) → listed (byte ∷ bytes) address ≡ here
      → ((before : ℕ) → RowsShow bytes before (address + 1)) → texts lines ≡ text_of byte here ∷ row_texts (rows_from (length_of here - 1) ((address + 1) % 2 ^ 32) bytes) → Ahead all i a end → Leads a (lines ++ more) end
      → base + size_of a ≡ address → Shows p.image address (byte ∷ bytes)
  row_shown byte bytes address here a [] more are is rest e h leads at = cc
  row_shown byte bytes address None a (l ∷ lines) more are is rest e h leads at =
      let first : l.text ≡ byte_text byte = cc in
      let others : texts lines ≡ row_texts (rows_from 0 ((address + 1) % 2 ^ 32) bytes) = cc in
      let one : Shown address 1 (byte ∷ []) a (lines ++ more) = byte_shown byte address a l (lines ++ more) (are 0) first h leads at in
      let later : Shows p.image (address + 1 + 0) bytes = rest 0 one.b lines more others one.ahead one.leads (omega (arith, one.size, at)) in
      let place : address + 1 + 0 ≡ address + 1 = omega arith in
      shows_both p.image address 1 (byte ∷ []) bytes refl one.shown (subst (λ (n : ℕ). Shows p.image n bytes) place later)
  row_shown byte bytes address (Some found) a (l ∷ lines) more are is rest e h leads at =
      let first : l.text ≡ found.text = cc in
      let others : texts lines ≡ row_texts (rows_from (found.length - 1) ((address + 1) % 2 ^ 32) bytes) = cc in
      let it : IsOne (byte ∷ bytes) address found = is_one (byte ∷ bytes) address found is in
      let long : IsLong (byte ∷ bytes) found = is_long (byte ∷ bytes) address found are it in
      let one : Shown address found.length (take found.length (byte ∷ bytes)) a (lines ++ more) = one_shown (byte ∷ bytes) address found a l (lines ++ more) are it first h leads at in
      let later : Shows p.image (address + 1 + (found.length - 1)) (drop (found.length - 1) bytes) = rest (found.length - 1) one.b lines more others one.ahead one.leads (omega (arith, one.size, at, long.some)) in
      let place : address + 1 + (found.length - 1) ≡ address + found.length = omega (arith, long.some) in
      let count : suc (found.length - 1) ≡ found.length = omega (arith, long.some) in
      let left : drop (found.length - 1) bytes ≡ drop found.length (byte ∷ bytes) = ap (λ (n : ℕ). drop n (byte ∷ bytes)) count in
      let behind : Shows p.image (address + found.length) (drop found.length (byte ∷ bytes)) = subst (λ (n : ℕ). Shows p.image n (drop found.length (byte ∷ bytes))) place (subst (Shows p.image (address + 1 + (found.length - 1))) left later) in
      subst (Shows p.image address) (take-append-drop found.length (byte ∷ bytes))
      (shows_both p.image address found.length (take found.length (byte ∷ bytes)) (drop found.length (byte ∷ bytes)) (sym (length-take-le found.length (byte ∷ bytes) long.within)) one.shown behind)

  no_bytes : (before address : ℕ) → Shows p.image (address + before) (drop before [])
  no_bytes zero address = shows_none p.image (address + 0)
  no_bytes (suc before) address = shows_none p.image (address + suc before)

  pub rows_shown : (bytes : List ℕ) (before address : ℕ) → AreBytes bytes → address + length bytes ≤ 2 ^ 32 → RowsShow bytes before address
  rows_shown [] before address are low a lines more e h leads at = no_bytes before address
  rows_shown (byte ∷ bytes) zero address are low a lines more e h leads at =
      let small : address % 2 ^ 32 ≡ address = omega arith in
      let start : address + 0 ≡ address = omega arith in
      let e' : texts lines ≡ row_texts (rows_from 0 address (byte ∷ bytes)) = e ∙ ap (λ (n : ℕ). row_texts (rows_from 0 n (byte ∷ bytes))) small in
      subst (λ (n : ℕ). Shows p.image n (byte ∷ bytes)) (sym start)
      (row_shown byte bytes address (listed (byte ∷ bytes) address) a lines more are refl (λ before. rows_shown bytes before (address + 1) (λ n. are (suc n)) (omega arith)) e' h leads (omega (arith, at)))
  rows_shown (byte ∷ bytes) (suc before) address are low a lines more e h leads at =
      let next : (address % 2 ^ 32 + 1) % 2 ^ 32 ≡ (address + 1) % 2 ^ 32 = omega arith in
      let place : address + 1 + before ≡ address + suc before = omega arith in
      subst (λ (n : ℕ). Shows p.image n (drop before bytes)) place
      (rows_shown bytes before (address + 1) (λ n. are (suc n)) (omega arith) a lines more (e ∙ ap (λ (n : ℕ). row_texts (rows_from before n bytes)) next) h leads (omega (arith, at)))

-- ---- a listing is its lines

pub lines_are_rows : (bytes : List ℕ) (before address : ℕ) → lines_from before address bytes ≡ flat_map row_line (rows_from before address bytes)
unfolding lines_from
lines_are_rows [] before address = refl
lines_are_rows (byte ∷ bytes) zero address =
    ap (λ (t : List ℕ). line address (text_of byte (listed (byte ∷ bytes) address)) ++ t) (lines_are_rows bytes (length_of (listed (byte ∷ bytes) address) - 1) ((address + 1) % 2 ^ 32))
lines_are_rows (byte ∷ bytes) (suc before) address = lines_are_rows bytes before ((address + 1) % 2 ^ 32)

-- What a source's lines put into an image.
use Rattle.std.proofs.Common.{◌≡◌, ℕ, suc, ◌+◌, ◌<◌, ◌≤◌, List, [], ◌∷◌, ◌++◌, length, take, drop, Option, Some, None, Result, Ok, Err, refl, ap, ◌∙◌, sym, subst, arith, append_assoc}
use Rattle.std.specs.Prelude.{All}
use Rattle.std.proofs.Math.Seq.{take-add}
use Rattle.std.proofs.lemmas.List.{length-drop, length-take-le}
use Rattle.vax_asm.specs.Placing.{Stands, placed, placed_by}
use Rattle.vax_asm.specs.Walk.{Assembly}
use Rattle.vax_asm_encode.specs.Bytes.{bytes_of}
use Rattle.vax_asm_first.specs.Fixups.{Assignment, Fixup}
use Rattle.vax_asm_first.specs.Progress.{done, done_by}
use Rattle.vax_asm_first.specs.Standing.{Standing}
use Rattle.vax_asm_first.specs.declared.types.Origin.{Origin}
use Rattle.vax_asm_instruction.proofs.Back.{operand_is_long}
use Rattle.vax_asm_second.specs.Laid.{Known}
use Rattle.vax_asm_sections.specs.Layout.{Bytes, Part, Sections}
use Rattle.vax_flat.specs.Grammar.{Sequence, Specifier, IsUnreserved, read_operands, total}
use Rattle.vax_isa.specs.Instructions.{Instruction}
use Rattle.vax_isa.specs.Rows.{IsKind}
use Rattle.vax_isa.specs.declared.OperandKind.{OperandKind}
use Rattle.vax_link.specs.Names.{module_at}
use Rattle.vax_link.specs.Values.{section_address}
use Rattle.vax_link_laws.specs.Holding.{HasSection}
use Rattle.vax_macro.specs.declared.error.FaultKind.{FaultKind}
use Rattle.vax_module.specs.declared.Reloc.{Reloc}
use Rattle.vax_module.specs.declared.Section.{Section}
use Rattle.vax_asm_laws.proofs.Counting.{end_behind}
use Rattle.vax_asm_laws.specs.Counted.{end_of}
use Rattle.vax_asm_laws.specs.Leading.{Leads, Line, with_statement}
use Rattle.vax_asm_laws.specs.Lying.{StandsAt}
use Rattle.vax_disasm_laws.specs.Assembling.{IsLinked, Program, Shows}
use Rattle.vax_disasm_laws.proofs.Adding.{HasData, Longer, adds, adds_made, adds_held, begun_at, put_all, put_longer, standing_with}
use Rattle.vax_disasm_laws.proofs.Lines.{NextRead, fields, head_kind, later_bytes, next_read, none_read, parts_of, tail_kinds}
use Rattle.vax_disasm_laws.proofs.Meant.{back_from, number_for, operand_for}
use Rattle.vax_disasm_laws.proofs.Readings.{AreBytes, IsRead, May, is_read_from}
use Rattle.vax_disasm_laws.proofs.Showing.{operand_shown, own_shown, shows_both, shows_none}
use Rattle.vax_disasm_laws.proofs.Stated.{field_for, length_for}

pub long_for : (kind : OperandKind) (s : Specifier) → May kind s → length_for kind s ≡ length (bytes_of kind s)
long_for kind s may =
    operand_is_long kind (operand_for s) 0 ∙ sym (operand_is_long kind (operand_for s) (number_for s)) ∙ ap (λ (x : Specifier). length (bytes_of kind x)) (back_from kind s may)

pub total_within : (kinds : List OperandKind) (bytes : List ℕ) (q : Sequence) → AreBytes bytes → All IsKind kinds → read_operands kinds bytes ≡ Some q → IsUnreserved q → total q ≤ length bytes
unfolding total
total_within [] bytes q are ks e u = subst (λ (t : Sequence). total t ≤ length bytes) (none_read bytes q e) (omega arith)
total_within (kind ∷ kinds) bytes q are ks e u =
    let n : NextRead kind kinds bytes q = next_read kind kinds bytes q e u in
    let read : IsRead kind bytes n.s n.count = is_read_from kind bytes n.s n.count are (head_kind kind kinds ks) n.first in
    let rest : IsUnreserved n.rest = subst (λ (t : Sequence). IsUnreserved t) (sym n.is) u in
    let more : total n.rest ≤ length (drop n.count bytes) = total_within kinds (drop n.count bytes) n.rest (later_bytes n.count bytes are) (tail_kinds kind kinds ks) n.later rest in
    subst (λ (t : Sequence). total t ≤ length bytes) n.is (omega (arith, read.within, more, length-drop n.count bytes))

-- each part of a section stands in the module
abbrev pub AllLie : Known → (i : ℕ) → List (Part Fixup) → Section → (relocs : List Reloc) → Type 0
AllLie k i parts section relocs = (before : List (Part Fixup)) (p : Part Fixup) (after : List (Part Fixup)) → parts ≡ before ++ p ∷ after → StandsAt k i (end_of 0 before) p section relocs

module _ (p : Program) (owner i : ℕ) (section : Section) (k : Known) (whole : IsLinked p) (has : HasSection p.modules owner i section) (all : List (Part Fixup)) (lie : AllLie k i all section (module_at p.modules owner).relocs) where
  abbrev pub base : ℕ
  base = section_address p.region p.modules owner i

  part_lies : (at : ℕ) (before : List (Part Fixup)) (part : Part Fixup) (after : List (Part Fixup)) → all ≡ before ++ part ∷ after → end_of 0 before ≡ at → StandsAt k i at part section (module_at p.modules owner).relocs
  part_lies at before part after e place = subst (λ (n : ℕ). StandsAt k i n part section (module_at p.modules owner).relocs) place (lie before part after e)

  fields_shown : (origin : Origin) (kinds : List OperandKind) (bytes : List ℕ) (q : Sequence) (there at : ℕ) (before after : List (Part Fixup)) → AreBytes bytes → All IsKind kinds → read_operands kinds bytes ≡ Some q → IsUnreserved q
      → end_of 0 before ≡ at → base + at ≡ there → all ≡ before ++ (fields origin there at q ++ after) → Shows p.image there (take (total q) bytes)
  unfolding total
  fields_shown origin [] bytes q there at before after are ks e u place address is =
      subst (λ (t : Sequence). Shows p.image there (take (total t) bytes)) (none_read bytes q e) (shows_none p.image there)
  fields_shown origin (kind ∷ kinds) bytes q there at before after are ks e u place address is =
      let n : NextRead kind kinds bytes q = next_read kind kinds bytes q e u in
      let read : IsRead kind bytes n.s n.count = is_read_from kind bytes n.s n.count are (head_kind kind kinds ks) n.first in
      let rest : IsUnreserved n.rest = subst (λ (t : Sequence). IsUnreserved t) (sym n.is) u in
      let next : ℕ = there + n.count in
      let part : Part Fixup = field_for origin kind next at n.s in
      let long : length (bytes_of kind n.s) ≡ n.count = ap length read.bytes_are ∙ length-take-le n.count bytes read.within in
      let counted : length_for kind n.s ≡ n.count = long_for kind n.s read.may ∙ long in
      let behind : List (Part Fixup) = fields origin next (at + length_for kind n.s) n.rest ++ after in
      let split : all ≡ before ++ part ∷ behind = is ∙ ap (λ (t : Sequence). before ++ (fields origin there at t ++ after)) (sym n.is) in
      let first : Shows p.image (base + at) (bytes_of kind n.s) =
      operand_shown p owner i section k whole has origin kind next at n.s (head_kind kind kinds ks) read.may (omega (arith, address, long)) (part_lies at before part behind split place) in
      let later : Shows p.image next (take (total n.rest) (drop n.count bytes)) =
      fields_shown origin kinds (drop n.count bytes) n.rest next (at + length_for kind n.s) (before ++ part ∷ []) after (later_bytes n.count bytes are) (tail_kinds kind kinds ks) n.later rest
      (end_behind 0 before part ∙ ap (λ (m : ℕ). m + length_for kind n.s) place) (omega (arith, address, counted)) (split ∙ sym (append_assoc before (part ∷ []) behind)) in
      let here : Shows p.image there (take n.count bytes) = subst (λ (a : ℕ). Shows p.image a (take n.count bytes)) address (subst (Shows p.image (base + at)) read.bytes_are first) in
      let both : Shows p.image there (take n.count bytes ++ take (total n.rest) (drop n.count bytes)) =
      shows_both p.image there n.count (take n.count bytes) (take (total n.rest) (drop n.count bytes)) (sym (length-take-le n.count bytes read.within)) here later in
      subst (λ (t : Sequence). Shows p.image there (take (total t) bytes)) n.is (subst (Shows p.image there) (sym (take-add n.count (total n.rest) bytes)) both)

  pub instruction_shown : (origin : Origin) (opcode : ℕ) (bytes : List ℕ) (i' : Instruction) (q : Sequence) (there at : ℕ) (before after : List (Part Fixup)) → AreBytes bytes → All IsKind i'.operands → read_operands i'.operands bytes ≡ Some q → IsUnreserved q
      → end_of 0 before ≡ at → base + at ≡ there → all ≡ before ++ (parts_of origin opcode there at q ++ after) → Shows p.image there (take (1 + total q) (opcode ∷ bytes))
  instruction_shown origin opcode bytes i' q there at before after are ks e u place address is =
      let part : Part Fixup = Bytes (opcode ∷ []) in
      let behind : List (Part Fixup) = fields origin (there + 1) (at + 1) q ++ after in
      let first : Shows p.image (base + at) (opcode ∷ []) = own_shown p owner i section k whole has at part (record { bytes = opcode ∷ []; relocs = []; faults = [] }) refl refl (part_lies at before part behind is place) in
      let later : Shows p.image (there + 1) (take (total q) bytes) =
      fields_shown origin i'.operands bytes q (there + 1) (at + 1) (before ++ part ∷ []) after are ks e u (end_behind 0 before part ∙ ap (λ (m : ℕ). m + 1) place) (omega (arith, address)) (is ∙ sym (append_assoc before (part ∷ []) behind)) in
      let count : 1 + total q ≡ suc (total q) = omega arith in
      subst (λ (n : ℕ). Shows p.image there (take n (opcode ∷ bytes))) (sym count)
      (shows_both p.image there 1 (opcode ∷ []) (take (total q) bytes) refl (subst (λ (a : ℕ). Shows p.image a (opcode ∷ [])) address first) later)

-- ---- a statement's parts

done_ok : (f : Option FaultKind) (s t : Standing) → done_by f s ≡ Ok t → (f ≡ None) × (s ≡ t)
done_ok None s t h = (refl, cc)
done_ok (Some kind) s t h = absurd cc

placed_ok : (r : Result Standing FaultKind) (t : Standing) (waiting : Option Assignment) → placed_by r None ≡ Stands t waiting → r ≡ Ok t
placed_ok (Ok u) t waiting e = cc
placed_ok (Err kind) t waiting e = cc

-- what a line leaves, behind which this stands
pub record Puts (parts : List (Part Fixup)) (a : Assembly) (line : Line) (b : Assembly) (lines : List Line) (end : Assembly) : Type 0 where
  pub longer : Longer parts a.standing.sections b.standing.sections
  pub leads : Leads b lines end
  pub one : Leads a (line ∷ []) b

-- A line that is placed so puts its parts behind the section's.
pub line_puts : (parts : List (Part Fixup)) (a : Assembly) (line : Line) (lines : List Line) (end : Assembly) → HasData parts → a.standing.sections.current < length a.standing.sections.all
    → placed line.origin line.text a.standing ≡ placed_by (done (adds parts (begun_at a.standing)).progress) None → Leads a (line ∷ lines) end → (b : Assembly) × Puts parts a line b lines end
line_puts parts a line lines end sort within is leads =
    let t : Standing = leads.0 in
    let r = adds parts (begun_at a.standing) in
    let made = placed_ok (done r.progress) t leads.1 (sym is ∙ leads.2) in
    let stood = done_ok r.progress.fault r.progress.standing t made in
    let standing : standing_with parts a.standing ≡ t = sym (adds_made parts (begun_at a.standing) stood.0) ∙ stood.1 in
    let sections : put_all parts a.standing.sections ≡ t.sections = ap (λ (x : Standing). x.sections) standing in
    (with_statement t leads.1 a, record { longer = subst (λ (x : Sections Fixup). Longer parts a.standing.sections x) sections (put_longer parts a.standing.sections within (adds_held parts a.standing sort stood.0)); leads = leads.3; one = (t, leads.1, leads.2, refl) })

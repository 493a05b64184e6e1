-- A listing's texts have no fault as a source.
use Rattle.std.proofs.Common.{◌≡◌, ℕ, zero, suc, ◌+◌, ◌-◌, ◌%◌, ◌<◌, ◌≤◌, ◌^◌, true, List, [], ◌∷◌, ◌++◌, length, drop, Option, Some, None, Result, Ok, refl, ap, ◌∙◌, sym, subst, arith}
use Rattle.std.specs.Prelude.{All, nat_lt}
use Rattle.std.proofs.lemmas.Bool.Decides.{nat_tests}
use Rattle.vax_asm.specs.Placing.{Placed, Stands, placed, placed_by}
use Rattle.vax_asm.specs.Walk.{Assembly, behind, ended, names_in, onward, said, unless_circle, walked}
use Rattle.vax_asm_encode.specs.Bytes.{low_bytes}
use Rattle.vax_asm_encode.specs.Fields.{filled}
use Rattle.vax_asm_circles.specs.Circles.{first_back}
use Rattle.vax_asm_first.specs.Circles.{first_circle}
use Rattle.vax_asm_first.specs.Fixups.{Assignment, Fixup}
use Rattle.vax_asm_first.specs.Progress.{Progress, done}
use Rattle.vax_asm_first.specs.Standing.{Standing}
use Rattle.vax_asm_first.specs.declared.types.Origin.{Origin}
use Rattle.vax_asm_laws.specs.Counted.{end_of, part_length}
use Rattle.vax_asm_laws.specs.Leading.{with_statement}
use Rattle.vax_asm_second.specs.Faults.{first_of}
use Rattle.vax_asm_second.specs.Laid.{Known, laid, output, outputs}
use Rattle.vax_asm_second.specs.Modules.{filled_in, known_in, module_of, unless_faulty}
use Rattle.vax_asm_first.proofs.Putting.{longer_held}
use Rattle.vax_asm_sections.specs.Layout.{Part, Section as Building, Sections, current_of, section_limit}
use Rattle.vax_flat.specs.Grammar.{Sequence, Specifier, Literal, Register, Immediate, InMemory, Indexed, BranchBy, IsUnreserved, read_operands}
use Rattle.vax_isa.specs.Rows.{IsKind}
use Rattle.vax_isa.specs.declared.OperandKind.{OperandKind}
use Rattle.vax_macro.specs.Expansion.{Stepped, step}
use Rattle.vax_module.specs.declared.Module.{Module}
use Rattle.vax_disasm.specs.Listed.{Listing, listed}
use Rattle.vax_listing.specs.Listing.{length_of, text_of}
use Rattle.vax_dialect.specs.declared.Dialect.{Dialect}
use Rattle.vax_disasm_laws.specs.Rows.{row_texts, rows_from}
use Rattle.vax_disasm_laws.proofs.Adding.{adds, adds_fits, adds_made, begun_at, put_all, standing_with}
use Rattle.vax_disasm_laws.proofs.Bytes.{byte_part, byte_placed, byte_text}
use Rattle.vax_disasm_laws.proofs.Lines.{NextRead, fields, found_formed, found_kinds, head_kind, later_bytes, line_placed, next_read, none_read, parts_of, tail_kinds}
use Rattle.vax_disasm_laws.proofs.Listings.{IsLong, IsOne, bytes_behind, is_long, is_one, parts_long}
use Rattle.vax_disasm_laws.proofs.Meant.{held_for}
use Rattle.vax_disasm_laws.proofs.Readings.{AreBytes, IsRead, May, is_read_from}
use Rattle.vax_disasm_laws.proofs.Sources.{AreOrdinary, AreShort, left_of, step_says}
use Rattle.vax_disasm_laws.proofs.Stated.{field_for, length_for}

-- ---- parts without a fault

pub IsClear : Part Fixup → Type 0
IsClear p = (k : Known) (section at : ℕ) → (output k section at p).faults ≡ []

pub AllClear : List (Part Fixup) → Type 0
AllClear [] = Unit {0}
AllClear (p ∷ parts) = IsClear p × AllClear parts

pub nothing_clear : AllClear []
unfolding AllClear
nothing_clear = tt

all_clear : (xs ys : List (Part Fixup)) → AllClear xs → AllClear ys → AllClear (xs ++ ys)
unfolding AllClear
all_clear [] ys h k = k
all_clear (x ∷ xs) ys h k = (h.0, all_clear xs ys h.1 k)

outputs_clear : (k : Known) (section at : ℕ) (parts : List (Part Fixup)) → AllClear parts → (outputs k section at parts).faults ≡ []
unfolding outputs AllClear IsClear
outputs_clear k section at [] h = refl
outputs_clear k section at (p ∷ parts) h = rw (h.0 k section at) (outputs_clear k section (at + length (output k section at p).bytes) parts h.1)

field_clear : (origin : Origin) (kind : OperandKind) (next place : ℕ) (s : Specifier) → IsKind kind → May kind s → IsClear (field_for origin kind next place s)
unfolding IsClear filled
field_clear origin kind next place (Literal n) is may k section at = rw (held_for kind next section (at + 1) (Literal n) is.width may) refl
field_clear origin kind next place (Register n) is may k section at = refl
field_clear origin kind next place (Immediate n) is may k section at = rw (held_for kind next section (at + 1) (Immediate n) is.width may) refl
field_clear origin kind next place (InMemory q) is may k section at = rw (held_for kind next section (at + 1) (InMemory q) is.width may) refl
field_clear origin kind next place (Indexed q x) is may k section at = rw (held_for kind next section (at + 2) (Indexed q x) is.width may) refl
field_clear origin kind next place (BranchBy d) is may k section at = refl

fields_clear : (origin : Origin) (kinds : List OperandKind) (bytes : List ℕ) (q : Sequence) (there at : ℕ) → AreBytes bytes → All IsKind kinds → read_operands kinds bytes ≡ Some q → IsUnreserved q → AllClear (fields origin there at q)
unfolding AllClear
fields_clear origin [] bytes q there at are ks e u = subst (λ (t : Sequence). AllClear (fields origin there at t)) (none_read bytes q e) tt
fields_clear origin (kind ∷ kinds) bytes q there at are ks e u =
    let n : NextRead kind kinds bytes q = next_read kind kinds bytes q e u in
    let read : IsRead kind bytes n.s n.count = is_read_from kind bytes n.s n.count are (head_kind kind kinds ks) n.first in
    let rest : IsUnreserved n.rest = subst (λ (t : Sequence). IsUnreserved t) (sym n.is) u in
    subst (λ (t : Sequence). AllClear (fields origin there at t)) n.is (
      field_clear origin kind (there + n.count) at n.s (head_kind kind kinds ks) read.may,
      fields_clear origin kinds (drop n.count bytes) n.rest (there + n.count) (at + length_for kind n.s) (later_bytes n.count bytes are) (tail_kinds kind kinds ks) n.later rest,
    )

byte_clear : (origin : Origin) (byte place : ℕ) → byte < 256 → IsClear (byte_part origin byte place)
unfolding IsClear filled low_bytes
byte_clear origin byte place small k section at = let low : nat_lt byte 256 ≡ true = grind (arith, nat_tests) in rw low refl

-- ---- lines that add so many bytes

pub record Adding (origin : Origin) (at : ℕ) (text : List ℕ) (count : ℕ) : Type 0 where
  pub parts : List (Part Fixup)
  pub is : (s : Standing) → (current_of s.sections).size ≡ at → placed origin text s ≡ placed_by (done (adds parts (begun_at s)).progress) None
  pub long : (from : ℕ) → end_of from parts ≡ from + count
  pub clear : AllClear parts

pub IsAdding : List ℕ → (count : ℕ) → Type 0
IsAdding text count = (origin : Origin) (at : ℕ) → Adding origin at text count

one_adding : (bytes : List ℕ) (address : ℕ) (l : Listing) → AreBytes bytes → IsOne bytes address l → IsAdding l.text l.length
unfolding IsAdding AllClear IsClear
one_adding bytes address l are one origin at =
    let is = one.is in
    let behind_code : AreBytes is.rest = bytes_behind bytes is.rest is.opcode is.split are in
    let ks : All IsKind one.row.operands = found_kinds one.row (found_formed is.opcode one.row is.listed) in
    record {
      parts = parts_of origin is.opcode address at one.operands;
      is = λ s size. ap (λ (t : List ℕ). placed origin t s) one.text ∙ line_placed origin address is.opcode is.rest one.row one.operands s behind_code is.listed is.read is.unreserved
          ∙ ap (λ (n : ℕ). placed_by (done (adds (parts_of origin is.opcode address n one.operands) (begun_at s)).progress) None) size;
      long = λ from. parts_long bytes address l origin at from are one;
      clear = (λ k section place. refl, fields_clear origin one.row.operands is.rest one.operands (address + 1) (at + 1) behind_code ks is.read is.unreserved);
    }

byte_adding : (byte : ℕ) → byte < 256 → IsAdding (byte_text byte) 1
unfolding IsAdding AllClear low_bytes
byte_adding byte small origin at = record {
  parts = byte_part origin byte at ∷ [];
  is = λ s size. byte_placed origin byte s small ∙ ap (λ (n : ℕ). placed_by (done (adds (byte_part origin byte n ∷ []) (begun_at s)).progress) None) size;
  long = λ from. refl;
  clear = (byte_clear origin byte at small, tt);
}

-- ---- one section alone

pub record Alone (n : ℕ) (a : Assembly) : Type 0 where
  pub section : Building Fixup
  pub is : a.standing.sections ≡ record { all = section ∷ []; current = 0; total = n }
  pub size : section.size ≡ n
  pub has_bytes : section.counter ≡ None
  pub clear : AllClear section.parts
  pub none : a.assignments ≡ []

abbrev only : Building Fixup → ℕ → Sections Fixup
only x n = record { all = x ∷ []; current = 0; total = n }

record Put (parts : List (Part Fixup)) (x : Building Fixup) (n : ℕ) : Type 0 where
  section : Building Fixup
  is : put_all parts (only x n) ≡ only section (end_of n parts)
  size : section.size ≡ end_of n parts
  has_bytes : section.counter ≡ None
  clear : AllClear section.parts

put_only : (parts : List (Part Fixup)) (x : Building Fixup) (n : ℕ) → x.size ≡ n → x.counter ≡ None → AllClear x.parts → AllClear parts → Put parts x n
unfolding AllClear
put_only [] x n e r h k = record { section = x; is = refl; size = e; has_bytes = r; clear = h }
put_only (p ∷ parts) x n e r h k =
    let m : ℕ = part_length p in
    let y : Building Fixup = record x { size = x.size + m; parts = x.parts ++ p ∷ [] } in
    let next : Put parts y (n + m) = put_only parts y (n + m) (ap (λ (j : ℕ). j + m) e) r (all_clear x.parts (p ∷ []) h (k.0, tt)) k.1 in
    record { section = next.section; is = ap (λ (z : Building Fixup). put_all parts (only z (n + m))) (longer_held m p x r) ∙ next.is; size = next.size; has_bytes = next.has_bytes; clear = next.clear }

record Stood (origin : Origin) (text : List ℕ) (n count : ℕ) (a : Assembly) : Type 0 where
  behind : Standing
  placed : placed origin text a.standing ≡ Stands behind None
  alone : Alone (n + count) (with_statement behind None a)

done_none : (p : Progress) → p.fault ≡ None → done p ≡ Ok p.standing
done_none p e = rw e refl

line_stood : (origin : Origin) (text : List ℕ) (n count : ℕ) (a : Assembly) → IsAdding text count → Alone n a → n + count ≤ section_limit → Stood origin text n count a
unfolding IsAdding
line_stood origin text n count a adding alone room =
    let s : Standing = a.standing in
    let d : Adding origin n text count = adding origin n in
    let size : (current_of s.sections).size ≡ n = ap (λ (x : Sections Fixup). (current_of x).size) alone.is ∙ alone.size in
    let total : s.sections.total ≡ n = ap (λ (x : Sections Fixup). x.total) alone.is in
    let current : s.sections.current ≡ 0 = ap (λ (x : Sections Fixup). x.current) alone.is in
    let some : length s.sections.all ≡ 1 = ap (λ (x : Sections Fixup). length x.all) alone.is in
    let fits : (adds d.parts (begun_at s)).progress.fault ≡ None =
    adds_fits d.parts (begun_at s) refl (omega (arith, current, some)) (let long = d.long 0 in omega (arith, size), let long = d.long 0 in omega (arith, total), ap (λ (x : Sections Fixup). (current_of x).counter) alone.is ∙ alone.has_bytes) in
    let p : Progress = (adds d.parts (begun_at s)).progress in
    let stood : p.standing ≡ standing_with d.parts s = adds_made d.parts (begun_at s) fits in
    let put : Put d.parts alone.section n = put_only d.parts alone.section n alone.size alone.has_bytes alone.clear d.clear in
    record {
      behind = standing_with d.parts s;
      placed = d.is s size ∙ ap (λ (r : Result Standing _). placed_by r None) (done_none p fits ∙ ap (λ (t : Standing). Ok t) stood);
      alone = record {
        section = put.section;
        is = ap (put_all d.parts) alone.is ∙ put.is ∙ ap (only put.section) (d.long n);
        size = put.size ∙ d.long n;
        has_bytes = put.has_bytes;
        clear = put.clear;
        none = alone.none;
      };
    }

-- ---- the end

no_circle : first_circle [] ≡ None
unfolding first_circle first_back
no_circle = refl

filled_alone : (s : Standing) (x : Building Fixup) (n : ℕ) → s.sections ≡ only x n → AllClear x.parts → (m : Module) × (filled_in s [] None ≡ Ok m)
unfolding filled_in laid
filled_alone s x n is clear =
    let k : Known = known_in s in
    let m : Module = module_of k (laid k 0 s.sections.all) s.scope.names.all s.transfer in
    let none : (outputs k 0 0 x.parts).faults ≡ [] = outputs_clear k 0 0 x.parts clear in
    let one : (laid k 0 s.sections.all).faults ≡ [] = ap (λ (t : Sections Fixup). (laid k 0 t.all).faults) is ∙ rw none refl in
    (m, ap (λ fs. unless_faulty (first_of (fs ++ ([] ++ []))) m) one)

end_accepts : (a : Assembly) (n : ℕ) → Alone n a → (m : Module) × (ended a None None ≡ Ok m)
end_accepts a n alone =
    let made = filled_alone a.standing alone.section n alone.is alone.clear in
    (made.0, ap (λ (l : List Assignment). unless_circle (first_circle l) (filled_in a.standing l None)) alone.none ∙ ap (λ o. unless_circle o (filled_in a.standing [] None)) no_circle ∙ made.1)

-- ---- all lines

pub Fit : (n : ℕ) → List (List ℕ) → Type 0
Fit n [] = Unit {0}
Fit n (t ∷ ts) = (count : ℕ) × IsAdding t count × (n + count ≤ section_limit) × Fit (n + count) ts

pub texts_accepted : (dialect : Dialect) (these : List (List ℕ)) (left at count n : ℕ) (a : Assembly) → AreOrdinary these → AreShort these → Fit n these → length these < left → count + length these ≤ 100000 → Alone n a → (m : Module) × (walked left (left_of dialect at these count) a None ≡ Ok m)
unfolding walked said step Fit
texts_accepted dialect [] zero at count n a o s f less few alone = absurd (omega arith)
texts_accepted dialect [] (suc left) at count n a o s f less few alone = end_accepts a n alone
texts_accepted dialect (t ∷ these) zero at count n a o s f less few alone = absurd (omega arith)
texts_accepted dialect (t ∷ these) (suc left) at count n a o s f less few alone =
    let says = step_says dialect (names_in a.standing) t at these count o.0 s.0 (omega arith) in
    let origin : Origin = record { line = at + 1; place = count + 1 } in
    let stood : Stood origin t n f.0 a = line_stood origin t n f.0 a f.1 alone f.2 in
    let rest = texts_accepted dialect these left (at + 1) (count + 1) (n + f.0) (with_statement stood.behind None a) o.1 s.1 f.3 (omega arith) (omega arith) stood.alone in
    (rest.0, ap (λ (st : Stepped). onward st a None (walked left)) says ∙ ap (λ (p : Placed). behind p origin a None (walked left (left_of dialect (at + 1) these (count + 1)))) stood.placed ∙ rest.1)

abbrev pub RowsFit : List ℕ → Type 0
RowsFit bytes = (before address n : ℕ) → before ≤ length bytes → n + (length bytes - before) ≤ section_limit → Fit n (row_texts (rows_from before address bytes))

row_fits : (byte : ℕ) (bytes : List ℕ) (address n : ℕ) (here : Option Listing) → AreBytes (byte ∷ bytes) → listed (byte ∷ bytes) address ≡ here → n + suc (length bytes) ≤ section_limit → RowsFit bytes
    → Fit n (text_of byte here ∷ row_texts (rows_from (length_of here - 1) ((address + 1) % 2 ^ 32) bytes))
unfolding Fit
row_fits byte bytes address n None are e room rest = (1, byte_adding byte (are 0), omega arith, rest 0 ((address + 1) % 2 ^ 32) (n + 1) (omega arith) (omega arith))
row_fits byte bytes address n (Some l) are e room rest =
    let one : IsOne (byte ∷ bytes) address l = is_one (byte ∷ bytes) address l e in
    let long : IsLong (byte ∷ bytes) l = is_long (byte ∷ bytes) address l are one in
    (l.length, one_adding (byte ∷ bytes) address l are one, omega (arith, long.within), rest (l.length - 1) ((address + 1) % 2 ^ 32) (n + l.length) (omega (arith, long.some, long.within)) (omega (arith, long.some, long.within)))

pub rows_fit : (bytes : List ℕ) → AreBytes bytes → RowsFit bytes
unfolding Fit
rows_fit [] are before address n within room = tt
rows_fit (byte ∷ bytes) are zero address n within room =
    row_fits byte bytes address n (listed (byte ∷ bytes) address) are refl (omega arith) (rows_fit bytes (λ k. are (suc k)))
rows_fit (byte ∷ bytes) are (suc before) address n within room = rows_fit bytes (λ k. are (suc k)) before ((address + 1) % 2 ^ 32) n (omega arith) (omega arith)

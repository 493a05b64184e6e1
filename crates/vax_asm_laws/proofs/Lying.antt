-- Each part lies where it was counted, and the fields of others beside it.
use Rattle.std.proofs.Common.{◌≡◌, ◌<◌, ◌≤◌, ◌+◌, ◌*◌, ℕ, zero, suc, Bool, true, false, List, [], ◌∷◌, ◌++◌, length, Option, Some, None, Result, Ok, Err, inl, inr, refl, sym, ap, subst, ◌∙◌, arith, append_assoc}
use Rattle.std.proofs.Math.Nat.{suc-mul}
use Rattle.std.proofs.lemmas.List.{length-append}
use Rattle.std.proofs.lemmas.List.Elements.{All-append, All-cons, All-contains, All-contains_itself, All-head, All-nil, All-tail, All-weaker, Contains-append_left, Contains-append_right}
use Rattle.std.specs.Prelude.{All, Contains, if◌then◌else◌, slice_get, slice_index_or}
use Rattle.vax_asm_encode.specs.Bytes.{operand_bytes}
use Rattle.vax_asm_encode.specs.Operands.{item_bytes}
use Rattle.vax_asm_encode.specs.declared.operand.Field.{Field as Holder}
use Rattle.vax_asm_first.specs.Fixups.{Assignment, Fixup}
use Rattle.vax_asm_first.specs.Standing.{Standing}
use Rattle.vax_asm_first.specs.declared.types.Content.{Content}
use Rattle.vax_asm_first.specs.declared.types.Content.TheVariants as content
use Rattle.vax_asm_first.specs.Contents.{IsSound}
use Rattle.vax_asm_second.proofs.Fitting.{data_fits, data_length, field_width, link_fits, operand_fits}
use Rattle.vax_asm_second.specs.Contents.{before_field, bytes_in, every, field_in, moved, relocs_in, specifiers}
use Rattle.vax_asm_second.specs.Faults.{first_of, value_filled}
use Rattle.vax_asm_second.specs.Laid.{Known, held, is_known, laid, linked, output, outputs, written}
use Rattle.vax_asm_second.specs.Modules.{faults, filled_in, known_in, module_of}
use Rattle.vax_asm_sections.specs.Layout.{Bytes, Field, Part, Section as Building, Zeros, unnamed}
use Rattle.vax_lex.specs.declared.value.Value.{Value}
use Rattle.vax_macro.specs.Rest.{Opening}
use Rattle.vax_macro.specs.declared.error.FaultKind.{FaultKind}
use Rattle.vax_module.specs.Formed.{end_of as end_of_field, width_of}
use Rattle.vax_module.specs.declared.Module.{Module}
use Rattle.vax_module.specs.declared.Reloc.{Reloc}
use Rattle.vax_module.specs.declared.RelocKind.{RelocKind}
use Rattle.vax_module.specs.declared.Section.{Section}
use Rattle.vax_asm_laws.specs.Counted.{end_of, part_length, section_at}
use Rattle.vax_asm_laws.specs.Lying.{AllStand, Held, IsIn, IsOneOr, MayAllStand, MayStand, StandsAt, place_of}
use Rattle.vax_asm_laws.proofs.Laying.{faulty_is, laid_at, output_length, sections_are}

-- ---- the fields of a part lie within its bytes

abbrev Within : (section from to : ℕ) → Reloc → Type 0
Within section from to r = (r.section ≡ section) × (from ≤ r.offset) × (end_of_field r ≤ to)

wider : (section from to first last : ℕ) → first ≤ from → to ≤ last → (relocs : List Reloc) → All (Within section from to) relocs → All (Within section first last) relocs
wider section from to first last low high relocs h =
    All-weaker (Within section from to) (Within section first last) (λ (r : Reloc) (w : Within section from to r). (w.0, omega (arith, low, w.1), omega (arith, high, w.2))) relocs h

every_within : (count step : ℕ) (r : Reloc) → width_of r.kind ≤ step → All (Within r.section r.offset (r.offset + count * step)) (every count step r)
every_within zero step r h = All-nil (Within r.section r.offset (r.offset + 0 * step))
every_within (suc count) step r h =
    let all : r.offset + step + count * step ≡ r.offset + suc count * step = omega (arith, suc-mul count step) in
    All-cons (Within r.section r.offset (r.offset + suc count * step)) r (every count step (moved step r)) (refl, omega arith, omega (arith, all, h))
    (wider r.section (r.offset + step) (r.offset + step + count * step) r.offset (r.offset + suc count * step) (omega arith) (omega (arith, all)) (every count step (moved step r)) (every_within count step (moved step r) h))

contents_within : (c : Content) (section at : ℕ) (f : Holder) (k : RelocKind) (t : Value) → IsSound c → field_in c ≡ Some f → width_of k ≡ field_width f
    → All (Within section at (at + length (bytes_in c 0))) (relocs_in c (record { section = section; offset = at + before_field c; kind = k; target = t }))
contents_within (content.Data d count) section at f k t h e w =
    let r : Reloc = record { section = section; offset = at + 0; kind = k; target = t } in
    let step : width_of k ≤ item_bytes d = omega (arith, w, data_fits d f e) in
    wider section (at + 0) (at + 0 + count * item_bytes d) at (at + length (bytes_in (content.Data d count) 0)) (omega arith) (omega (arith, data_length d count 0))
    (every count (item_bytes d) r) (every_within count (item_bytes d) r step)
contents_within (content.Operand kind o) section at f k t h e w =
    let r : Reloc = record { section = section; offset = at + specifiers o; kind = k; target = t } in
    All-cons (Within section at (at + length (operand_bytes kind o 0))) r [] (refl, omega arith, omega (arith, w, operand_fits kind o f 0 h.0 h.1 e)) (All-nil (Within section at (at + length (operand_bytes kind o 0))))

known_within : (c : Content) (section at : ℕ) (f : Holder) (k : RelocKind) (t : Value) (b : Bool) → IsSound c → field_in c ≡ Some f → width_of k ≡ field_width f
    → All (Within section at (at + length (bytes_in c 0))) (if b then relocs_in c (record { section = section; offset = at + before_field c; kind = k; target = t }) else [])
known_within c section at f k t true h e w = contents_within c section at f k t h e w
known_within c section at f k t false h e w = All-nil (Within section at (at + length (bytes_in c 0)))

link_within : (k : Known) (c : Content) (section at : ℕ) (v : Result Value (Option FaultKind)) (h : _) (o : _) → IsSound c → held (field_in c) section (at + before_field c) v ≡ Ok h → h.link ≡ o
    → All (Within section at (at + length (bytes_in c 0))) (linked k c section at o)
link_within k c section at v h None s e g = All-nil (Within section at (at + length (bytes_in c 0)))
link_within k c section at v h (Some l) s e g =
    let fits = link_fits (field_in c) section (at + before_field c) v h l e g in
    known_within c section at fits.0 l.kind l.target (is_known k l.target) s fits.1 fits.2

written_within : (k : Known) (section at : ℕ) (f : Fixup) (v : Result Value (Option FaultKind)) (q : _) → IsSound f.content → held (field_in f.content) section (at + before_field f.content) v ≡ q
    → All (Within section at (at + length (bytes_in f.content 0))) (written k section at f q).relocs
written_within k section at f v (Ok h) s e = link_within k f.content section at v h h.link s e refl
written_within k section at f v (Err kind) s e = All-nil (Within section at (at + length (bytes_in f.content 0)))

output_within : (k : Known) (section at : ℕ) (p : Part Fixup) → MayStand p → All (Within section at (at + part_length p)) (output k section at p).relocs
output_within k section at (Zeros n) s = All-nil (Within section at (at + n))
output_within k section at (Bytes bytes) s = All-nil (Within section at (at + length bytes))
output_within k section at (Field f) s =
    written_within k section at f (value_filled k.sources f.filling) (held (field_in f.content) section (at + before_field f.content) (value_filled k.sources f.filling)) s refl

end_behind : (at : ℕ) (parts : List (Part Fixup)) → at ≤ end_of at parts
end_behind at [] = omega arith
end_behind at (p ∷ parts) = omega (arith, end_behind (at + part_length p) parts)

next_at : (k : Known) (section at : ℕ) (p : Part Fixup) → at + length (output k section at p).bytes ≡ at + part_length p
next_at k section at p = ap (λ (n : ℕ). at + n) (output_length k section at p)

outputs_within : (k : Known) (section at : ℕ) (parts : List (Part Fixup)) → All MayStand parts → All (Within section at (end_of at parts)) (outputs k section at parts).relocs
unfolding outputs
outputs_within k section at [] s = All-nil (Within section at at)
outputs_within k section at (p ∷ parts) s =
    let next : ℕ = at + part_length p in
    let rest : All (Within section next (end_of next parts)) (outputs k section next parts).relocs = outputs_within k section next parts (All-tail MayStand p parts s) in
    let there : All (Within section next (end_of next parts)) (outputs k section (at + length (output k section at p).bytes) parts).relocs =
    subst (λ (n : ℕ). All (Within section next (end_of next parts)) (outputs k section n parts).relocs) (sym (next_at k section at p)) rest in
    All-append (Within section at (end_of next parts)) (output k section at p).relocs (outputs k section (at + length (output k section at p).bytes) parts).relocs
    (wider section at next at (end_of next parts) (omega arith) (end_behind next parts) (output k section at p).relocs (output_within k section at p (All-head MayStand p parts s)))
    (wider section next (end_of next parts) at (end_of next parts) (omega arith) (omega arith) (outputs k section (at + length (output k section at p).bytes) parts).relocs there)

-- ---- one part of many

record Amid (k : Known) (section from at : ℕ) (p : Part Fixup) (bytes : List ℕ) (relocs : List Reloc) : Type 0 where
  front : List ℕ
  back : List ℕ
  is : bytes ≡ front ++ ((output k section at p).bytes ++ back)
  place : from + length front ≡ at
  fields : All (Contains relocs) (output k section at p).relocs
  beside : All (IsOneOr section at (part_length p) (output k section at p).relocs) relocs

first_amid : (k : Known) (section at : ℕ) (p : Part Fixup) (after : List (Part Fixup)) → All MayStand after → Amid k section at at p (outputs k section at (p ∷ after)).bytes (outputs k section at (p ∷ after)).relocs
unfolding outputs
first_amid k section at p after may =
    let o = output k section at p in
    let next : ℕ = at + length o.bytes in
    let rest = outputs k section next after in
    let behind : All (Within section next (end_of next after)) rest.relocs = outputs_within k section next after may in
    record {
      front = [];
      back = rest.bytes;
      is = refl;
      place = omega arith;
      fields = All-weaker (Contains o.relocs) (Contains (o.relocs ++ rest.relocs)) (λ (r : Reloc) (h : Contains o.relocs r). Contains-append_left o.relocs rest.relocs r h) o.relocs (All-contains_itself o.relocs);
      beside =
          All-append (IsOneOr section at (part_length p) o.relocs) o.relocs rest.relocs
          (All-weaker (Contains o.relocs) (IsOneOr section at (part_length p) o.relocs) (λ (r : Reloc) (h : Contains o.relocs r) same. inl h) o.relocs (All-contains_itself o.relocs))
          (All-weaker (Within section next (end_of next after)) (IsOneOr section at (part_length p) o.relocs) (λ (r : Reloc) (w : Within section next (end_of next after) r) same. inr (inr (omega (arith, w.1, output_length k section at p)))) rest.relocs behind);
    }

amid : (k : Known) (section from : ℕ) (before : List (Part Fixup)) (p : Part Fixup) (after : List (Part Fixup)) → All MayStand (before ++ p ∷ after)
    → Amid k section from (end_of from before) p (outputs k section from (before ++ p ∷ after)).bytes (outputs k section from (before ++ p ∷ after)).relocs
unfolding outputs
amid k section from [] p after may = first_amid k section from p after (All-tail MayStand p after may)
amid k section from (q ∷ before) p after may =
    let o = output k section from q in
    let next : ℕ = from + part_length q in
    let rest = outputs k section (from + length o.bytes) (before ++ p ∷ after) in
    let at : ℕ = end_of next before in
    let there : Amid k section next at p (outputs k section next (before ++ p ∷ after)).bytes (outputs k section next (before ++ p ∷ after)).relocs = amid k section next before p after (All-tail MayStand q (before ++ p ∷ after) may) in
    let a : Amid k section next at p rest.bytes rest.relocs =
    subst (λ (n : ℕ). Amid k section next at p (outputs k section n (before ++ p ∷ after)).bytes (outputs k section n (before ++ p ∷ after)).relocs) (sym (next_at k section from q)) there in
    let within : All (Within section from next) o.relocs = output_within k section from q (All-head MayStand q (before ++ p ∷ after) may) in
    let long : next ≤ at = end_behind next before in
    record {
      front = o.bytes ++ a.front;
      back = a.back;
      is = ap (λ (bytes : List ℕ). o.bytes ++ bytes) a.is ∙ sym (append_assoc o.bytes a.front ((output k section at p).bytes ++ a.back));
      place = omega (arith, a.place, length-append o.bytes a.front, output_length k section from q);
      fields = All-weaker (Contains rest.relocs) (Contains (o.relocs ++ rest.relocs)) (λ (r : Reloc) (h : Contains rest.relocs r). Contains-append_right o.relocs rest.relocs r h) (output k section at p).relocs a.fields;
      beside =
          All-append (IsOneOr section at (part_length p) (output k section at p).relocs) o.relocs rest.relocs
          (All-weaker (Within section from next) (IsOneOr section at (part_length p) (output k section at p).relocs) (λ (r : Reloc) (w : Within section from next r) same. inr (inl (omega (arith, w.2, long)))) o.relocs within)
          a.beside;
    }

-- ---- the sections of a module

laid_later : (k : Known) (number : ℕ) (all : List (Building Fixup)) → All AllStand all → All (λ (r : Reloc). number ≤ r.section) (laid k number all).relocs
unfolding laid
laid_later k number [] may = All-nil (λ (r : Reloc). number ≤ r.section)
laid_later k number (s ∷ all) may =
    All-append (λ (r : Reloc). number ≤ r.section) (outputs k number 0 s.parts).relocs (laid k (suc number) all).relocs
    (All-weaker (Within number 0 (end_of 0 s.parts)) (λ (r : Reloc). number ≤ r.section) (λ (r : Reloc) (w : Within number 0 (end_of 0 s.parts) r). omega (arith, w.0)) (outputs k number 0 s.parts).relocs
    (outputs_within k number 0 s.parts (All-head AllStand s all may)))
    (All-weaker (λ (r : Reloc). suc number ≤ r.section) (λ (r : Reloc). number ≤ r.section) (λ (r : Reloc) (h : suc number ≤ r.section). omega arith) (laid k (suc number) all).relocs
    (laid_later k (suc number) all (All-tail AllStand s all may)))

-- the fields of a section are among those of all, and the others are of other sections
abbrev IsOwnOf : ℕ → List Reloc → Reloc → Type 0
IsOwnOf section these r = r.section ≡ section → Contains these r

record Among (section : ℕ) (these relocs : List Reloc) : Type 0 where
  fields : All (Contains relocs) these
  others : All (IsOwnOf section these) relocs

laid_among : (k : Known) (number i j : ℕ) (all : List (Building Fixup)) → All AllStand all → j ≡ number + i → i < length all → Among j (outputs k j 0 (slice_index_or all i unnamed).parts).relocs (laid k number all).relocs
unfolding laid
laid_among k number i j [] may e less = absurd (omega arith)
laid_among k number zero j (s ∷ all) may e less =
    let same : number ≡ j = omega arith in
    let these : List Reloc = (outputs k number 0 s.parts).relocs in
    let rest : List Reloc = (laid k (suc number) all).relocs in
    subst (λ (n : ℕ). Among n (outputs k n 0 s.parts).relocs (these ++ rest)) same (record {
      fields = All-weaker (Contains these) (Contains (these ++ rest)) (λ (r : Reloc) (h : Contains these r). Contains-append_left these rest r h) these (All-contains_itself these);
      others =
          All-append (IsOwnOf number these) these rest
          (All-weaker (Contains these) (IsOwnOf number these) (λ (r : Reloc) (h : Contains these r) same. h) these (All-contains_itself these))
          (All-weaker (λ (r : Reloc). suc number ≤ r.section) (IsOwnOf number these) (λ (r : Reloc) (h : suc number ≤ r.section) (e : r.section ≡ number). absurd (omega arith)) rest (laid_later k (suc number) all (All-tail AllStand s all may)));
    })
laid_among k number (suc i) j (s ∷ all) may e less =
    let first : List Reloc = (outputs k number 0 s.parts).relocs in
    let rest : List Reloc = (laid k (suc number) all).relocs in
    let these : List Reloc = (outputs k j 0 (slice_index_or all i unnamed).parts).relocs in
    let a : Among j these rest = laid_among k (suc number) i j all (All-tail AllStand s all may) (omega arith) (omega arith) in
    record {
      fields = All-weaker (Contains rest) (Contains (first ++ rest)) (λ (r : Reloc) (h : Contains rest r). Contains-append_right first rest r h) these a.fields;
      others =
          All-append (IsOwnOf j these) first rest
          (All-weaker (Within number 0 (end_of 0 s.parts)) (IsOwnOf j these) (λ (r : Reloc) (w : Within number 0 (end_of 0 s.parts) r) (same : r.section ≡ j). absurd (omega (arith, w.0, same, e))) first
          (outputs_within k number 0 s.parts (All-head AllStand s all may)))
          a.others;
    }

relocs_are : (s : Standing) (assigned : List Assignment) (begin : Option Opening) (m : Module) → filled_in s assigned begin ≡ Ok m → (laid (known_in s) 0 s.sections.all).relocs ≡ m.relocs
unfolding filled_in
relocs_are s assigned begin m e =
    let k : Known = known_in s in
    ap (λ (n : Module). n.relocs) (faulty_is (first_of (faults k s.sections.all assigned begin)) (module_of k (laid k 0 s.sections.all) s.scope.names.all s.transfer) m e)

stands_in : (k : Known) (i at : ℕ) (p : Part Fixup) (section : Section) (relocs whole : List Reloc) (bytes : List ℕ) → section.bytes ≡ bytes → Among i relocs whole → Amid k i 0 at p bytes relocs → StandsAt k i at p section whole
stands_in k i at p section relocs whole bytes e among a =
    let these : List Reloc = (output k i at p).relocs in
    record {
      front = a.front;
      back = a.back;
      bytes = e ∙ a.is;
      place = let at_there = a.place in omega arith;
      fields = All-weaker (Contains relocs) (Contains whole) (λ (r : Reloc) (h : Contains relocs r). All-contains (Contains whole) relocs r among.fields h) these a.fields;
      beside =
          All-weaker (IsOwnOf i relocs) (IsOneOr i at (part_length p) these)
          (λ (r : Reloc) (h : IsOwnOf i relocs r) same. All-contains (IsOneOr i at (part_length p) these) relocs r a.beside (h same) same) whole among.others;
    }

pub stands : (s : Standing) (assigned : List Assignment) (begin : Option Opening) (m : Module) (i : ℕ) (section : Section) (h : Held) → MayAllStand s.sections → filled_in s assigned begin ≡ Ok m → i < length s.sections.all
    → slice_get m.sections i ≡ Some section → IsIn i s.sections h → StandsAt (known_in s) i (place_of h) h.part section m.relocs
stands s assigned begin m i section h may e less found is =
    let k : Known = known_in s in
    let parts : List (Part Fixup) = h.before ++ h.part ∷ h.after in
    let all : AllStand (section_at i s.sections) = may i unnamed less in
    let are : All MayStand parts = subst (All MayStand) is all in
    let bytes : section.bytes ≡ (outputs k i 0 (section_at i s.sections).parts).bytes =
    laid_at k 0 i i s.sections.all section (omega arith) less (ap (λ (l : List Section). slice_get l i) (sections_are s assigned begin m e) ∙ found) in
    let among : Among i (outputs k i 0 (section_at i s.sections).parts).relocs (laid k 0 s.sections.all).relocs = laid_among k 0 i i s.sections.all may (omega arith) less in
    stands_in k i (place_of h) h.part section (outputs k i 0 parts).relocs m.relocs (outputs k i 0 parts).bytes
    (bytes ∙ ap (λ (l : List (Part Fixup)). (outputs k i 0 l).bytes) is)
    (subst (Among i (outputs k i 0 parts).relocs) (relocs_are s assigned begin m e) (subst (λ (l : List (Part Fixup)). Among i (outputs k i 0 l).relocs (laid k 0 s.sections.all).relocs) is among))
    (amid k i 0 h.before h.part h.after are)

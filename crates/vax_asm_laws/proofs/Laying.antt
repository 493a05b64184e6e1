-- The bytes of parts, filled in, are as many as were counted.
use Rattle.std.proofs.Common.{◌≡◌, ◌<◌, ◌+◌, ℕ, zero, suc, List, [], ◌∷◌, ◌++◌, length, map, Option, Some, None, Ok, Err, refl, sym, ap, ◌∙◌, arith, append_assoc}
use Rattle.std.proofs.lemmas.List.{length-append, length-replicate}
use Rattle.std.proofs.lemmas.List.Elements.{All-head, All-tail}
use Rattle.std.specs.Prelude.{All, slice_get, slice_index_or}
use Rattle.vax_asm_second.proofs.Fitting.{data_length}
use Rattle.vax_asm_second.specs.Contents.{before_field, bytes_in, field_in}
use Rattle.vax_asm_second.specs.Faults.{first_of, value_filled}
use Rattle.vax_asm_second.specs.Laid.{Known, held, laid, output, outputs, written}
use Rattle.vax_asm_second.specs.Modules.{faults, filled_in, known_in, module_of, unless_faulty}
use Rattle.vax_asm_second.specs.declared.types.Fault.{Fault}
use Rattle.vax_asm_instruction.proofs.Back.{operand_is_long}
use Rattle.vax_asm_sections.specs.Layout.{Bytes, Field, Part, Section as Building, Zeros, unnamed}
use Rattle.vax_macro.specs.Rest.{Opening}
use Rattle.vax_module.specs.declared.Module.{Module}
use Rattle.vax_module.specs.declared.Section.{Section}
use Rattle.vax_asm_first.specs.Fixups.{Assignment, Fixup}
use Rattle.vax_asm_first.specs.Standing.{Standing}
use Rattle.vax_asm_first.specs.declared.types.Content.{Content}
use Rattle.vax_asm_first.specs.declared.types.Content.TheVariants as content
use Rattle.vax_asm_laws.specs.Counted.{IsCounted, end_of, part_length, section_at}
use Rattle.vax_asm_laws.specs.Leading.{LiesBehind}
use Rattle.vax_asm_laws.specs.Counted.{AreCounted, Keeps}

content_length : (c : Content) (n : ℕ) → length (bytes_in c n) ≡ length (bytes_in c 0)
content_length (content.Data d count) n = data_length d count n ∙ sym (data_length d count 0)
content_length (content.Operand kind o) n = operand_is_long kind o n ∙ sym (operand_is_long kind o 0)

written_length : (k : Known) (section at : ℕ) (f : Fixup) (r : _) → length (written k section at f r).bytes ≡ length (bytes_in f.content 0)
written_length k section at f (Ok h) = content_length f.content h.number
written_length k section at f (Err kind) = refl

pub output_length : (k : Known) (section at : ℕ) (p : Part Fixup) → length (output k section at p).bytes ≡ part_length p
output_length k section at (Zeros n) = length-replicate n 0
output_length k section at (Bytes bytes) = refl
output_length k section at (Field f) = written_length k section at f (held (field_in f.content) section (at + before_field f.content) (value_filled k.sources f.filling))

pub outputs_end : (k : Known) (section at : ℕ) (parts : List (Part Fixup)) → at + length (outputs k section at parts).bytes ≡ end_of at parts
unfolding outputs
outputs_end k section at [] = omega arith
outputs_end k section at (p ∷ parts) =
    let one : List ℕ = (output k section at p).bytes in
    let rest : List ℕ = (outputs k section (at + length one) parts).bytes in
    omega (arith, length-append one rest)
    ∙ outputs_end k section (at + length one) parts
    ∙ ap (λ (n : ℕ). end_of (at + n) parts) (output_length k section at p)

outputs_length : (k : Known) (section : ℕ) (s : Building Fixup) → IsCounted s → length (outputs k section 0 s.parts).bytes ≡ s.size
outputs_length k section s h = omega (arith, outputs_end k section 0 s.parts, h.size)

laid_sizes : (k : Known) (number : ℕ) (all : List (Building Fixup)) → All IsCounted all → map (λ (s : Section). length s.bytes) (laid k number all).sections ≡ map (λ s. s.size) all
unfolding laid
laid_sizes k number [] h = refl
laid_sizes k number (s ∷ all) h =
    ap (λ (n : ℕ). n ∷ map (λ (s : Section). length s.bytes) (laid k (suc number) all).sections) (outputs_length k number s (All-head IsCounted s all h))
    ∙ ap (λ (l : List ℕ). s.size ∷ l) (laid_sizes k (suc number) all (All-tail IsCounted s all h))

-- what a section holds begins with what its first parts come to
pub outputs_begin : (k : Known) (section at : ℕ) (xs ys : List (Part Fixup)) → (more : List ℕ) × ((outputs k section at (xs ++ ys)).bytes ≡ (outputs k section at xs).bytes ++ more)
unfolding outputs
outputs_begin k section at [] ys = ((outputs k section at ys).bytes, refl)
outputs_begin k section at (p ∷ xs) ys =
    let one : List ℕ = (output k section at p).bytes in
    let rest = outputs_begin k section (at + length one) xs ys in
    (rest.0, ap (λ (l : List ℕ). one ++ l) rest.1 ∙ sym (append_assoc one (outputs k section (at + length one) xs).bytes rest.0))

abbrev bytes_by : Option Section → Section → List ℕ
bytes_by (Some s) other = s.bytes
bytes_by None other = other.bytes

pub laid_at : (k : Known) (number i j : ℕ) (all : List (Building Fixup)) (section : Section) → j ≡ number + i → i < length all → slice_get (laid k number all).sections i ≡ Some section
    → section.bytes ≡ (outputs k j 0 (slice_index_or all i unnamed).parts).bytes
unfolding laid
laid_at k number i j [] section e less h = absurd (omega arith)
laid_at k number zero j (s ∷ all) section e less h =
    let same : number ≡ j = omega arith in
    sym (ap (λ (o : Option Section). bytes_by o section) h) ∙ ap (λ (n : ℕ). (outputs k n 0 s.parts).bytes) same
laid_at k number (suc i) j (s ∷ all) section e less h = laid_at k (suc number) i j all section (omega arith) (omega arith) h

-- ---- modules

pub faulty_is : (o : Option Fault) (m n : Module) → unless_faulty o m ≡ Ok n → m ≡ n
faulty_is None m n e = cc
faulty_is (Some f) m n e = cc

pub sections_are : (s : Standing) (assigned : List Assignment) (begin : Option Opening) (m : Module) → filled_in s assigned begin ≡ Ok m → (laid (known_in s) 0 s.sections.all).sections ≡ m.sections
unfolding filled_in
sections_are s assigned begin m e =
    let k : Known = known_in s in
    ap (λ (n : Module). n.sections) (faulty_is (first_of (faults k s.sections.all assigned begin)) (module_of k (laid k 0 s.sections.all) s.scope.names.all s.transfer) m e)

pub sizes_are : (s : Standing) (assigned : List Assignment) (begin : Option Opening) (m : Module) → AreCounted s.sections → filled_in s assigned begin ≡ Ok m → map (λ (x : Section). length x.bytes) m.sections ≡ map (λ x. x.size) s.sections.all
sizes_are s assigned begin m h e =
    ap (map (λ (x : Section). length x.bytes)) (sym (sections_are s assigned begin m e)) ∙ laid_sizes (known_in s) 0 s.sections.all h.sections

pub lies_behind : (s t : Standing) (assigned : List Assignment) (begin : Option Opening) (m : Module) (i : ℕ) (section : Section) → AreCounted s.sections → Keeps s.sections t.sections → filled_in t assigned begin ≡ Ok m → i < length s.sections.all
    → slice_get m.sections i ≡ Some section → LiesBehind i (section_at i s.sections).size s t section
lies_behind s t assigned begin m i section h keeps e less found =
    let k : Known = known_in t in
    let kept = keeps.parts i less in
    let starts = outputs_begin k i 0 (section_at i s.sections).parts kept.0 in
    let bytes : section.bytes ≡ (outputs k i 0 (section_at i t.sections).parts).bytes =
    laid_at k 0 i i t.sections.all section (omega arith) (omega (arith, less, keeps.all)) (ap (λ (l : List Section). slice_get l i) (sections_are t assigned begin m e) ∙ found) in
    record {
      more = starts.0;
      bytes = bytes ∙ ap (λ (l : List (Part Fixup)). (outputs k i 0 l).bytes) kept.1 ∙ starts.1;
      place = outputs_length k i (section_at i s.sections) (h.sections i unnamed less);
    }

-- All faults of what a source leaves, one more at a time.
use Rattle.std.proofs.Common.{◌≡◌, ◌<◌, ◌≤◌, ◌+◌, ℕ, suc, add-one, List, [], ◌∷◌, ◌++◌, length, map, drop, refl, sym, ap, ◌∙◌, drop-cons, append_assoc}
use Rattle.std.proofs.lemmas.List.{append-nil, drop_all, length-append}
use Rattle.std.specs.List.{cons_option}
use Rattle.std.specs.Prelude.{Option, Some, None, Result, Ok, Err, slice_index_or}
use Rattle.vax_asm_sections.specs.Layout.{Part, Zeros, Bytes, Field, Section as Building}
use Rattle.vax_asm_sections.specs.View.{part_of, section_of}
use Rattle.vax_asm_sections.specs.declared.types.Building as code
use Rattle.vax_asm_sections.specs.declared.types.Piece.{Piece}
use Rattle.vax_macro.specs.Rest.{Opening}
use Rattle.vax_macro.specs.declared.error.FaultKind.{FaultKind}
use Rattle.vax_asm_first.specs.Fixups as specs
use Rattle.vax_asm_first.specs.Standing.{Standing}
use Rattle.vax_asm_first.specs.View.{assignment_of, part_seen, section_seen}
use Rattle.vax_asm_first.specs.declared.types.Assignment.{Assignment}
use Rattle.vax_asm_first.specs.declared.types.Fixup.{Fixup}
use Rattle.vax_asm_first.specs.declared.types.Origin.{Origin}
use Rattle.vax_asm_values.specs.Values.{Source}
use Rattle.vax_asm_second.specs.Contents.{before_field, field_in}
use Rattle.vax_asm_second.specs.Faults.{assigned_faults, fault_at, first_of, kind_of, unclosed_faults, value_filled, value_in}
use Rattle.vax_asm_second.specs.Laid.{Known, Laid, Output, held, joined, laid, laid_behind, output, outputs, written}
use Rattle.vax_asm_second.specs.Modules.{faults, known_in}
use Rattle.vax_asm_second.specs.declared.types.Fault.{Fault}
use Rattle.vax_asm_second.specs.declared.types.Held.{Held}
use Rattle.vax_asm_second.proofs.Whole.{IsFound, known_found, known_from}

-- ---- one fault at most

pub listed_at : (origin : Origin) (kind : Option FaultKind) → cons_option (first_of (fault_at origin kind)) [] ≡ fault_at origin kind
listed_at origin None = refl
listed_at origin (Some kind) = refl

written_one : (k : Known) (section at : ℕ) (f : specs.Fixup) (h : Result Held (Option FaultKind)) → cons_option (first_of (written k section at f h).faults) [] ≡ (written k section at f h).faults
written_one k section at f (Ok h) = refl
written_one k section at f (Err kind) = listed_at f.origin kind

pub output_one : (k : Known) (section at : ℕ) (p : Part specs.Fixup) → cons_option (first_of (output k section at p).faults) [] ≡ (output k section at p).faults
output_one k section at (Zeros n) = refl
output_one k section at (Bytes bytes) = refl
output_one k section at (Field f) = written_one k section at f (held (field_in f.content) section (at + before_field f.content) (value_filled k.sources f.filling))

unclosed_one : (begin : Option Opening) → cons_option (first_of (unclosed_faults begin)) [] ≡ unclosed_faults begin
unclosed_one None = refl
unclosed_one (Some begin) = refl

-- ---- parts

part_split : (pieces : List (Piece Fixup)) (i : ℕ) (x : Piece Fixup) → i < length pieces → x ≡ slice_index_or pieces i x
    → map part_seen (map part_of (drop i pieces)) ≡ part_seen (part_of x) ∷ map part_seen (map part_of (drop (i + 1) pieces))
part_split pieces i x h at =
    let split : drop i pieces ≡ x ∷ drop (i + 1) pieces = rw add-one (drop-cons pieces i x h ∙ ap (λ (y : Piece Fixup). y ∷ drop (suc i) pieces) (sym at)) in
    ap (λ (l : List (Piece Fixup)). map part_seen (map part_of l)) split

pub piece_listed : (k : Known) (section : ℕ) (pieces : List (Piece Fixup)) (i : ℕ) (x : Piece Fixup) (bytes new_bytes : List ℕ) (list new_list all : List Fault)
    → i < length pieces → x ≡ slice_index_or pieces i x
    → new_bytes ≡ bytes ++ (output k section (length bytes) (part_seen (part_of x))).bytes
    → new_list ≡ list ++ (output k section (length bytes) (part_seen (part_of x))).faults
    → list ++ (outputs k section (length bytes) (map part_seen (map part_of (drop i pieces)))).faults ≡ all
    → new_list ++ (outputs k section (length new_bytes) (map part_seen (map part_of (drop (i + 1) pieces)))).faults ≡ all
unfolding outputs
piece_listed k section pieces i x bytes new_bytes list new_list all h at b f same =
    let p = part_seen (part_of x) in
    let rest = map part_seen (map part_of (drop (i + 1) pieces)) in
    let o = output k section (length bytes) p in
    let more = outputs k section (length bytes + length o.bytes) rest in
    let split : outputs k section (length bytes) (map part_seen (map part_of (drop i pieces))) ≡ joined o more = ap (outputs k section (length bytes)) (part_split pieces i x h at) in
    let longer : length new_bytes ≡ length bytes + length o.bytes = ap length b ∙ length-append bytes o.bytes in
    ap (λ (n : ℕ). new_list ++ (outputs k section n rest).faults) longer
    ∙ ap (λ (q : List Fault). q ++ more.faults) f
    ∙ append_assoc list o.faults more.faults
    ∙ sym (ap (λ (q : Output). list ++ q.faults) split)
    ∙ same

pub pieces_listed : (k : Known) (section at : ℕ) (pieces : List (Piece Fixup)) (i : ℕ) (list all : List Fault) → length pieces ≤ i
    → list ++ (outputs k section at (map part_seen (map part_of (drop i pieces)))).faults ≡ all → list ≡ all
unfolding outputs
pieces_listed k section at pieces i list all h same =
    sym (append-nil list) ∙ ap (λ (l : List (Piece Fixup)). list ++ (outputs k section at (map part_seen (map part_of l))).faults) (sym (drop_all i pieces h)) ∙ same

-- ---- sections

section_split : (sections : List (code.Building Fixup)) (i : ℕ) (x : code.Building Fixup) → i < length sections → x ≡ slice_index_or sections i x
    → map section_seen (map section_of (drop i sections)) ≡ section_seen (section_of x) ∷ map section_seen (map section_of (drop (i + 1) sections))
section_split sections i x h at =
    let split : drop i sections ≡ x ∷ drop (i + 1) sections = rw add-one (drop-cons sections i x h ∙ ap (λ (y : code.Building Fixup). y ∷ drop (suc i) sections) (sym at)) in
    ap (λ (l : List (code.Building Fixup)). map section_seen (map section_of l)) split

pub section_listed : (k : Known) (sections : List (code.Building Fixup)) (i number : ℕ) (x : code.Building Fixup) (list new_list all : List Fault)
    → i < length sections → x ≡ slice_index_or sections i x → number ≡ i
    → new_list ≡ list ++ (outputs k number 0 (section_seen (section_of x)).parts).faults
    → list ++ (laid k i (map section_seen (map section_of (drop i sections)))).faults ≡ all
    → new_list ++ (laid k (i + 1) (map section_seen (map section_of (drop (i + 1) sections)))).faults ≡ all
unfolding laid
section_listed k sections i number x list new_list all h at e f same =
    let p = section_seen (section_of x) in
    let o = outputs k i 0 p.parts in
    let rest = map section_seen (map section_of (drop (i + 1) sections)) in
    let more = laid k (i + 1) rest in
    let next : laid k (suc i) rest ≡ more = ap (λ (n : ℕ). laid k n rest) (sym (add-one i)) in
    let split : laid k i (map section_seen (map section_of (drop i sections))) ≡ laid_behind p o more =
    ap (laid k i) (section_split sections i x h at) ∙ ap (laid_behind p o) next in
    ap (λ (q : List Fault). q ++ more.faults) (f ∙ ap (λ (n : ℕ). list ++ (outputs k n 0 p.parts).faults) e)
    ∙ append_assoc list o.faults more.faults
    ∙ sym (ap (λ (q : Laid). list ++ q.faults) split)
    ∙ same

pub sections_listed : (k : Known) (number : ℕ) (sections : List (code.Building Fixup)) (i : ℕ) (list all : List Fault) → length sections ≤ i
    → list ++ (laid k number (map section_seen (map section_of (drop i sections)))).faults ≡ all → list ≡ all
unfolding laid
sections_listed k number sections i list all h same =
    sym (append-nil list) ∙ ap (λ (l : List (code.Building Fixup)). list ++ (laid k number (map section_seen (map section_of l))).faults) (sym (drop_all i sections h)) ∙ same

-- ---- assignments

pub assignment_listed : (sources : List Source) (assignments : List Assignment) (i : ℕ) (a : Assignment) (fault : Option Fault) (list new_list all : List Fault) → i < length assignments → a ≡ slice_index_or assignments i a
    → fault ≡ first_of (fault_at a.origin (kind_of (value_in sources (assignment_of a).written)))
    → new_list ≡ list ++ cons_option fault []
    → list ++ assigned_faults sources (map assignment_of (drop i assignments)) ≡ all
    → new_list ++ assigned_faults sources (map assignment_of (drop (i + 1) assignments)) ≡ all
assignment_listed sources assignments i a fault list new_list all h at e f same =
    let split : drop i assignments ≡ a ∷ drop (i + 1) assignments = rw add-one (drop-cons assignments i a h ∙ ap (λ (x : Assignment). x ∷ drop (suc i) assignments) (sym at)) in
    let here = fault_at a.origin (kind_of (value_in sources (assignment_of a).written)) in
    let more = assigned_faults sources (map assignment_of (drop (i + 1) assignments)) in
    ap (λ (q : List Fault). q ++ more) (f ∙ ap (λ (o : Option Fault). list ++ cons_option o []) e ∙ ap (λ (l : List Fault). list ++ l) (listed_at a.origin (kind_of (value_in sources (assignment_of a).written))))
    ∙ append_assoc list here more
    ∙ sym (ap (λ (l : List Assignment). list ++ assigned_faults sources (map assignment_of l)) split)
    ∙ same

pub assignments_listed : (sources : List Source) (assignments : List Assignment) (i : ℕ) (list all : List Fault) → length assignments ≤ i
    → list ++ assigned_faults sources (map assignment_of (drop i assignments)) ≡ all → list ≡ all
assignments_listed sources assignments i list all h same =
    sym (append-nil list) ∙ ap (λ (l : List Assignment). list ++ assigned_faults sources (map assignment_of l)) (sym (drop_all i assignments h)) ∙ same

-- ---- all of them

pub all_listed : (s : Standing) (assigned : List specs.Assignment) (begin : Option Opening) (sources : List Source) (count named : ℕ) (seen : List (Building specs.Fixup)) (texts : List (List ℕ)) (one two list : List Fault)
    → IsFound s sources count named seen texts
    → one ≡ (laid (known_from sources count named) 0 seen).faults
    → two ≡ one ++ assigned_faults sources assigned
    → list ≡ two ++ cons_option (first_of (unclosed_faults begin)) []
    → list ≡ faults (known_in s) s.sections.all assigned begin
all_listed s assigned begin sources count named seen texts one two list f a b c =
    let k = known_from sources count named in
    c
    ∙ ap (λ (l : List Fault). two ++ l) (unclosed_one begin)
    ∙ ap (λ (l : List Fault). l ++ unclosed_faults begin) (b ∙ ap (λ (l : List Fault). l ++ assigned_faults sources assigned) a)
    ∙ append_assoc (laid k 0 seen).faults (assigned_faults sources assigned) (unclosed_faults begin)
    ∙ ap (λ (l : List (Building specs.Fixup)). faults k l assigned begin) f.seen
    ∙ ap (λ (j : Known). faults j s.sections.all assigned begin) (known_found s sources count named seen texts f)

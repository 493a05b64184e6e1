-- Parts and sections, one more at a time.
use Rattle.std.proofs.Common.{◌≡◌, ◌<◌, ◌≤◌, ◌+◌, ℕ, suc, add-one, List, [], ◌∷◌, ◌++◌, length, map, drop, refl, sym, ap, ◌∙◌, drop-cons, append_assoc}
use Rattle.std.proofs.lemmas.List.{append-nil, drop_all, length-append}
use Rattle.std.specs.List.{filter_map, cons_option}
use Rattle.std.specs.Prelude.{Option, Some, None, slice_index_or}
use Rattle.vax_asm_sections.specs.View.{part_of, section_of}
use Rattle.vax_asm_sections.specs.declared.types.Building as code
use Rattle.vax_asm_sections.specs.declared.types.Piece.{Piece}
use Rattle.vax_module.specs.declared.ExternalName.{ExternalName}
use Rattle.vax_module.specs.declared.Reloc.{Reloc}
use Rattle.vax_module.specs.declared.Section.{Section}
use Rattle.vax_module.specs.declared.Symbol.{Symbol}
use Rattle.vax_asm_names.specs.Names as specs
use Rattle.vax_asm_names.specs.View.{name_of}
use Rattle.vax_asm_names.specs.declared.types.Name.{Name}
use Rattle.vax_asm_first.specs.View.{part_seen, section_seen}
use Rattle.vax_asm_first.specs.declared.types.Fixup.{Fixup}
use Rattle.vax_asm_second.specs.Faults.{first, first_of}
use Rattle.vax_asm_second.specs.Laid.{Known, Output, joined, output, outputs, Laid, laid_behind, laid, section_of as laid_section}
use Rattle.vax_asm_second.specs.declared.types.Fault.{Fault}
use Rattle.vax_asm_second.specs.Modules.{external_of, global_symbol}
use Rattle.vax_asm_second.proofs.Order.{first_joined, first_of_both, first_alone}

-- ---- what is written so far, beside what is still to come

pub record Wrote (b : List ℕ) (r : List Reloc) (f : Option Fault) (rest : Output) (all_bytes : List ℕ) (all_relocs : List Reloc) (all_fault : Option Fault) : Type 0 where
  pub bytes : b ++ rest.bytes ≡ all_bytes
  pub relocs : r ++ rest.relocs ≡ all_relocs
  pub fault : first f (first_of rest.faults) ≡ all_fault

part_split : (pieces : List (Piece Fixup)) (i : ℕ) (x : Piece Fixup) → i < length pieces → x ≡ slice_index_or pieces i x
    → map part_seen (map part_of (drop i pieces)) ≡ part_seen (part_of x) ∷ map part_seen (map part_of (drop (i + 1) pieces))
part_split pieces i x h at =
    let split : drop i pieces ≡ x ∷ drop (i + 1) pieces = rw add-one (drop-cons pieces i x h ∙ ap (λ (y : Piece Fixup). y ∷ drop (suc i) pieces) (sym at)) in
    ap (λ (l : List (Piece Fixup)). map part_seen (map part_of l)) split

-- one part more
pub part_written : (k : Known) (section : ℕ) (pieces : List (Piece Fixup)) (i : ℕ) (x : Piece Fixup) (bytes new_bytes all_bytes : List ℕ) (relocs new_relocs all_relocs : List Reloc) (fault new_fault all_fault : Option Fault)
    → i < length pieces → x ≡ slice_index_or pieces i x
    → new_bytes ≡ bytes ++ (output k section (length bytes) (part_seen (part_of x))).bytes
    → new_relocs ≡ relocs ++ (output k section (length bytes) (part_seen (part_of x))).relocs
    → new_fault ≡ first fault (first_of (output k section (length bytes) (part_seen (part_of x))).faults)
    → Wrote bytes relocs fault (outputs k section (length bytes) (map part_seen (map part_of (drop i pieces)))) all_bytes all_relocs all_fault
    → Wrote new_bytes new_relocs new_fault (outputs k section (length new_bytes) (map part_seen (map part_of (drop (i + 1) pieces)))) all_bytes all_relocs all_fault
unfolding outputs
part_written k section pieces i x bytes new_bytes all_bytes relocs new_relocs all_relocs fault new_fault all_fault h at b r f w =
    let p = part_seen (part_of x) in
    let rest = map part_seen (map part_of (drop (i + 1) pieces)) in
    let o = output k section (length bytes) p in
    let more = outputs k section (length bytes + length o.bytes) rest in
    let split : outputs k section (length bytes) (map part_seen (map part_of (drop i pieces))) ≡ joined o more = ap (outputs k section (length bytes)) (part_split pieces i x h at) in
    let longer : length new_bytes ≡ length bytes + length o.bytes = ap length b ∙ length-append bytes o.bytes in
    let same : outputs k section (length new_bytes) rest ≡ more = ap (λ (n : ℕ). outputs k section n rest) longer in
    record {
      bytes = ap (λ (q : Output). new_bytes ++ q.bytes) same ∙ ap (λ (q : List ℕ). q ++ more.bytes) b ∙ append_assoc bytes o.bytes more.bytes ∙ sym (ap (λ (q : Output). bytes ++ q.bytes) split) ∙ w.bytes;
      relocs = ap (λ (q : Output). new_relocs ++ q.relocs) same ∙ ap (λ (q : List Reloc). q ++ more.relocs) r ∙ append_assoc relocs o.relocs more.relocs ∙ sym (ap (λ (q : Output). relocs ++ q.relocs) split) ∙ w.relocs;
      fault =
          ap (λ (q : Output). first new_fault (first_of q.faults)) same
          ∙ ap (λ (q : Option Fault). first q (first_of more.faults)) f
          ∙ first_joined fault (first_of o.faults) (first_of more.faults)
          ∙ ap (first fault) (sym (first_of_both o.faults more.faults))
          ∙ sym (ap (λ (q : Output). first fault (first_of q.faults)) split)
          ∙ w.fault;
    }

-- ---- sections

pub record Placed (list : List Section) (r : List Reloc) (f : Option Fault) (rest : Laid) (all_sections : List Section) (all_relocs : List Reloc) (all_fault : Option Fault) : Type 0 where
  pub sections : list ++ rest.sections ≡ all_sections
  pub relocs : r ++ rest.relocs ≡ all_relocs
  pub fault : first f (first_of rest.faults) ≡ all_fault

section_split : (sections : List (code.Building Fixup)) (i : ℕ) (x : code.Building Fixup) → i < length sections → x ≡ slice_index_or sections i x
    → map section_seen (map section_of (drop i sections)) ≡ section_seen (section_of x) ∷ map section_seen (map section_of (drop (i + 1) sections))
section_split sections i x h at =
    let split : drop i sections ≡ x ∷ drop (i + 1) sections = rw add-one (drop-cons sections i x h ∙ ap (λ (y : code.Building Fixup). y ∷ drop (suc i) sections) (sym at)) in
    ap (λ (l : List (code.Building Fixup)). map section_seen (map section_of l)) split

-- one section more
pub section_laid : (k : Known) (sections : List (code.Building Fixup)) (i number : ℕ) (x : code.Building Fixup) (list new_list all_list : List Section) (s : Section) (relocs new_relocs all_relocs : List Reloc) (fault new_fault all_fault : Option Fault)
    → i < length sections → x ≡ slice_index_or sections i x
    → number ≡ i
    → new_list ≡ list ++ s ∷ []
    → s ≡ laid_section (section_seen (section_of x)) (outputs k number 0 (section_seen (section_of x)).parts).bytes
    → new_relocs ≡ relocs ++ (outputs k number 0 (section_seen (section_of x)).parts).relocs
    → new_fault ≡ first fault (first_of (outputs k number 0 (section_seen (section_of x)).parts).faults)
    → Placed list relocs fault (laid k i (map section_seen (map section_of (drop i sections)))) all_list all_relocs all_fault
    → Placed new_list new_relocs new_fault (laid k (i + 1) (map section_seen (map section_of (drop (i + 1) sections)))) all_list all_relocs all_fault
unfolding laid
section_laid k sections i number x list new_list all_list s relocs new_relocs all_relocs fault new_fault all_fault h at e b t r f w =
    let p = section_seen (section_of x) in
    let o = outputs k i 0 p.parts in
    let same : outputs k number 0 p.parts ≡ o = ap (λ (n : ℕ). outputs k n 0 p.parts) e in
    let rest = map section_seen (map section_of (drop (i + 1) sections)) in
    let more = laid k (i + 1) rest in
    let next : laid k (suc i) rest ≡ more = ap (λ (n : ℕ). laid k n rest) (sym (add-one i)) in
    let split : laid k i (map section_seen (map section_of (drop i sections))) ≡ laid_behind p o more =
    ap (laid k i) (section_split sections i x h at) ∙ ap (laid_behind p o) next in
    record {
      sections =
          ap (λ (q : List Section). q ++ more.sections) (b ∙ ap (λ (y : Section). list ++ y ∷ []) (t ∙ ap (λ (q : Output). laid_section p q.bytes) same))
          ∙ append_assoc list (laid_section p o.bytes ∷ []) more.sections
          ∙ sym (ap (λ (q : Laid). list ++ q.sections) split) ∙ w.sections;
      relocs = ap (λ (q : List Reloc). q ++ more.relocs) (r ∙ ap (λ (q : Output). relocs ++ q.relocs) same) ∙ append_assoc relocs o.relocs more.relocs ∙ sym (ap (λ (q : Laid). relocs ++ q.relocs) split) ∙ w.relocs;
      fault =
          ap (λ (q : Option Fault). first q (first_of more.faults)) (f ∙ ap (λ (q : Output). first fault (first_of q.faults)) same)
          ∙ first_joined fault (first_of o.faults) (first_of more.faults)
          ∙ ap (first fault) (sym (first_of_both o.faults more.faults))
          ∙ sym (ap (λ (q : Laid). first fault (first_of q.faults)) split)
          ∙ w.fault;
    }

-- ---- at the end

pub parts_written : (k : Known) (section at : ℕ) (pieces : List (Piece Fixup)) (i : ℕ) (bytes all_bytes : List ℕ) (relocs all_relocs : List Reloc) (fault all_fault : Option Fault) → length pieces ≤ i
    → Wrote bytes relocs fault (outputs k section at (map part_seen (map part_of (drop i pieces)))) all_bytes all_relocs all_fault
    → (bytes ≡ all_bytes) × (relocs ≡ all_relocs) × (fault ≡ all_fault)
unfolding outputs
parts_written k section at pieces i bytes all_bytes relocs all_relocs fault all_fault h w =
    let none : outputs k section at [] ≡ outputs k section at (map part_seen (map part_of (drop i pieces))) =
    ap (λ (l : List (Piece Fixup)). outputs k section at (map part_seen (map part_of l))) (sym (drop_all i pieces h)) in (
      sym (append-nil bytes) ∙ ap (λ (o : Output). bytes ++ o.bytes) none ∙ w.bytes,
      sym (append-nil relocs) ∙ ap (λ (o : Output). relocs ++ o.relocs) none ∙ w.relocs,
      sym (first_alone fault) ∙ ap (λ (o : Output). first fault (first_of o.faults)) none ∙ w.fault,
    )

pub sections_laid : (k : Known) (number : ℕ) (sections : List (code.Building Fixup)) (i : ℕ) (list all_list : List Section) (relocs all_relocs : List Reloc) (fault all_fault : Option Fault) → length sections ≤ i
    → Placed list relocs fault (laid k number (map section_seen (map section_of (drop i sections)))) all_list all_relocs all_fault
    → (list ≡ all_list) × (relocs ≡ all_relocs) × (fault ≡ all_fault)
unfolding laid
sections_laid k number sections i list all_list relocs all_relocs fault all_fault h w =
    let none : laid k number [] ≡ laid k number (map section_seen (map section_of (drop i sections))) =
    ap (λ (l : List (code.Building Fixup)). laid k number (map section_seen (map section_of l))) (sym (drop_all i sections h)) in (
      sym (append-nil list) ∙ ap (λ (o : Laid). list ++ o.sections) none ∙ w.sections,
      sym (append-nil relocs) ∙ ap (λ (o : Laid). relocs ++ o.relocs) none ∙ w.relocs,
      sym (first_alone fault) ∙ ap (λ (o : Laid). first fault (first_of o.faults)) none ∙ w.fault,
    )

-- ---- names

kept_joined : {X : Type 0} (o : Option X) (xs : List X) → cons_option o xs ≡ cons_option o [] ++ xs
kept_joined None xs = refl
kept_joined (Some x) xs = refl

kept_split : {X : Type 0} (f : specs.Name → Option X) (names : List Name) (i : ℕ) (n : Name) → i < length names → n ≡ slice_index_or names i n
    → filter_map f (map name_of (drop i names)) ≡ cons_option (f (name_of n)) [] ++ filter_map f (map name_of (drop (i + 1) names))
kept_split f names i n h at =
    let split : drop i names ≡ n ∷ drop (i + 1) names = rw add-one (drop-cons names i n h ∙ ap (λ (x : Name). x ∷ drop (suc i) names) (sym at)) in
    ap (λ (l : List Name). filter_map f (map name_of l)) split
    ∙ kept_joined (f (name_of n)) (filter_map f (map name_of (drop (i + 1) names)))

kept_added : {X : Type 0} (f : specs.Name → Option X) (names : List Name) (i : ℕ) (n : Name) (kept : Option X) (list new all : List X) → i < length names → n ≡ slice_index_or names i n
    → kept ≡ f (name_of n) → new ≡ list ++ cons_option kept []
    → list ++ filter_map f (map name_of (drop i names)) ≡ all
    → new ++ filter_map f (map name_of (drop (i + 1) names)) ≡ all
kept_added {X} f names i n kept list new all h at e more same =
    let rest = filter_map f (map name_of (drop (i + 1) names)) in
    ap (λ (l : List X). l ++ rest) (more ∙ ap (λ (o : Option X). list ++ cons_option o []) e)
    ∙ append_assoc list (cons_option (f (name_of n)) []) rest
    ∙ ap (λ (l : List X). list ++ l) (sym (kept_split f names i n h at))
    ∙ same

all_kept : {X : Type 0} (f : specs.Name → Option X) (names : List Name) (i : ℕ) (list all : List X) → length names ≤ i → list ++ filter_map f (map name_of (drop i names)) ≡ all → list ≡ all
all_kept f names i list all h same = sym (append-nil list) ∙ ap (λ (l : List Name). list ++ filter_map f (map name_of l)) (sym (drop_all i names h)) ∙ same

pub name_added : (k : Known) (names : List Name) (i : ℕ) (n : Name) (symbol : Option Symbol) (list new all : List Symbol) → i < length names → n ≡ slice_index_or names i n
    → symbol ≡ global_symbol k (name_of n) → new ≡ list ++ cons_option symbol []
    → list ++ filter_map (global_symbol k) (map name_of (drop i names)) ≡ all
    → new ++ filter_map (global_symbol k) (map name_of (drop (i + 1) names)) ≡ all
name_added k names i n symbol list new all h at e more same = kept_added (global_symbol k) names i n symbol list new all h at e more same

pub names_added : (k : Known) (names : List Name) (i : ℕ) (list all : List Symbol) → length names ≤ i → list ++ filter_map (global_symbol k) (map name_of (drop i names)) ≡ all → list ≡ all
names_added k names i list all h same = all_kept (global_symbol k) names i list all h same

pub external_added : (names : List Name) (i : ℕ) (n : Name) (external : Option ExternalName) (list new all : List ExternalName) → i < length names → n ≡ slice_index_or names i n
    → external ≡ external_of (name_of n) → new ≡ list ++ cons_option external []
    → list ++ filter_map external_of (map name_of (drop i names)) ≡ all
    → new ++ filter_map external_of (map name_of (drop (i + 1) names)) ≡ all
external_added names i n external list new all h at e more same = kept_added external_of names i n external list new all h at e more same

pub externals_added : (names : List Name) (i : ℕ) (list all : List ExternalName) → length names ≤ i → list ++ filter_map external_of (map name_of (drop i names)) ≡ all → list ≡ all
externals_added names i list all h same = all_kept external_of names i list all h same

-- The module of what statements leave is formed.
use Rattle.std.proofs.Common.{◌≡◌, ◌≤◌, ◌<◌, ◌+◌, ◌-◌, ◌*◌, inl, inr, ℕ, zero, suc, Bool, true, false, List, [], ◌∷◌, ◌++◌, length, refl, sym, ap, subst, ◌∙◌, arith}
use Rattle.std.proofs.lemmas.Bool.Decides.{nat_tests}
use Rattle.std.proofs.lemmas.List.{length-append}
use Rattle.std.proofs.lemmas.List.Elements.{All-nil, All-cons, All-head, All-tail, All-append, All-weaker}
use Rattle.std.proofs.lemmas.List.Kept.{AllPairs-cons}
use Rattle.std.proofs.Math.Nat.{suc-mul}
use Rattle.std.specs.List.{filter_map, cons_option}
use Rattle.std.specs.Option.{option_and_then}
use Rattle.std.specs.Prelude.{All, AllPairs, IfSome, Option, Some, None, Result, Ok, Err, not, ◌&&◌, if◌then◌else◌, slice_get, slice_index_or, replicate}
use Rattle.vax_asm_encode.specs.Bytes.{operand_bytes}
use Rattle.vax_asm_encode.specs.declared.operand.Field.{Field}
use Rattle.vax_asm_sections.specs.Layout.{Part, Zeros, Bytes, Field as Filled_later, Section as Building}
use Rattle.vax_lex.specs.declared.value.Value.{Value}
use Rattle.vax_lex.specs.declared.value.Value.TheVariants as value
use Rattle.vax_macro.specs.Rest.{Opening}
use Rattle.vax_macro.specs.declared.error.FaultKind.{FaultKind}
use Rattle.vax_module.specs.Formed.{width_of, IsKnown, IsAlignment, end_of, IsFieldOf, AreApart, Precedes, Formed}
use Rattle.vax_module.specs.declared.ExternalName.{ExternalName}
use Rattle.vax_module.specs.declared.Module.{Module}
use Rattle.vax_module.specs.declared.Reloc.{Reloc}
use Rattle.vax_module.specs.declared.Section.{Section}
use Rattle.vax_module.specs.declared.Symbol.{Symbol}
use Rattle.vax_asm_names.specs.Names.{Name}
use Rattle.vax_asm_first.specs.Contents.{IsSound}
use Rattle.vax_asm_first.specs.Fixups.{Assignment, Fixup, Transfer}
use Rattle.vax_asm_first.specs.Standing.{Standing}
use Rattle.vax_asm_encode.specs.Operands.{item_bytes}
use Rattle.vax_asm_first.specs.declared.types.Content.{Content}
use Rattle.vax_asm_first.specs.declared.types.Content.TheVariants as content
use Rattle.vax_asm_scope.specs.Scope.{external_names, is_external, is_undefined}
use Rattle.vax_asm_values.specs.Values.{value_of}
use Rattle.vax_asm_second.specs.Contents.{field_in, specifiers, before_field, bytes_in, moved, every, relocs_in}
use Rattle.vax_asm_second.specs.Faults.{value_filled, first_of}
use Rattle.vax_asm_second.specs.Laid.{Known, is_known, held, Output, linked, written, output, outputs, Laid, laid, laid_behind, section_of}
use Rattle.vax_asm_second.specs.Modules.{known_in, symbol_by, symbol, externals_of, global_symbol, transfer_symbol, faults, module_of, unless_faulty, filled_in}
use Rattle.vax_asm_second.specs.declared.types.Fault.{Fault}
use Rattle.vax_asm_second.specs.declared.types.Held.{Held}
use Rattle.vax_asm_second.specs.declared.types.Link.{Link}
use Rattle.vax_asm_second.proofs.Fitting.{field_width, link_fits, operand_fits, data_fits, data_length}

-- ---- pairs

pairs_tail : {X : Type 0} (R : X → X → Type 0) (x : X) (xs : List X) → AllPairs R (x ∷ xs) → AllPairs R xs
pairs_tail {X} R x xs h = λ i j d below within. h (suc i) (suc j) d (omega arith) (omega arith)

pairs_head : {X : Type 0} (R : X → X → Type 0) (x : X) (xs : List X) → AllPairs R (x ∷ xs) → All (R x) xs
pairs_head {X} R x xs h = λ k d within. h zero (suc k) d (omega arith) (omega arith)

pairs_joined : {X : Type 0} (R : X → X → Type 0) (xs ys : List X) → AllPairs R xs → AllPairs R ys → All (λ x. All (R x) ys) xs → AllPairs R (xs ++ ys)
pairs_joined {X} R [] ys h k across = k
pairs_joined {X} R (x ∷ xs) ys h k across =
    AllPairs-cons R x (xs ++ ys)
    (All-append (R x) xs ys (pairs_head R x xs h) (All-head (λ (y : X). All (R y) ys) x xs across))
    (pairs_joined R xs ys (pairs_tail R x xs h) k (All-tail (λ (y : X). All (R y) ys) x xs across))

-- ---- relocations in the order of their fields, from a place of a section to another

abbrev Lies : (section from to : ℕ) → Reloc → Type 0
Lies section from to r = (r.section ≡ section) × (from ≤ r.offset) × (end_of r ≤ to)

abbrev Targets : Known → Reloc → Type 0
Targets k r = IsKnown k.sections k.externals r.target

record Spread (k : Known) (section from to : ℕ) (relocs : List Reloc) : Type 0 where
  lie : All (Lies section from to) relocs
  targets : All (Targets k) relocs
  ordered : AllPairs Precedes relocs

no_pairs : AllPairs Precedes []
no_pairs = λ i j d below within. absurd (omega arith)

spread_none : (k : Known) (section from to : ℕ) → Spread k section from to []
spread_none k section from to = record { lie = All-nil (Lies section from to); targets = All-nil (Targets k); ordered = no_pairs }

in_order : (section from middle to : ℕ) (r s : Reloc) → Lies section from middle r → Lies section middle to s → Precedes r s
in_order section from middle to r s h k = inr (h.0 ∙ sym k.0, omega (arith, h.2, k.1))

spread_joined : (k : Known) (section from middle to : ℕ) (xs ys : List Reloc) → from ≤ middle → middle ≤ to → Spread k section from middle xs → Spread k section middle to ys → Spread k section from to (xs ++ ys)
spread_joined k section from middle to xs ys h g x y = record {
  lie =
      All-append (Lies section from to) xs ys
      (All-weaker (Lies section from middle) (Lies section from to) (λ (r : Reloc) (l : Lies section from middle r). (l.0, l.1, omega (arith, l.2))) xs x.lie)
      (All-weaker (Lies section middle to) (Lies section from to) (λ (r : Reloc) (l : Lies section middle to r). (l.0, omega (arith, l.1), l.2)) ys y.lie);
  targets = All-append (Targets k) xs ys x.targets y.targets;
  ordered =
      pairs_joined Precedes xs ys x.ordered y.ordered
      (All-weaker (Lies section from middle) (λ (r : Reloc). All (Precedes r) ys)
      (λ (r : Reloc) (l : Lies section from middle r). All-weaker (Lies section middle to) (Precedes r) (λ (s : Reloc) (m : Lies section middle to s). in_order section from middle to r s l m) ys y.lie)
      xs x.lie);
}

spread_one : (k : Known) (from to : ℕ) (r : Reloc) → from ≤ r.offset → end_of r ≤ to → Targets k r → Spread k r.section from to (r ∷ [])
spread_one k from to r h g t = record {
  lie = All-cons (Lies r.section from to) r [] (refl, h, g) (All-nil (Lies r.section from to));
  targets = All-cons (Targets k) r [] t (All-nil (Targets k));
  ordered = AllPairs-cons Precedes r [] (All-nil (Precedes r)) no_pairs;
}

every_spread : (k : Known) (count step : ℕ) (r : Reloc) → width_of r.kind ≤ step → Targets k r → Spread k r.section r.offset (r.offset + count * step) (every count step r)
every_spread k zero step r h t = spread_none k r.section r.offset (r.offset + 0 * step)
every_spread k (suc count) step r h t =
    let rest = every_spread k count step (moved step r) h t in
    let end : r.offset + step + count * step ≡ r.offset + suc count * step = omega (arith, suc-mul count step) in
    spread_joined k r.section r.offset (r.offset + step) (r.offset + suc count * step) (r ∷ []) (every count step (moved step r)) (omega arith) (omega arith)
    (spread_one k r.offset (r.offset + step) r (omega arith) (omega arith) t)
    (subst (λ (n : ℕ). Spread k r.section (r.offset + step) n (every count step (moved step r))) end rest)

-- ---- a field

known_is : (k : Known) (v : Value) → is_known k v ≡ true → IsKnown k.sections k.externals v
known_is k (value.Absolute n) h = tt
known_is k (value.Section s offset) h = grind (arith, nat_tests)
known_is k (value.External i offset) h = grind (arith, nat_tests)

-- the relocations of something, the first of whose fields has this one
contents_spread : (k : Known) (c : Content) (section at n : ℕ) (f : Field) (l : Link) → IsSound c → field_in c ≡ Some f → width_of l.kind ≡ field_width f → IsKnown k.sections k.externals l.target
    → Spread k section at (at + length (bytes_in c n)) (relocs_in c (record { section = section; offset = at + before_field c; kind = l.kind; target = l.target }))
contents_spread k (content.Data d count) section at n f l h e w t =
    let r : Reloc = record { section = section; offset = at + 0; kind = l.kind; target = l.target } in
    let step : width_of l.kind ≤ item_bytes d = omega (arith, w, data_fits d f e) in
    let end : at + 0 + count * item_bytes d ≡ at + length (bytes_in (content.Data d count) n) = omega (arith, data_length d count n) in
    let start : at + 0 ≡ at = omega arith in
    subst (λ (b : ℕ). Spread k section at b (every count (item_bytes d) r)) end
    (subst (λ (a : ℕ). Spread k section a (at + 0 + count * item_bytes d) (every count (item_bytes d) r)) start
    (every_spread k count (item_bytes d) r step t))
contents_spread k (content.Operand kind o) section at n f l h e w t =
    let r : Reloc = record { section = section; offset = at + specifiers o; kind = l.kind; target = l.target } in
    spread_one k at (at + length (operand_bytes kind o n)) r (omega arith) (omega (arith, w, operand_fits kind o f n h.0 h.1 e)) t

either_spread : (k : Known) (c : Content) (section at n : ℕ) (f : Field) (l : Link) (b : Bool) → is_known k l.target ≡ b → IsSound c → field_in c ≡ Some f → width_of l.kind ≡ field_width f
    → Spread k section at (at + length (bytes_in c n)) (if b then relocs_in c (record { section = section; offset = at + before_field c; kind = l.kind; target = l.target }) else [])
either_spread k c section at n f l true h s e w = contents_spread k c section at n f l s e w (known_is k l.target h)
either_spread k c section at n f l false h s e w = spread_none k section at (at + length (bytes_in c n))

link_spread : (k : Known) (c : Content) (section at : ℕ) (v : Result Value (Option FaultKind)) (h : Held) (o : Option Link) → IsSound c → held (field_in c) section (at + before_field c) v ≡ Ok h → h.link ≡ o
    → Spread k section at (at + length (bytes_in c h.number)) (linked k c section at o)
link_spread k c section at v h None s e g = spread_none k section at (at + length (bytes_in c h.number))
link_spread k c section at v h (Some l) s e g =
    let fits = link_fits (field_in c) section (at + before_field c) v h l e g in
    either_spread k c section at h.number fits.0 l (is_known k l.target) refl s fits.1 fits.2

abbrev SpreadOver : Known → (section at : ℕ) → Output → Type 0
SpreadOver k section at o = Spread k section at (at + length o.bytes) o.relocs

written_spread : (k : Known) (section at : ℕ) (f : Fixup) (v : Result Value (Option FaultKind)) (q : Result Held (Option FaultKind)) → IsSound f.content → held (field_in f.content) section (at + before_field f.content) v ≡ q
    → SpreadOver k section at (written k section at f q)
written_spread k section at f v (Ok h) s e = link_spread k f.content section at v h h.link s e refl
written_spread k section at f v (Err kind) s e = spread_none k section at (at + length (bytes_in f.content 0))

-- ---- parts

-- operands may stand where they are
abbrev pub IsSoundPart : Part Fixup → Type 0
IsSoundPart (Zeros n) = Unit {0}
IsSoundPart (Bytes bytes) = Unit {0}
IsSoundPart (Filled_later f) = IsSound f.content

output_spread : (k : Known) (section at : ℕ) (p : Part Fixup) → IsSoundPart p → SpreadOver k section at (output k section at p)
output_spread k section at (Zeros n) s = spread_none k section at (at + length (replicate n 0))
output_spread k section at (Bytes bytes) s = spread_none k section at (at + length bytes)
output_spread k section at (Filled_later f) s = written_spread k section at f (value_filled k.sources f.filling) (held (field_in f.content) section (at + before_field f.content) (value_filled k.sources f.filling)) s refl

outputs_spread : (k : Known) (section at : ℕ) (parts : List (Part Fixup)) → All IsSoundPart parts → SpreadOver k section at (outputs k section at parts)
unfolding outputs
outputs_spread k section at [] s = spread_none k section at (at + 0)
outputs_spread k section at (p ∷ parts) s =
    let o = output k section at p in
    let more = outputs k section (at + length o.bytes) parts in
    let end : at + length o.bytes + length more.bytes ≡ at + length (o.bytes ++ more.bytes) = omega (arith, length-append o.bytes more.bytes) in
    spread_joined k section at (at + length o.bytes) (at + length (o.bytes ++ more.bytes)) o.relocs more.relocs (omega arith) (omega (arith, length-append o.bytes more.bytes))
    (output_spread k section at p (All-head IsSoundPart p parts s))
    (subst (λ (n : ℕ). Spread k section (at + length o.bytes) n more.relocs) end (outputs_spread k section (at + length o.bytes) parts (All-tail IsSoundPart p parts s)))

-- ---- sections

-- what code keeps of a section: its alignment is one, and its operands may stand where they are
pub record IsSoundSection (b : Building Fixup) : Type 0 where
  pub align : b.align ≤ 9
  pub parts : All IsSoundPart b.parts

-- the field lies in a section of the list, whose first has this number
abbrev FieldFrom : ℕ → List Section → Reloc → Type 0
FieldFrom number sections r = (number ≤ r.section) × (r.section < number + length sections) × IfSome (slice_get sections (r.section - number)) (λ s. end_of r ≤ length s.bytes)

record Layered (k : Known) (number : ℕ) (sections : List Section) (relocs : List Reloc) : Type 0 where
  fields : All (FieldFrom number sections) relocs
  targets : All (Targets k) relocs
  ordered : AllPairs Precedes relocs

field_first : (number : ℕ) (s : Section) (sections : List Section) (r : Reloc) → Lies number 0 (length s.bytes) r → FieldFrom number (s ∷ sections) r
field_first number s sections r l =
    let here : 0 ≡ r.section - number = omega (arith, l.0) in
    (omega (arith, l.0), omega (arith, l.0), subst (λ (i : ℕ). IfSome (slice_get (s ∷ sections) i) (λ t. end_of r ≤ length t.bytes)) here l.2)

field_later : (number : ℕ) (s : Section) (sections : List Section) (r : Reloc) → FieldFrom (suc number) sections r → FieldFrom number (s ∷ sections) r
field_later number s sections r h =
    let next : suc (r.section - suc number) ≡ r.section - number = omega (arith, h.0) in
    (omega (arith, h.0), omega (arith, h.1), subst (λ (i : ℕ). IfSome (slice_get (s ∷ sections) i) (λ t. end_of r ≤ length t.bytes)) next h.2)

sections_ordered : (number n : ℕ) (sections : List Section) (r s : Reloc) → Lies number 0 n r → FieldFrom (suc number) sections s → Precedes r s
sections_ordered number n sections r s l h = inl (omega (arith, l.0, h.0))

behind_layered : (k : Known) (number : ℕ) (b : Building Fixup) (o : Output) (l : Laid) → SpreadOver k number 0 o → Layered k (suc number) l.sections l.relocs
    → Layered k number (laid_behind b o l).sections (laid_behind b o l).relocs
behind_layered k number b o l h g =
    let s = section_of b o.bytes in
    let lie : All (Lies number 0 (length s.bytes)) o.relocs = All-weaker (Lies number 0 (0 + length o.bytes)) (Lies number 0 (length s.bytes)) (λ (r : Reloc) (m : Lies number 0 (0 + length o.bytes) r). (m.0, m.1, omega (arith, m.2))) o.relocs h.lie in
    record {
      fields =
          All-append (FieldFrom number (s ∷ l.sections)) o.relocs l.relocs
          (All-weaker (Lies number 0 (length s.bytes)) (FieldFrom number (s ∷ l.sections)) (λ (r : Reloc) (m : Lies number 0 (length s.bytes) r). field_first number s l.sections r m) o.relocs lie)
          (All-weaker (FieldFrom (suc number) l.sections) (FieldFrom number (s ∷ l.sections)) (λ (r : Reloc) (m : FieldFrom (suc number) l.sections r). field_later number s l.sections r m) l.relocs g.fields);
      targets = All-append (Targets k) o.relocs l.relocs h.targets g.targets;
      ordered =
          pairs_joined Precedes o.relocs l.relocs h.ordered g.ordered
          (All-weaker (Lies number 0 (length s.bytes)) (λ (r : Reloc). All (Precedes r) l.relocs)
          (λ (r : Reloc) (m : Lies number 0 (length s.bytes) r).
          All-weaker (FieldFrom (suc number) l.sections) (Precedes r) (λ (t : Reloc) (n : FieldFrom (suc number) l.sections t). sections_ordered number (length s.bytes) l.sections r t m n) l.relocs g.fields)
          o.relocs lie);
    }

laid_layered : (k : Known) (number : ℕ) (all : List (Building Fixup)) → All IsSoundSection all → Layered k number (laid k number all).sections (laid k number all).relocs
unfolding laid
laid_layered k number [] s = record { fields = All-nil (FieldFrom number []); targets = All-nil (Targets k); ordered = no_pairs }
laid_layered k number (b ∷ all) s =
    behind_layered k number b (outputs k number 0 b.parts) (laid k (suc number) all) (outputs_spread k number 0 b.parts (All-head IsSoundSection b all s).parts)
    (laid_layered k (suc number) all (All-tail IsSoundSection b all s))

laid_count : (k : Known) (number : ℕ) (all : List (Building Fixup)) → length (laid k number all).sections ≡ length all
unfolding laid
laid_count k number [] = refl
laid_count k number (b ∷ all) = ap suc (laid_count k (suc number) all)

laid_aligned : (k : Known) (number : ℕ) (all : List (Building Fixup)) → All IsSoundSection all → All (λ s. IsAlignment s.align) (laid k number all).sections
unfolding laid
laid_aligned k number [] h = All-nil (λ (s : Section). IsAlignment s.align)
laid_aligned k number (b ∷ all) h =
    All-cons (λ (s : Section). IsAlignment s.align) (section_of b (outputs k number 0 b.parts).bytes) (laid k (suc number) all).sections
    (b.align, (All-head IsSoundSection b all h).align, refl)
    (laid_aligned k (suc number) all (All-tail IsSoundSection b all h))

-- ---- names

abbrev Worth : Known → Symbol → Type 0
Worth k s = IsKnown k.sections k.externals s.value

worth_by : (k : Known) (name : List ℕ) (v : Value) (b : Bool) → is_known k v ≡ b → IfSome (if b then Some (record { name = name; value = v }) else None) (Worth k)
worth_by k name v true h = known_is k v h
worth_by k name v false h = tt

symbol_worth : (k : Known) (name : List ℕ) (o : Option Value) → IfSome (option_and_then (symbol_by k name) o) (Worth k)
symbol_worth k name None = tt
symbol_worth k name (Some v) = worth_by k name v (is_known k v) refl

either_worth : (k : Known) (b : Bool) (o : Option Symbol) → IfSome o (Worth k) → IfSome (if b then o else None) (Worth k)
either_worth k true o h = h
either_worth k false o h = tt

kept_one : {X : Type 0} (P : X → Type 0) (o : Option X) (xs : List X) → IfSome o P → All P xs → All P (cons_option o xs)
kept_one {X} P None xs h g = g
kept_one {X} P (Some x) xs h g = All-cons P x xs h g

globals_worth : (k : Known) (names : List Name) → All (Worth k) (filter_map (global_symbol k) names)
globals_worth k [] = All-nil (Worth k)
globals_worth k (n ∷ names) =
    kept_one (Worth k) (global_symbol k n) (filter_map (global_symbol k) names)
    (either_worth k (n.global && not (is_undefined n)) (symbol k n.text n.definition) (symbol_worth k n.text (value_of k.sources n.definition)))
    (globals_worth k names)

transfer_worth : (k : Known) (o : Option Transfer) → IfSome (option_and_then (transfer_symbol k) o) (Worth k)
transfer_worth k None = tt
transfer_worth k (Some t) = symbol_worth k t.name (value_of k.sources t.definition)

-- ---- the module

apart_of : (r s : Reloc) → Precedes r s → AreApart r s
apart_of r s (inl h) = inl (λ (e : r.section ≡ s.section). omega arith)
apart_of r s (inr h) = inr (inl h.1)

pairs_weaker : {X : Type 0} (R S : X → X → Type 0) (xs : List X) → ((x y : X) → R x y → S x y) → AllPairs R xs → AllPairs S xs
pairs_weaker {X} R S xs h g = λ i j d below within. h (slice_index_or xs i d) (slice_index_or xs j d) (g i j d below within)

field_of_all : (sections : List Section) (r : Reloc) → FieldFrom 0 sections r → IsFieldOf sections r
field_of_all sections r h =
    let same : r.section - 0 ≡ r.section = omega arith in
    (omega (arith, h.1), subst (λ (i : ℕ). IfSome (slice_get sections i) (λ s. end_of r ≤ length s.bytes)) same h.2)

-- as many names of other modules as externals
either_count : (b : Bool) (text : List ℕ) (texts : List (List ℕ)) (e : ExternalName) (es : List ExternalName) → length texts ≡ length es
    → length (if b then text ∷ texts else texts) ≡ length (cons_option (if b then Some e else None) es)
either_count true text texts e es h = ap suc h
either_count false text texts e es h = h

externals_count : (names : List Name) → length (external_names names) ≡ length (externals_of names)
externals_count [] = refl
externals_count (n ∷ names) = either_count (is_external n) n.text (external_names names) (record { name = n.text; weak = n.weak }) (externals_of names) (externals_count names)

-- the module that statements leave
abbrev pub module_in : Standing → Module
module_in s = module_of (known_in s) (laid (known_in s) 0 s.sections.all) s.scope.names.all s.transfer

module_formed : (s : Standing) → All IsSoundSection s.sections.all → Formed (module_in s)
module_formed s sound =
    let k = known_in s in
    let l = laid k 0 s.sections.all in
    let named = length (externals_of s.scope.names.all) in
    let same : k.externals ≡ named = externals_count s.scope.names.all in
    let count : k.sections ≡ length l.sections = sym (laid_count k 0 s.sections.all) in
    let layered = laid_layered k 0 s.sections.all sound in
    record {
      aligned = laid_aligned k 0 s.sections.all sound;
      globals = subst (λ (n : ℕ). All (λ (g : Symbol). IsKnown n named g.value) (filter_map (global_symbol k) s.scope.names.all)) count
          (subst (λ (n : ℕ). All (λ (g : Symbol). IsKnown k.sections n g.value) (filter_map (global_symbol k) s.scope.names.all)) same (globals_worth k s.scope.names.all));
      transfer = subst (λ (n : ℕ). IfSome (option_and_then (transfer_symbol k) s.transfer) (λ (t : Symbol). IsKnown n named t.value)) count
          (subst (λ (n : ℕ). IfSome (option_and_then (transfer_symbol k) s.transfer) (λ (t : Symbol). IsKnown k.sections n t.value)) same (transfer_worth k s.transfer));
      fields = All-weaker (FieldFrom 0 l.sections) (IsFieldOf l.sections) (λ (r : Reloc) (h : FieldFrom 0 l.sections r). field_of_all l.sections r h) l.relocs layered.fields;
      targets = subst (λ (n : ℕ). All (λ (r : Reloc). IsKnown n named r.target) l.relocs) count
          (subst (λ (n : ℕ). All (λ (r : Reloc). IsKnown k.sections n r.target) l.relocs) same layered.targets);
      apart = pairs_weaker Precedes AreApart l.relocs apart_of layered.ordered;
    }

told_module : (o : Option Fault) (m n : Module) → unless_faulty o m ≡ Ok n → m ≡ n
told_module None m n e = cc
told_module (Some f) m n e = cc

filled_is : (s : Standing) (assigned : List Assignment) (begin : Option Opening) (m : Module) → filled_in s assigned begin ≡ Ok m → module_in s ≡ m
unfolding filled_in
filled_is s assigned begin m e = told_module (first_of (faults (known_in s) s.sections.all assigned begin)) (module_in s) m e

-- the module that statements leave is formed
pub filled_formed : (s : Standing) (assigned : List Assignment) (begin : Option Opening) (m : Module) → All IsSoundSection s.sections.all → filled_in s assigned begin ≡ Ok m → Formed m
filled_formed s assigned begin m sound e = subst Formed (filled_is s assigned begin m e) (module_formed s sound)

-- and its relocations stand in the order of section and place
pub filled_ordered : (s : Standing) (assigned : List Assignment) (begin : Option Opening) (m : Module) → All IsSoundSection s.sections.all → filled_in s assigned begin ≡ Ok m → AllPairs Precedes m.relocs
filled_ordered s assigned begin m sound e = subst (λ (n : Module). AllPairs Precedes n.relocs) (filled_is s assigned begin m e) (laid_layered (known_in s) 0 s.sections.all sound).ordered

-- The bytes of parts in an image.
use Rattle.std.proofs.Common.{◌≡◌, ◌⊎◌, ℕ, ◌+◌, ◌-◌, ◌%◌, ◌<◌, ◌≤◌, ◌^◌, pos, List, [], ◌∷◌, ◌++◌, length, get_or, inl, inr, refl, ap, ◌∙◌, sym, subst, arith}
use Rattle.std.specs.Prelude.{All, Contains}
use Rattle.std.proofs.lemmas.Bool.{cases_lt}
use Rattle.std.proofs.lemmas.List.{get_or_append_left, get_or-append_right, length-append}
use Rattle.std.proofs.lemmas.List.Elements.{All-head, All-weaker}
use Rattle.byteorder.specs.Endian.{little_bytes}
use Rattle.byteorder.specs.Numbers.{length-bytes_low_first}
use Rattle.vax_asm_encode.specs.Bytes.{bytes_of, low_bytes, operand_bytes}
use Rattle.vax_asm_encode.specs.Fields.{filled, relative_reloc}
use Rattle.vax_asm_encode.specs.Operands.{branch_size}
use Rattle.vax_asm_first.specs.Fixups.{Fixup}
use Rattle.vax_asm_first.specs.declared.types.Origin.{Origin}
use Rattle.vax_asm_second.specs.Laid.{Known, Output, output}
use Rattle.vax_asm_sections.specs.Layout.{Part}
use Rattle.vax_flat.specs.Grammar.{Specifier, Literal, Register, Immediate, InMemory, Indexed, BranchBy}
use Rattle.vax_flat.specs.Operand.{plus}
use Rattle.vax_image.specs.declared.Base.{Base}
use Rattle.vax_image.specs.declared.Image.{Image}
use Rattle.vax_isa.specs.Rows.{IsBranchWidth, IsKind}
use Rattle.vax_isa.specs.declared.OperandKind.{OperandKind}
use Rattle.vax_lex.specs.declared.value.Value.TheVariants as value
use Rattle.vax_link.specs.Names.{module_at}
use Rattle.vax_link.specs.Values.{content as filled_with, distance, field_content, section_address, value_of}
use Rattle.vax_link_laws.proofs.Standing.{field_stands, own_stands}
use Rattle.vax_link_laws.specs.Holding.{HasSection, Holds, IsOwn, Misses}
use Rattle.vax_module.specs.Formed.{end_of as end_of_field, width_of}
use Rattle.vax_module.specs.declared.Module.{Module}
use Rattle.vax_module.specs.declared.Reloc.{Reloc}
use Rattle.vax_module.specs.declared.Section.{Section}
use Rattle.vax_asm_laws.specs.Counted.{part_length}
use Rattle.vax_asm_laws.specs.Lying.{IsBeside, IsOneOr, StandsAt}
use Rattle.vax_asm_laws.proofs.Laying.{output_length}
use Rattle.vax_disasm_laws.specs.Assembling.{IsLinked, Program, Shows}
use Rattle.vax_disasm_laws.proofs.Meant.{back_from, branch_narrowly, held_for, narrow_wide, number_for, operand_for}
use Rattle.vax_disasm_laws.proofs.Readings.{May}
use Rattle.vax_disasm_laws.proofs.Stated.{field_for}

pub shows_none : (image : Image) (address : ℕ) → Shows image address []
shows_none image address k less = absurd (omega arith)

shows_by : (image : Image) (address n k : ℕ) (first second : List ℕ) → n ≡ length first → k < length (first ++ second) → Shows image address first → Shows image (address + n) second → (k < n) ⊎ (n ≤ k) → Holds image (address + k) (get_or (first ++ second) k 0)
shows_by image address n k first second e less a b (inl low) =
    subst (λ (byte : ℕ). Holds image (address + k) byte) (sym (get_or_append_left first second 0 k (omega (arith, e)))) (a k (omega (arith, e)))
shows_by image address n k first second e less a b (inr high) =
    let place : address + n + (k - n) ≡ address + k = omega arith in
    subst (λ (byte : ℕ). Holds image (address + k) byte) (sym (get_or-append_right first second n k 0 (sym e) high))
    (subst (λ (at : ℕ). Holds image at (get_or second (k - n) 0)) place (b (k - n) (omega (arith, e, length-append first second))))

pub shows_both : (image : Image) (address n : ℕ) (first second : List ℕ) → n ≡ length first → Shows image address first → Shows image (address + n) second → Shows image address (first ++ second)
shows_both image address n first second e a b k less = shows_by image address n k first second e less a b (cases_lt k n)

-- a byte of a part of a section
byte_there : (front out back : List ℕ) (at k : ℕ) → length front ≡ at → k < length out → get_or (front ++ (out ++ back)) (at + k) 0 ≡ get_or out k 0
byte_there front out back at k e less =
    let place : at + k - at ≡ k = omega arith in
    get_or-append_right front (out ++ back) at (at + k) 0 e (omega arith) ∙ ap (λ (i : ℕ). get_or (out ++ back) i 0) place ∙ get_or_append_left out back 0 k less

none_of : (r : Reloc) → Contains [] r → ⊥
none_of r h = let less = h.1 in omega arith

misses : (i at n k : ℕ) (r : Reloc) → k < n → r.section ≡ i → Contains [] r ⊎ IsBeside at n r → (at + k < r.offset) ⊎ (end_of_field r ≤ at + k)
misses i at n k r less same (inl one) = absurd (none_of r one)
misses i at n k r less same (inr (inl before)) = inr (omega arith)
misses i at n k r less same (inr (inr behind)) = inl (omega arith)

-- ---- a displacement

low_little : (width n : ℕ) → IsBranchWidth width → n < 2 ^ 32 → little_bytes width n ≡ low_bytes width n
unfolding low_bytes
low_little width n (inl one) h = rw one refl
low_little width n (inr two) h = rw two refl

branch_long : (kind : OperandKind) (d : ℕ) → d < 2 ^ 32 → IsBranchWidth kind.width → length (bytes_of kind (BranchBy d)) ≡ kind.width
unfolding bytes_of
branch_long kind d h w = ap length (sym (low_little kind.width d w h)) ∙ length-bytes_low_first 0 kind.width d

relative_width : (width : ℕ) → IsBranchWidth width → width_of (relative_reloc (branch_size width)) ≡ width
relative_width width (inl one) = rw one refl
relative_width width (inr two) = rw two refl

leads : (base at width next d : ℕ) → base + at + width ≡ next → d < 2 ^ 32 → width ≤ 2 → distance ((base + at) % 2 ^ 32 + width) (plus next d) ≡ d
leads base at width next d e h few = omega arith

few_bytes : (width : ℕ) → IsBranchWidth width → width ≤ 2
few_bytes width (inl one) = omega arith
few_bytes width (inr two) = omega arith

filled_in : (width base at next d : ℕ) → IsBranchWidth width → base + at + width ≡ next → d < 2 ^ 32
    → filled_with (relative_reloc (branch_size width)) ((base + at) % 2 ^ 32) (plus next d) ≡ d
filled_in width base at next d (inl one) e h = rw one (leads base at 1 next d (rw one at e) h (omega arith))
filled_in width base at next d (inr two) e h = rw two (leads base at 2 next d (rw two at e) h (omega arith))

low_value : (n : ℕ) → n < 2 ^ 32 → (region : Base) (modules : List Module) (owner : ℕ) → value_of region modules owner (value.Absolute (pos n)) ≡ n
unfolding value_of
low_value n h region modules owner = omega arith

-- ---- the parts of a section

module _ (p : Program) (owner i : ℕ) (section : Section) (k : Known) (whole : IsLinked p) (has : HasSection p.modules owner i section) where
  abbrev pub relocs : List Reloc
  relocs = (module_at p.modules owner).relocs

  abbrev pub base : ℕ
  base = section_address p.region p.modules owner i

  abbrev pub IsShown : (at : ℕ) → Part Fixup → List ℕ → Type 0
  IsShown at part bytes = StandsAt k i at part section relocs → Shows p.image (base + at) bytes

  -- without a field that the linker fills in
  pub own_shown : (at : ℕ) (part : Part Fixup) (o : Output) → output k i at part ≡ o → o.relocs ≡ [] → IsShown at part o.bytes
  own_shown at part o e none s j less =
      let n : ℕ = part_length part in
      let long : length o.bytes ≡ n = ap (λ (x : Output). length x.bytes) (sym e) ∙ output_length k i at part in
      let no : (output k i at part).relocs ≡ [] = ap (λ (x : Output). x.relocs) e ∙ none in
      let beside : All (IsOneOr i at n []) relocs = subst (λ (these : List Reloc). All (IsOneOr i at n these) relocs) no s.beside in
      let bytes : section.bytes ≡ s.front ++ (o.bytes ++ s.back) = s.bytes ∙ ap (λ (x : Output). s.front ++ (x.bytes ++ s.back)) e in
      let own : IsOwn p.modules owner i (at + j) = All-weaker (IsOneOr i at n []) (Misses i (at + j)) (λ (r : Reloc) (h : IsOneOr i at n [] r) same. misses i at n j r (omega (arith, long)) same (h same)) relocs beside in
      let size : length section.bytes ≡ at + (length o.bytes + length s.back) = ap length bytes ∙ length-append s.front (o.bytes ++ s.back) ∙ omega (arith, s.place, length-append o.bytes s.back) in
      let there : Holds p.image (base + (at + j)) (get_or section.bytes (at + j) 0) = own_stands p.region p.modules p.image owner i (at + j) section whole.formed whole.linked has (omega (arith, size)) own in
      let byte : get_or section.bytes (at + j) 0 ≡ get_or o.bytes j 0 = ap (λ (l : List ℕ). get_or l (at + j) 0) bytes ∙ byte_there s.front o.bytes s.back at j s.place less in
      let place : base + (at + j) ≡ base + at + j = omega arith in
      subst (λ (b : ℕ). Holds p.image (base + at + j) b) byte (subst (λ (a : ℕ). Holds p.image a (get_or section.bytes (at + j) 0)) place there)

  -- where the instruction branches
  branch_shown : (origin : Origin) (kind : OperandKind) (next at d : ℕ) → IsKind kind → May kind (BranchBy d) → base + at + kind.width ≡ next → IsShown at (field_for origin kind next at (BranchBy d)) (bytes_of kind (BranchBy d))
  unfolding bytes_of filled
  branch_shown origin kind next at d is may e s j less =
      let r : Reloc = record { section = i; offset = at + 0; kind = relative_reloc (branch_size kind.width); target = value.Absolute (pos (plus next d)) } in
      let wide : d < 2 ^ 32 = narrow_wide (branch_size kind.width) d (branch_narrowly kind.width d may.0 may.1) in
      let fields : All (Contains relocs) (r ∷ []) = s.fields in
      let contained : Contains relocs r = All-head (Contains relocs) r [] fields in
      let width : width_of r.kind ≡ kind.width = relative_width kind.width may.0 in
      let low : length (low_bytes kind.width d) ≡ kind.width = branch_long kind d wide may.0 in
      let there : Holds p.image (base + (at + 0) + j) (get_or (little_bytes (width_of r.kind) (field_content p.region p.modules owner r)) j 0) =
      field_stands p.region p.modules p.image owner j r whole.formed whole.linked contained (omega (arith, width, low)) in
      let start : at + 0 ≡ at = omega arith in
      let target : value_of p.region p.modules owner r.target ≡ plus next d = low_value (plus next d) (omega arith) p.region p.modules owner in
      let content_is : field_content p.region p.modules owner r ≡ d =
      ap (filled_with r.kind ((base + (at + 0)) % 2 ^ 32)) target ∙ ap (λ (a : ℕ). filled_with r.kind ((base + a) % 2 ^ 32) (plus next d)) start ∙ filled_in kind.width base at next d may.0 e wide in
      let bytes : little_bytes (width_of r.kind) (field_content p.region p.modules owner r) ≡ low_bytes kind.width d =
      ap (λ (w : ℕ). little_bytes w (field_content p.region p.modules owner r)) width ∙ ap (little_bytes kind.width) content_is ∙ low_little kind.width d may.0 wide in
      let place : base + (at + 0) + j ≡ base + at + j = omega arith in
      subst (λ (a : ℕ). Holds p.image a (get_or (low_bytes kind.width d) j 0)) place (subst (λ (l : List ℕ). Holds p.image (base + (at + 0) + j) (get_or l j 0)) bytes there)

  held_shown : (origin : Origin) (kind : OperandKind) (next at : ℕ) (s : Specifier) → IsKind kind → May kind s → output k i at (field_for origin kind next at s) ≡ record { bytes = operand_bytes kind (operand_for s) (number_for s); relocs = []; faults = [] }
      → IsShown at (field_for origin kind next at s) (bytes_of kind s)
  held_shown origin kind next at s is may e =
      let shown : IsShown at (field_for origin kind next at s) (operand_bytes kind (operand_for s) (number_for s)) = own_shown at (field_for origin kind next at s) _ e refl in
      subst (λ (x : Specifier). IsShown at (field_for origin kind next at s) (bytes_of kind x)) (back_from kind s may) shown

  pub operand_shown : (origin : Origin) (kind : OperandKind) (next at : ℕ) (s : Specifier) → IsKind kind → May kind s → base + at + length (bytes_of kind s) ≡ next → IsShown at (field_for origin kind next at s) (bytes_of kind s)
  operand_shown origin kind next at (Literal n) is may e = held_shown origin kind next at (Literal n) is may (rw (held_for kind next i (at + 1) (Literal n) is.width may) refl)
  operand_shown origin kind next at (Register n) is may e = held_shown origin kind next at (Register n) is may refl
  operand_shown origin kind next at (Immediate n) is may e = held_shown origin kind next at (Immediate n) is may (rw (held_for kind next i (at + 1) (Immediate n) is.width may) refl)
  operand_shown origin kind next at (InMemory q) is may e = held_shown origin kind next at (InMemory q) is may (rw (held_for kind next i (at + 1) (InMemory q) is.width may) refl)
  operand_shown origin kind next at (Indexed q x) is may e = held_shown origin kind next at (Indexed q x) is may (rw (held_for kind next i (at + 2) (Indexed q x) is.width may) refl)
  operand_shown origin kind next at (BranchBy d) is may e = branch_shown origin kind next at d is may (let width : length (bytes_of kind (BranchBy d)) ≡ kind.width = branch_long kind d (narrow_wide (branch_size kind.width) d (branch_narrowly kind.width d may.0 may.1)) may.0 in omega (arith, e, width))

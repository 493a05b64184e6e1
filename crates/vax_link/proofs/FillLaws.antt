-- Fields that are filled in leave a section as long as it is.
use Rattle.std.proofs.Common.{◌≡◌, ℕ, zero, suc, ◌+◌, ◌<◌, ◌≤◌, Bool, true, false, cond, List, [], ◌∷◌, ◌++◌, length, take, drop, get_or, map, Option, Some, refl, sym, ap, subst, ◌∙◌, add-zero, arith}
use Rattle.std.specs.Prelude.{◌==◌, All, IfSome, slice_get}
use Rattle.std.specs.List.{fold}
use Rattle.byteorder.specs.Endian.{little_bytes}
use Rattle.byteorder.specs.Numbers.{length-bytes_low_first}
use Rattle.std.proofs.lemmas.Bool.{eqb-true}
use Rattle.std.proofs.lemmas.List.{length-append, length-take, length-drop, length-map, map-append}
use Rattle.std.proofs.lemmas.List.Elements.{All-head, All-tail}
use Rattle.std.proofs.lemmas.Option.{slice_get-get_or}
use Rattle.vax_module.specs.declared.Section.{Section}
use Rattle.vax_module.specs.declared.Reloc.{Reloc}
use Rattle.vax_module.specs.declared.Module.{Module}
use Rattle.vax_module.specs.Formed.{Formed, IsFieldOf, end_of, width_of}
use Rattle.vax_image.specs.declared.Base.{Base}
use Rattle.vax_link.specs.Layout.{pieces_of}
use Rattle.vax_link.specs.Placed.{IsFilling}
use Rattle.vax_link.specs.Values.{field_content, filled_from, filled_sections_from, with_field, with_reloc}

little_long : (width n : ℕ) → length (little_bytes width n) ≡ width
little_long width n = length-bytes_low_first 0 width n

pub field_long : (bytes : List ℕ) (offset width n : ℕ) → offset + width ≤ length bytes → length (with_field bytes offset width n) ≡ length bytes
unfolding with_field
field_long bytes offset width n within =
    let a = length-append (take offset bytes) (little_bytes width n ++ drop (offset + width) bytes) in
    let b = length-append (little_bytes width n) (drop (offset + width) bytes) in
    let c = length-take offset bytes in
    let d = length-drop (offset + width) bytes in
    let e = little_long width n in
    omega arith

one_long : (b : Bool) (bytes : List ℕ) (r : Reloc) (n len : ℕ) → length bytes ≡ len → (b ≡ true → r.offset + width_of r.kind ≤ len) → length (cond b (with_field bytes r.offset (width_of r.kind) n) bytes) ≡ len
one_long true bytes r n len same within = let h = within refl in field_long bytes r.offset (width_of r.kind) n (omega arith) ∙ same
one_long false bytes r n len same within = same

-- the fields of the section with this number lie within so many bytes
abbrev pub AreWithin : ℕ → ℕ → List Reloc → Type 0
AreWithin number len relocs = All (λ r. r.section ≡ number → r.offset + width_of r.kind ≤ len) relocs

pub section_long : (region : Base) (modules : List Module) (owner number len : ℕ) (bytes : List ℕ) (relocs : List Reloc) → length bytes ≡ len → AreWithin number len relocs → length (fold (with_reloc region modules owner number) bytes relocs) ≡ len
section_long region modules owner number len bytes [] same within = same
section_long region modules owner number len bytes (r ∷ relocs) same within =
    let P : Reloc → Type 0 = λ r. r.section ≡ number → r.offset + width_of r.kind ≤ len in
    let here : length (with_reloc region modules owner number bytes r) ≡ len =
    one_long (r.section == number) bytes r (field_content region modules owner r) len same (λ e. All-head P r relocs within (eqb-true r.section number e)) in
    section_long region modules owner number len (with_reloc region modules owner number bytes r) relocs here (All-tail P r relocs within)

-- each section's fields lie within its bytes, where the first has this number
abbrev pub AreIn : ℕ → List (List ℕ) → List Reloc → Type 0
AreIn number sections relocs = (k : ℕ) (d : List ℕ) → k < length sections → AreWithin (number + k) (length (get_or sections k d)) relocs

pub sections_long : (region : Base) (modules : List Module) (owner : ℕ) (relocs : List Reloc) (number : ℕ) (sections : List (List ℕ)) → AreIn number sections relocs
    → map length (filled_sections_from region modules owner relocs number sections) ≡ map length sections
unfolding filled_sections_from
sections_long region modules owner relocs number [] within = refl
sections_long region modules owner relocs number (bytes ∷ rest) within =
    let P : ℕ → Type 0 = λ n. AreWithin n (length bytes) relocs in
    let here = section_long region modules owner number (length bytes) bytes relocs refl (subst P (add-zero number) (within 0 bytes (omega arith))) in
    let next : AreIn (suc number) rest relocs = λ k d lt.
    let Q : ℕ → Type 0 = λ n. AreWithin n (length (get_or rest k d)) relocs in
    let same : number + suc k ≡ suc number + k = omega arith in
    subst Q same (within (suc k) d (omega arith)) in
    let others = sections_long region modules owner relocs (suc number) rest next in
    ap (λ n. n ∷ map length (filled_sections_from region modules owner relocs (suc number) rest)) here ∙ ap (λ ns. length bytes ∷ ns) others

-- ---- the fields of a module

bytes_at : (sections : List Section) (k : ℕ) (d : List ℕ) → k < length sections → (s : Section) → slice_get sections k ≡ Some s → get_or (map (λ t. t.bytes) sections) k d ≡ s.bytes
bytes_at [] k d lt s is = absurd (omega arith)
bytes_at (t ∷ sections) zero d lt s is = ap (λ (u : Section). u.bytes) (let e : t ≡ s = cc in e)
bytes_at (t ∷ sections) (suc k) d lt s is = bytes_at sections k d (omega arith) s is

blank : Section
blank = record { name = []; align = 1; write = false; bytes = []; storage = 0 }

pub fields_in : (sections : List Section) (relocs : List Reloc) → All (IsFieldOf sections) relocs → AreIn 0 (map (λ s. s.bytes) sections) relocs
fields_in sections relocs fields = λ k d lt j r at here.
    let x = get_or relocs j r in
    let field : IsFieldOf sections x = fields j r at in
    let s = get_or sections x.section blank in
    let is : slice_get sections x.section ≡ Some s = slice_get-get_or sections x.section blank field.0 in
    let within : end_of x ≤ length s.bytes = subst (λ (o : Option Section). IfSome o (λ t. end_of x ≤ length t.bytes)) is field.1 in
    let same : x.section ≡ k = omega (arith, here) in
    let there : slice_get sections k ≡ Some s = subst (λ (n : ℕ). slice_get sections n ≡ Some s) same is in
    let bytes = bytes_at sections k d (omega (arith, length-map sections (λ (t : Section). t.bytes))) s there in
    omega (arith, within, ap length bytes)

-- ---- all modules

lengths : (sections : List Section) → map length (map (λ s. s.bytes) sections) ≡ map (λ s. length s.bytes) sections
lengths [] = refl
lengths (s ∷ sections) = ap (λ ns. length s.bytes ∷ ns) (lengths sections)

pub filled_long : (region : Base) (modules : List Module) (owner : ℕ) (rest : List Module) → All Formed rest → IsFilling (pieces_of rest) (filled_from region modules owner rest)
unfolding filled_from
filled_long region modules owner [] formed = refl
filled_long region modules owner (m ∷ rest) formed =
    let long : Section → ℕ = λ s. length s.bytes in
    let front = filled_sections_from region modules owner m.relocs 0 (map (λ s. s.bytes) m.sections) in
    let back = filled_from region modules (suc owner) rest in
    let here = sections_long region modules owner m.relocs 0 (map (λ s. s.bytes) m.sections) (fields_in m.sections m.relocs (All-head Formed m rest formed).fields) in
    let next = filled_long region modules (suc owner) rest (All-tail Formed m rest formed) in
    map-append length front back ∙ ap (λ ns. ns ++ map length back) (here ∙ lengths m.sections) ∙ ap (λ ns. map long m.sections ++ ns) next ∙ sym (map-append long m.sections (pieces_of rest))

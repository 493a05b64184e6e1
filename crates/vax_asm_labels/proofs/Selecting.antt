-- A section is chosen among the sections as the code keeps them as among those that they mean.
use Rattle.std.proofs.Common.{◌≡◌, ◌+◌, ℕ, Bool, true, false, List, [], ◌∷◌, ◌++◌, length, map, Option, Some, None, Result, Ok, Err, refl, sym, ap, ◌∙◌}
use Rattle.std.proofs.Math.ListN.{get_or-map}
use Rattle.std.proofs.lemmas.List.{map-append, length-map}
use Rattle.std.specs.Prelude.{if◌then◌else◌, slice_index_or}
use Rattle.std.specs.Str.{bytes_eq}
use Rattle.vax_asm_sections.specs.Layout.{Section, Sections, begun, conflicts, made, numbered, selected, unnamed}
use Rattle.vax_asm_sections.specs.View.{sections_of}
use Rattle.vax_asm_sections.specs.declared.types.Attributes.{Attributes}
use Rattle.vax_asm_sections.specs.declared.types.Layout.{Layout}
use Rattle.vax_asm_sections.specs.declared.types.Refusal.{Refusal}
use Rattle.vax_asm_sections.specs.declared.types.Refusal.TheVariants.{Conflict}
use Rattle.vax_macro.specs.declared.error.FaultKind.TheVariants as fault
use Rattle.vax_asm_labels.specs.Naming.{chosen, next_block}
use Rattle.vax_asm_first.specs.Fixups as specs
use Rattle.vax_asm_first.specs.Standing.{Standing}
use Rattle.vax_asm_first.specs.View.{section_seen, sections_in, sections_seen}
use Rattle.vax_asm_first.specs.declared.types.Fixup.{Fixup}

abbrev seen : Result (Sections Fixup) Refusal → Result (Sections specs.Fixup) Refusal
seen (Ok s) = Ok (sections_seen s)
seen (Err r) = Err r

numbered_seen : (i : ℕ) (name : List ℕ) (all : List (Section Fixup)) → numbered i name all ≡ numbered i name (map section_seen all)
numbered_seen i name [] = refl
numbered_seen i name (s ∷ all) = ap (λ (o : Option ℕ). if bytes_eq s.name name then Some i else o) (numbered_seen (i + 1) name all)

either_seen : (b : Bool) (s : Sections Fixup) → seen (if b then Err Conflict else Ok s) ≡ (if b then Err Conflict else Ok (sections_seen s))
either_seen true s = refl
either_seen false s = refl

begun_seen : (name : List ℕ) (a : Attributes) (s : Sections Fixup) (o : Option ℕ) → seen (begun name a s o) ≡ begun name a (sections_seen s) o
begun_seen name a s (Some i) =
    either_seen (conflicts a (slice_index_or s.all i unnamed)) (record s { current = i })
    ∙ ap (λ (x : Section specs.Fixup). if conflicts a x then Err Conflict else Ok (record (sections_seen s) { current = i })) (sym (get_or-map section_seen s.all i unnamed))
begun_seen name a s None =
    ap (λ (l : List (Section specs.Fixup)). Ok (record { all = l; current = length s.all; total = s.total })) (map-append section_seen s.all (made name a ∷ []))
    ∙ ap (λ (n : ℕ). Ok (record (sections_seen s) { all = map section_seen s.all ++ made name a ∷ []; current = n })) (sym (length-map s.all section_seen))

selected_both : (name : List ℕ) (a : Attributes) (s : Sections Fixup) → seen (selected name a s) ≡ selected name a (sections_seen s)
unfolding selected
selected_both name a s = begun_seen name a s (numbered 0 name s.all) ∙ ap (begun name a (sections_seen s)) (numbered_seen 0 name s.all)

-- what stands with these sections
abbrev with : Standing → Sections specs.Fixup → Standing
with s sections = record s { scope = next_block s.keeps_block s.scope; sections = sections }

pub select_stands : (name : List ℕ) (a : Attributes) (s : Standing) (l m : Layout Fixup) → selected name a (sections_of l) ≡ Ok (sections_of m)
    → chosen s (selected name a (sections_in l)) ≡ Ok (with s (sections_in m))
select_stands name a s l m e = ap (chosen s) (sym (selected_both name a (sections_of l)) ∙ ap seen e)

pub select_fails : (name : List ℕ) (a : Attributes) (s : Standing) (l : Layout Fixup) (r : Refusal) → selected name a (sections_of l) ≡ Err r
    → chosen s (selected name a (sections_in l)) ≡ Err fault.Form
select_fails name a s l r e = ap (chosen s) (sym (selected_both name a (sections_of l)) ∙ ap seen e)

-- Sections with what the code keeps in them change as their meanings do.
use Rattle.std.proofs.Common.{◌≡◌, ◌<◌, ◌+◌, ◌-◌, ℕ, Bool, true, false, List, [], ◌∷◌, length, map, Result, Ok, Err, refl, sym, ap, subst, ◌∙◌}
use Rattle.std.proofs.lemmas.List.{get_or-map, map-append, map-set, length-set, length-map}
use Rattle.std.specs.Prelude.{Option, Some, None, if◌then◌else◌, slice_set, ◌^◌}
use Rattle.vax_asm_sections.specs.Layout.{Part, Zeros, Bytes, Field, Section, Sections, unnamed, current_of, longer, longer_by, is_absolute, only_counts, exceeds, place_in, refuses, with_part, put, gap, raised, with_raised, raise, aligned, set_back, with_set_back}
use Rattle.vax_asm_sections.specs.declared.types.Refusal.{Refusal}
use Rattle.vax_asm_sections.specs.declared.types.Refusal.TheVariants.{Absolute, TooLong}
use Rattle.vax_asm_sections.specs.View.{section_of, sections_of}
use Rattle.vax_asm_sections.specs.declared.types.Layout.{Layout}
use Rattle.vax_asm_first.specs.Standing.{Standing, fault_of, here_by, here_in, with_sections}
use Rattle.vax_asm_first.specs.View.{part_seen, section_seen, sections_seen, sections_in}
use Rattle.vax_asm_first.specs.Fixups as specs
use Rattle.vax_asm_first.specs.declared.types.Fixup.{Fixup}

abbrev seen : Result (Sections Fixup) Refusal → Result (Sections specs.Fixup) Refusal
seen (Ok s) = Ok (sections_seen s)
seen (Err r) = Err r

current_seen : (s : Sections Fixup) → s.current < length s.all → current_of (sections_seen s) ≡ section_seen (current_of s)
current_seen s h = get_or-map section_seen s.all s.current unnamed unnamed h

longer_seen_by : (n : ℕ) (part : Part Fixup) (s : Section Fixup) (o : Option ℕ) → section_seen (longer_by o n part s) ≡ longer_by o n (part_seen part) (section_seen s)
longer_seen_by n part s (Some at) = refl
longer_seen_by n part s None =
    ap (λ (l : List (Part specs.Fixup)). record { name = s.name; declared = s.declared; write = s.write; align = s.align; size = s.size + n; parts = l; counter = s.counter; overlaid = s.overlaid }) (map-append part_seen s.parts (part ∷ []))

longer_seen : (n : ℕ) (part : Part Fixup) (s : Section Fixup) → section_seen (longer n part s) ≡ longer n (part_seen part) (section_seen s)
longer_seen n part s = longer_seen_by n part s s.counter

part_added : (n : ℕ) (part : Part Fixup) (s : Sections Fixup) → s.current < length s.all → sections_seen (with_part n part s) ≡ with_part n (part_seen part) (sections_seen s)
part_added n part s h =
    ap (λ (l : List (Section specs.Fixup)). record { all = l; current = s.current; total = s.total + n })
    (map-set section_seen s.all s.current (longer n part (current_of s))
    ∙ ap (λ (x : Section specs.Fixup). slice_set (map section_seen s.all) s.current x)
    (longer_seen n part (current_of s) ∙ ap (λ (x : Section specs.Fixup). longer n (part_seen part) x) (sym (current_seen s h))))

either_seen : (b : Bool) (s : Sections Fixup) (t : Sections specs.Fixup) → sections_seen s ≡ t → seen (if b then Err TooLong else Ok s) ≡ (if b then Err TooLong else Ok t)
either_seen true s t e = refl
either_seen false s t e = ap (λ (x : Sections specs.Fixup). Ok x) e

refused_seen : (b : Bool) (r : Result (Sections Fixup) Refusal) (q : Result (Sections specs.Fixup) Refusal) → seen r ≡ q → seen (if b then Err Absolute else r) ≡ (if b then Err Absolute else q)
refused_seen true r q e = refl
refused_seen false r q e = e

refuses_seen : (x : Section Fixup) (part : Part Fixup) → refuses x part ≡ refuses (section_seen x) (part_seen part)
refuses_seen x (Zeros n) = refl
refuses_seen x (Bytes bytes) = refl
refuses_seen x (Field f) = refl

-- so many bytes more where the current section is this one
abbrev put_from : {F : Type 0} → ℕ → Part F → Section F → Sections F → Result (Sections F) Refusal
put_from n part x s = if refuses x part then Err Absolute else (if exceeds (place_in x) s.total n then Err TooLong else Ok (with_part n part s))

put_seen : (n : ℕ) (part : Part Fixup) (x : Section Fixup) (s : Sections Fixup) → s.current < length s.all → seen (put_from n part x s) ≡ put_from n (part_seen part) (section_seen x) (sections_seen s)
put_seen n part x s h =
    let long : Bool = exceeds (place_in x) s.total n in
    let t : Sections specs.Fixup = with_part n (part_seen part) (sections_seen s) in
    refused_seen (refuses x part) (if long then Err TooLong else Ok (with_part n part s)) (if long then Err TooLong else Ok t) (either_seen long (with_part n part s) t (part_added n part s h))
    ∙ ap (λ (b : Bool). if◌then◌else◌ {A = Result (Sections specs.Fixup) Refusal} b (Err Absolute) (if long then Err TooLong else Ok t)) (refuses_seen x part)

put_both : (n : ℕ) (part : Part Fixup) (s : Sections Fixup) → s.current < length s.all → seen (put n part s) ≡ put n (part_seen part) (sections_seen s)
unfolding put
put_both n part s h = put_seen n part (current_of s) s h ∙ ap (λ (x : Section specs.Fixup). put_from n (part_seen part) x (sections_seen s)) (sym (current_seen s h))

raised_seen : (k : ℕ) (s : Sections Fixup) → s.current < length s.all → sections_seen (with_raised k s) ≡ with_raised k (sections_seen s)
raised_seen k s h =
    ap (λ (l : List (Section specs.Fixup)). record { all = l; current = s.current; total = s.total })
    (map-set section_seen s.all s.current (raised k (current_of s))
    ∙ ap (λ (x : Section specs.Fixup). slice_set (map section_seen s.all) s.current (raised k x)) (sym (current_seen s h)))

raise_seen : (k : ℕ) (r : Result (Sections Fixup) Refusal) → ((u : Sections Fixup) → r ≡ Ok u → u.current < length u.all) → seen (raise k r) ≡ raise k (seen r)
raise_seen k (Ok u) h = ap (λ (x : Sections specs.Fixup). Ok x) (raised_seen k u (h u refl))
raise_seen k (Err refusal) h = refl

either_within : (b c : Bool) (v u : Sections Fixup) → v.current < length v.all → (let r : Result (Sections Fixup) Refusal = if b then Err Absolute else (if c then Err TooLong else Ok v) in r) ≡ Ok u → u.current < length u.all
either_within true c v u h e = absurd cc
either_within false true v u h e = absurd cc
either_within false false v u h e = let same : v ≡ u = cc in subst (λ (x : Sections Fixup). x.current < length x.all) same h

-- an alignment where the current section is this one
abbrev aligned_from : ℕ → Section specs.Fixup → Sections specs.Fixup → Result (Sections specs.Fixup) Refusal
aligned_from k x s =
    let n = gap (place_in x) (2 ^ k) in
    raise k (put_from n (Zeros n) x s)

aligned_both : (k : ℕ) (s : Sections Fixup) → s.current < length s.all → seen (aligned k s) ≡ aligned k (sections_seen s)
unfolding put aligned
aligned_both k s h =
    let n = gap (place_in (current_of s)) (2 ^ k) in
    let within : s.current < length (slice_set s.all s.current (longer n (Zeros n) (current_of s))) = rw (length-set s.all s.current (longer n (Zeros n) (current_of s))) h in
    raise_seen k (put_from n (Zeros n) (current_of s) s) (λ u e. either_within (refuses (current_of s) (Zeros n)) (exceeds (place_in (current_of s)) s.total n) (with_part n (Zeros n) s) u within e)
    ∙ ap (raise k) (put_seen n (Zeros n) (current_of s) s h)
    ∙ ap (λ (x : Section specs.Fixup). aligned_from k x (sections_seen s)) (sym (current_seen s h))

within : (l : Layout Fixup) → (sections_of l).current < length (sections_of l).all
within l = rw (length-map l.sections.items section_of) l.in_range

pub size_seen : (l : Layout Fixup) → (current_of (sections_in l)).size ≡ (current_of (sections_of l)).size
size_seen l = ap (λ (x : Section specs.Fixup). x.size) (current_seen (sections_of l) (within l))

pub counting_seen : (l : Layout Fixup) → only_counts (current_of (sections_in l)) ≡ only_counts (current_of (sections_of l))
counting_seen l = ap (λ (x : Section specs.Fixup). only_counts x) (current_seen (sections_of l) (within l))

pub absolute_seen : (l : Layout Fixup) → is_absolute (current_of (sections_in l)) ≡ is_absolute (current_of (sections_of l))
absolute_seen l = ap (λ (x : Section specs.Fixup). is_absolute x) (current_seen (sections_of l) (within l))

pub place_seen : (l : Layout Fixup) → place_in (current_of (sections_in l)) ≡ place_in (current_of (sections_of l))
place_seen l = ap (λ (x : Section specs.Fixup). place_in x) (current_seen (sections_of l) (within l))

pub name_seen : (l : Layout Fixup) → (current_of (sections_in l)).name ≡ (current_of (sections_of l)).name
name_seen l = ap (λ (x : Section specs.Fixup). x.name) (current_seen (sections_of l) (within l))

here_either : (a b : Bool) (section at place : ℕ) → a ≡ b → at ≡ place → here_by b section place ≡ here_by a section at
here_either a b section at place is same = rw (is, same) refl

pub here_seen : (l : Layout Fixup) → here_in (sections_in l) ≡ here_in (sections_of l)
here_seen l =
    here_either (is_absolute (current_of (sections_of l))) (is_absolute (current_of (sections_in l))) (sections_of l).current (place_in (current_of (sections_of l))) (place_in (current_of (sections_in l))) (sym (absolute_seen l)) (sym (place_seen l))

back_seen : (to : ℕ) (x : Section Fixup) (s : Sections Fixup) → current_of (sections_seen s) ≡ section_seen x
    → sections_seen (record { all = slice_set s.all s.current (set_back to x); current = s.current; total = s.total - (place_in x - to) }) ≡ with_set_back to (sections_seen s)
back_seen to x s is =
    ap (λ (l : List (Section specs.Fixup)). record { all = l; current = s.current; total = s.total - (place_in x - to) }) (map-set section_seen s.all s.current (set_back to x))
    ∙ ap (λ (y : Section specs.Fixup). record { all = slice_set (map section_seen s.all) s.current (set_back to y); current = s.current; total = s.total - (place_in y - to) }) (sym is)

-- what stands with these sections
abbrev with : Standing → Sections specs.Fixup → Standing
with s sections = record s { sections = sections }

pub put_stands : (n : ℕ) (part : Part Fixup) (s : Standing) (l m : Layout Fixup) → put n part (sections_of l) ≡ Ok (sections_of m)
    → with_sections s (put n (part_seen part) (sections_in l)) ≡ Ok (with s (sections_in m))
put_stands n part s l m e = ap (with_sections s) (sym (put_both n part (sections_of l) (within l)) ∙ ap seen e)

pub put_fails : (n : ℕ) (part : Part Fixup) (s : Standing) (l : Layout Fixup) (r : Refusal) → put n part (sections_of l) ≡ Err r
    → with_sections s (put n (part_seen part) (sections_in l)) ≡ Err (fault_of r)
put_fails n part s l r e = ap (with_sections s) (sym (put_both n part (sections_of l) (within l)) ∙ ap seen e)

pub align_stands : (k : ℕ) (s : Standing) (l m : Layout Fixup) → aligned k (sections_of l) ≡ Ok (sections_of m)
    → with_sections s (aligned k (sections_in l)) ≡ Ok (with s (sections_in m))
align_stands k s l m e = ap (with_sections s) (sym (aligned_both k (sections_of l) (within l)) ∙ ap seen e)

pub align_fails : (k : ℕ) (s : Standing) (l : Layout Fixup) (r : Refusal) → aligned k (sections_of l) ≡ Err r → with_sections s (aligned k (sections_in l)) ≡ Err (fault_of r)
align_fails k s l r e = ap (with_sections s) (sym (aligned_both k (sections_of l) (within l)) ∙ ap seen e)

pub back_stands : (to : ℕ) (l m : Layout Fixup) → with_set_back to (sections_of l) ≡ sections_of m → with_set_back to (sections_in l) ≡ sections_in m
back_stands to l m e = sym (back_seen to (current_of (sections_of l)) (sections_of l) (current_seen (sections_of l) (within l))) ∙ ap sections_seen e

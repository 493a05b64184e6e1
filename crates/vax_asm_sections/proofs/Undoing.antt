-- How the sections go back to their mark.
use Rattle.std.proofs.Common.{◌≡◌, ℕ, ◌<◌, ◌+◌, ◌-◌, List, [], ◌∷◌, ◌++◌, length, map, take, slice_index_or, slice_set, Bool, true, false, Option, Some, None, refl, sym, ap, subst, ◌∙◌, arith}
use Rattle.std.specs.Prelude.{if◌then◌else◌}
use Rattle.std.proofs.lemmas.List.{length-append, map-set, get_or-set_same, set-set, set-get_or, length-map}
use Rattle.std.proofs.Math.Seq.{take-append_seam}
use Rattle.vax_asm_sections.proofs.Changing.{current_seen, part_added}
use Rattle.vax_asm_sections.specs.Journal.{Notes, NotesIn, marked_in, parts_before, shorter, undo, undone}
use Rattle.vax_asm_sections.specs.Layout.{Part, Section, Sections, current_of, longer, longer_by, unnamed, with_part}
use Rattle.vax_asm_sections.specs.View.{section_of}
use Rattle.vax_asm_sections.specs.declared.journal.Journal.{Journal}
use Rattle.vax_asm_sections.specs.declared.journal.Put.{Put}
use Rattle.vax_asm_sections.specs.declared.types.Building.{Building}

-- the last of all that was put is undone first
pub undone_last : {F : Type 0} → (puts : List Put) (put : Put) (s : Sections F) → undone (puts ++ put ∷ []) s ≡ undone puts (undo put s)
unfolding undone
undone_last [] put s = refl
undone_last (p ∷ puts) put s = ap (undo p) (undone_last puts put s)

pub one_undone : {F : Type 0} → (a b : Journal) (puts : List Put) (put : Put) (now next first : Sections F) → a ≡ b → puts ≡ b.puts.items ++ put ∷ [] → next ≡ undo put now → undone puts now ≡ first → undone a.puts.items next ≡ first
one_undone a b puts put now next first same last is before =
    ap (λ (j : Journal). undone j.puts.items next) same
    ∙ ap (undone b.puts.items) is
    ∙ sym (undone_last b.puts.items put now)
    ∙ ap (λ (l : List Put). undone l now) (sym last)
    ∙ before

pub none_left : {F : Type 0} → (puts : List Put) (s : Sections F) → length puts ≡ 0 → undone puts s ≡ s
unfolding undone
none_left [] s e = refl
none_left (p ∷ puts) s e = absurd (omega (arith, e))

there : {X : Type 0} (b : Bool) (x m : X) → (if b then Some x else None) ≡ Some m → (b ≡ true) × (x ≡ m)
there true x m e = (refl, ap (λ (o : Option _). elim o [ Some z ↦ z | None ↦ x ]) e)
there false x m e = absurd (cc)

there_too : {X : Type 0} (b : Bool) (x m : X) → b ≡ true → x ≡ m → (if b then Some x else None) ≡ Some m
there_too true x m is e = ap Some e
there_too false x m is e = absurd (cc)

-- what is noted keeps the mark
pub noted : {F : Type 0} → (put : Put) (a b : Journal) (old new m : Sections F) → Notes put a b → (b.marked ≡ true → undo put new ≡ old) → marked_in b new ≡ Some m → marked_in a old ≡ Some m
noted put a b old new m notes back e =
    let is = there b.marked (undone b.puts.items new) m e in
    let before = notes is.0 in
    there_too a.marked (undone a.puts.items old) m before.0
    (ap (undone a.puts.items) (sym (back is.0)) ∙ sym (undone_last a.puts.items put new) ∙ ap (λ puts. undone puts new) (sym before.1) ∙ is.1)

-- what is marked now, and what is got by undoing all
pub undone_is : {F : Type 0} → (j : Journal) (s m : Sections F) → j.marked ≡ true → m ≡ undone j.puts.items s → marked_in j s ≡ Some m
undone_is j s m is e = there_too j.marked (undone j.puts.items s) m is (sym e)

pub marked_here : {F : Type 0} → (j : Journal) (s : Sections F) → j.marked ≡ true → j.puts.items ≡ [] → marked_in j s ≡ Some s
marked_here j s is none = undone_is j s s is (sym (none_left j.puts.items s (ap length none)))

-- the last of a list is taken away
last_taken : {X : Type 0} (xs : List X) (x : X) → take (length (xs ++ x ∷ []) - 1) (xs ++ x ∷ []) ≡ xs
last_taken xs x =
    let at : length (xs ++ x ∷ []) - 1 ≡ length xs = omega (arith, length-append xs (x ∷ [])) in
    ap (λ (k : ℕ). take k (xs ++ x ∷ [])) at ∙ take-append_seam xs (x ∷ [])

-- a section with something put into it is as before again
abbrev as_it_was : {F : Type 0} → Option ℕ → ℕ → Section F → Section F
as_it_was counter size s = record s { size = size; parts = parts_before counter s.parts; counter = counter }

shorter_by : {F : Type 0} (counter : Option ℕ) (n : ℕ) (part : Part F) (s : Section F) → as_it_was counter s.size (longer_by counter n part s) ≡ record s { counter = counter }
shorter_by (Some at) n part s = refl
shorter_by {F} None n part s = ap (λ (l : List (Part F)). record s { parts = l; counter = None }) (last_taken s.parts part)

shorter_again : {F : Type 0} (put : Put) (n : ℕ) (part : Part F) (s : Section F) → put.size ≡ s.size → put.counter ≡ s.counter → shorter put (longer n part s) ≡ s
shorter_again put n part s size counter =
    ap (λ k. as_it_was put.counter k (longer n part s)) size ∙ ap (λ o. as_it_was o s.size (longer n part s)) counter ∙ shorter_by s.counter n part s

put_undone : {F : Type 0} (put : Put) (n : ℕ) (part : Part F) (s : Sections F) → s.current < length s.all → put.size ≡ (current_of s).size → put.counter ≡ (current_of s).counter → put.total ≡ s.total → undo put (with_part n part s) ≡ s
put_undone {F} put n part s h size counter total =
    let x = current_of s in
    let y = longer n part x in
    let all = slice_set s.all s.current y in
    let back : shorter put (slice_index_or all s.current unnamed) ≡ x = ap (shorter put) (get_or-set_same s.all s.current y unnamed h) ∙ shorter_again put n part x size counter in
    ap (λ (l : List (Section F)). record s { all = l; total = put.total }) (ap (slice_set all s.current) back ∙ set-set s.all s.current y x ∙ set-get_or s.all s.current unnamed)
    ∙ ap (λ (k : ℕ). record s { total = k }) total

-- what is put keeps the mark
pub put_keeps : {F : Type 0} (a b : Journal) (n : ℕ) (part : Part F) (old new m : Sections F) → old.current < length old.all → NotesIn (current_of old) old.total a b → new ≡ with_part n part old
    → marked_in b new ≡ Some m → marked_in a old ≡ Some m
put_keeps a b n part old new m h notes is e =
    let marked = (there b.marked (undone b.puts.items new) m e).0 in
    let (put, size, counter, total, note) = notes marked in
    noted put a b old new m note (λ yes. ap (undo put) is ∙ put_undone put n part old h size counter total) e

pub added_keeps : {F : Type 0} (a b : Journal) (xs : List (Building F)) (i total n : ℕ) (part : Part F) (seen x y : Building F) (m : Sections F) → i < length xs → seen ≡ slice_index_or xs i seen → x ≡ slice_index_or xs i x
    → section_of y ≡ longer n part (section_of x) → NotesIn (section_of seen) total a b
    → marked_in b (record { all = map section_of (slice_set xs i y); current = i; total = total + n }) ≡ Some m → marked_in a (record { all = map section_of xs; current = i; total = total }) ≡ Some m
added_keeps {F} a b xs i total n part seen x y m h sees is e notes =
    let old : Sections F = record { all = map section_of xs; current = i; total = total } in
    let P : Section F → Type 0 = λ s. NotesIn s total a b in
    let now : section_of seen ≡ current_of old = ap section_of sees ∙ sym (current_seen xs i seen h) in
    let within : i < length (map section_of xs) = omega (arith, h, length-map xs section_of) in
    let all = part_added xs i n part x y h (e ∙ ap (λ (b : Building F). longer n part (section_of b)) is) in
    put_keeps a b n part old (record { all = map section_of (slice_set xs i y); current = i; total = total + n }) m within (subst P now notes) (ap (λ (l : List (Section F)). record { all = l; current = i; total = total + n }) all)

-- a section that is shorter
pub part_taken : {F : Type 0} (xs : List (Building F)) (i : ℕ) (put : Put) (x y : Building F) → i < length xs → x ≡ slice_index_or xs i x → section_of y ≡ shorter put (section_of x)
    → map section_of (slice_set xs i y) ≡ slice_set (map section_of xs) i (shorter put (slice_index_or (map section_of xs) i unnamed))
part_taken {F} xs i put x y h is e =
    map-set section_of xs i y ∙ ap (slice_set (map section_of xs) i) (e ∙ ap (λ (b : Building F). shorter put (section_of b)) is ∙ ap (shorter put) (sym (current_seen xs i x h)))

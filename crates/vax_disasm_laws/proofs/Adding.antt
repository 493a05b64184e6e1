-- Parts that are added to a section one behind another.
use Rattle.std.proofs.Common.{◌≡◌, ◌<◌, ◌≤◌, ◌+◌, ℕ, false, List, [], ◌∷◌, ◌++◌, length, Option, Some, None, refl, sym, ap, subst, ◌∙◌, arith, append_assoc}
use Rattle.std.proofs.lemmas.Bool.Decides.{nat_tests}
use Rattle.std.proofs.lemmas.List.{append-nil, get_or-set_same, length-set}
use Rattle.vax_asm_first.specs.Faults.{lowest}
use Rattle.vax_asm_first.specs.Fixups.{Fixup}
use Rattle.vax_asm_first.specs.Progress.{Progress, added, begun}
use Rattle.vax_asm_first.proofs.Putting.{IsData, longer_held, put_made, put_held, put_room}
use Rattle.vax_asm_first.specs.Standing.{Standing}
use Rattle.vax_asm_instruction.specs.Stating.{Reached, behind}
use Rattle.vax_asm_sections.specs.Layout.{Part, Section, Sections, current_of, exceeds, longer, module_limit, section_limit, unnamed, with_part}
use Rattle.vax_macro.specs.declared.error.FaultKind.{FaultKind}
use Rattle.vax_asm_laws.specs.Counted.{end_of, part_length}

-- ---- what parts make of what was reached

abbrev pub reached_with : Part Fixup → Reached → Reached
reached_with p r = behind r.progress.fault (record { at = r.at + part_length p; progress = added (part_length p) p r.progress.standing })

abbrev pub adds : List (Part Fixup) → Reached → Reached
adds [] r = r
adds (p ∷ parts) r = adds parts (reached_with p r)

-- where a statement begins
abbrev pub begun_at : Standing → Reached
begun_at s = record { at = (current_of s.sections).size; progress = begun s }

-- the sections with parts more
abbrev pub put_all : List (Part Fixup) → Sections Fixup → Sections Fixup
put_all [] s = s
put_all (p ∷ parts) s = put_all parts (with_part (part_length p) p s)

abbrev pub standing_with : List (Part Fixup) → Standing → Standing
standing_with parts s = record s { sections = put_all parts s.sections }

-- The first of them is data.
abbrev pub HasData : List (Part Fixup) → Type 0
HasData [] = ⊥
HasData (p ∷ parts) = IsData p

-- ---- without a fault

lowest_none : (a b : Option FaultKind) → lowest a b ≡ None → (a ≡ None) × (b ≡ None)
lowest_none None b h = (refl, h)
lowest_none (Some a) None h = absurd cc
lowest_none (Some a) (Some b) h = absurd cc

pub adds_before : (parts : List (Part Fixup)) (r : Reached) → (adds parts r).progress.fault ≡ None → r.progress.fault ≡ None
adds_before [] r h = h
adds_before (p ∷ parts) r h = (lowest_none r.progress.fault (added (part_length p) p r.progress.standing).fault (adds_before parts (reached_with p r) h)).0

pub adds_made : (parts : List (Part Fixup)) (r : Reached) → (adds parts r).progress.fault ≡ None → (adds parts r).progress.standing ≡ standing_with parts r.progress.standing
adds_made [] r h = refl
adds_made (p ∷ parts) r h =
    let s : Standing = r.progress.standing in
    let one = lowest_none r.progress.fault (added (part_length p) p s).fault (adds_before parts (reached_with p r) h) in
    adds_made parts (reached_with p r) h ∙ ap (standing_with parts) (put_made (part_length p) p s one.1)

pub adds_held : (parts : List (Part Fixup)) (s : Standing) → HasData parts → (adds parts (begun_at s)).progress.fault ≡ None → (current_of s.sections).counter ≡ None
adds_held [] s sort h = absurd sort
adds_held (p ∷ parts) s sort h =
    put_held (part_length p) p s sort (lowest_none None (added (part_length p) p s).fault (adds_before parts (reached_with p (begun_at s)) h)).1

-- ---- with room

abbrev pub HasRoom : ℕ → Sections Fixup → Type 0
HasRoom n s = ((current_of s).size + n ≤ section_limit) × (s.total + n ≤ module_limit) × ((current_of s).counter ≡ None)

room_is : (n : ℕ) (s : Sections Fixup) → HasRoom n s → exceeds (current_of s).size s.total n ≡ false
room_is n s h = let first = h.0 in let second = h.1 in grind (arith, nat_tests)

room_fits : (n : ℕ) (p : Part Fixup) (s : Standing) → HasRoom n s.sections → added n p s ≡ record { fault = None; standing = record s { sections = with_part n p s.sections } }
room_fits n p s h = put_room n p s h.2 (room_is n s.sections h)

current_longer : (n : ℕ) (p : Part Fixup) (s : Sections Fixup) → s.current < length s.all → current_of (with_part n p s) ≡ longer n p (current_of s)
current_longer n p s h = get_or-set_same s.all s.current (longer n p (current_of s)) unnamed h

within_part : (n : ℕ) (p : Part Fixup) (s : Sections Fixup) → s.current < length s.all → (with_part n p s).current < length (with_part n p s).all
within_part n p s h = rw (length-set s.all s.current (longer n p (current_of s))) h

end_least : (at : ℕ) (parts : List (Part Fixup)) → at ≤ end_of at parts
end_least at [] = omega arith
end_least at (p ∷ parts) = omega (arith, end_least (at + part_length p) parts)

end_first : (p : Part Fixup) (parts : List (Part Fixup)) → end_of 0 (p ∷ parts) ≡ end_of (part_length p) parts
end_first p parts = ap (λ (n : ℕ). end_of n parts) (let none : 0 + part_length p ≡ part_length p = omega arith in none)

end_from : (at : ℕ) (parts : List (Part Fixup)) → at + end_of 0 parts ≡ end_of at parts
end_from at [] = omega arith
end_from at (p ∷ parts) =
    let first : part_length p + end_of 0 parts ≡ end_of (part_length p) parts = end_from (part_length p) parts in
    let second : at + part_length p + end_of 0 parts ≡ end_of (at + part_length p) parts = end_from (at + part_length p) parts in
    omega (arith, end_first p parts)

pub adds_fits : (parts : List (Part Fixup)) (r : Reached) → r.progress.fault ≡ None → r.progress.standing.sections.current < length r.progress.standing.sections.all → HasRoom (end_of 0 parts) r.progress.standing.sections → (adds parts r).progress.fault ≡ None
adds_fits [] r e within room = e
adds_fits (p ∷ parts) r e within room =
    let s : Standing = r.progress.standing in
    let n : ℕ = part_length p in
    let all : n + end_of 0 parts ≡ end_of n parts = end_from n parts in
    let whole : end_of 0 (p ∷ parts) ≡ end_of n parts = end_first p parts in
    let least : n ≤ end_of n parts = end_least n parts in
    let one : added n p s ≡ record { fault = None; standing = record s { sections = with_part n p s.sections } } = room_fits n p s (omega (arith, room.0, whole, least), omega (arith, room.1, whole, least), room.2) in
    let x : Section Fixup = current_of s.sections in
    let next : current_of (with_part n p s.sections) ≡ record x { size = x.size + n; parts = x.parts ++ p ∷ [] } = current_longer n p s.sections within ∙ longer_held n p x room.2 in
    let made : (reached_with p r).progress ≡ record { fault = None; standing = record s { sections = with_part n p s.sections } } = rw (e, one) refl in
    let size : (current_of (with_part n p s.sections)).size ≡ (current_of s.sections).size + n = ap (λ (y : Section Fixup). y.size) next in
    adds_fits parts (reached_with p r) (ap (λ (q : Progress). q.fault) made)
    (subst (λ (q : Progress). q.standing.sections.current < length q.standing.sections.all) (sym made) (within_part n p s.sections within))
    (subst (λ (q : Progress). HasRoom (end_of 0 parts) q.standing.sections) (sym made) (omega (arith, room.0, size, all, whole), omega (arith, room.1, all, whole), ap (λ (y : Section Fixup). y.counter) next ∙ room.2))

-- ---- what the current section has then

pub record Longer (parts : List (Part Fixup)) (s t : Sections Fixup) : Type 0 where
  pub current : t.current ≡ s.current
  pub count : length t.all ≡ length s.all
  pub parts_are : (current_of t).parts ≡ (current_of s).parts ++ parts
  pub size : (current_of t).size ≡ end_of (current_of s).size parts

pub put_longer : (parts : List (Part Fixup)) (s : Sections Fixup) → s.current < length s.all → (current_of s).counter ≡ None → Longer parts s (put_all parts s)
put_longer [] s h e = record { current = refl; count = refl; parts_are = sym (append-nil (current_of s).parts); size = refl }
put_longer (p ∷ parts) s h e =
    let n : ℕ = part_length p in
    let next : Sections Fixup = with_part n p s in
    let x : Section Fixup = current_of s in
    let section : current_of next ≡ record x { size = x.size + n; parts = x.parts ++ p ∷ [] } = current_longer n p s h ∙ longer_held n p x e in
    let rest : Longer parts next (put_all parts next) = put_longer parts next (within_part n p s h) (ap (λ (y : Section Fixup). y.counter) section ∙ e) in
    record {
      current = rest.current;
      count = rest.count ∙ length-set s.all s.current (longer n p (current_of s));
      parts_are = rest.parts_are ∙ ap (λ (x : Section Fixup). x.parts ++ parts) section ∙ append_assoc (current_of s).parts (p ∷ []) parts;
      size = rest.size ∙ ap (λ (x : Section Fixup). end_of x.size parts) section;
    }

-- What has no fault is added to the current section.
use Rattle.std.proofs.Common.{◌≡◌, ◌+◌, ℕ, Bool, true, false, [], ◌∷◌, ◌++◌, Option, Some, None, Ok, Err, refl, ap, ◌∙◌}
use Rattle.std.specs.Prelude.{if◌then◌else◌, is_some, unwrap_or}
use Rattle.vax_asm_first.specs.Fixups.{Fixup}
use Rattle.vax_asm_first.specs.Progress.{added, after_change}
use Rattle.vax_asm_first.specs.Standing.{Standing, with_sections}
use Rattle.vax_asm_sections.specs.Layout.{Part, Zeros, Bytes, Field, Section, current_of, exceeds, longer, longer_by, place_in, put, refuses, with_part}
use Rattle.vax_asm_sections.specs.declared.types.Refusal.TheVariants.{Absolute, TooLong}

abbrev IsPut : ℕ → Part Fixup → Standing → Type 0
IsPut n p s = (added n p s).standing ≡ record s { sections = with_part n p s.sections }

put_by : (n : ℕ) (p : Part Fixup) (s : Standing) (a b : Bool) → (after_change s (with_sections s (if a then Err Absolute else (if b then Err TooLong else Ok (with_part n p s.sections))))).fault ≡ None
    → ((after_change s (with_sections s (if a then Err Absolute else (if b then Err TooLong else Ok (with_part n p s.sections))))).standing ≡ record s { sections = with_part n p s.sections }) × (a ≡ false)
put_by n p s true b h = absurd cc
put_by n p s false true h = absurd cc
put_by n p s false false h = (refl, refl)

put_both : (n : ℕ) (p : Part Fixup) (s : Standing) → (added n p s).fault ≡ None → IsPut n p s × (refuses (current_of s.sections) p ≡ false)
unfolding put
put_both n p s h = put_by n p s (refuses (current_of s.sections) p) (exceeds (place_in (current_of s.sections)) s.sections.total n) h

pub put_made : (n : ℕ) (p : Part Fixup) (s : Standing) → (added n p s).fault ≡ None → (added n p s).standing ≡ record s { sections = with_part n p s.sections }
put_made n p s h = (put_both n p s h).0

-- what isn't room
abbrev pub IsData : Part Fixup → Type 0
IsData (Zeros n) = ⊥
IsData (Bytes bytes) = Unit {0}
IsData (Field f) = Unit {0}

none_counted : (o : Option ℕ) → is_some o ≡ false → o ≡ None
none_counted None h = refl
none_counted (Some at) h = absurd cc

data_held : (x : Section Fixup) (p : Part Fixup) → IsData p → refuses x p ≡ false → x.counter ≡ None
data_held x (Zeros n) sort h = absurd sort
data_held x (Bytes bytes) sort h = none_counted x.counter h
data_held x (Field f) sort h = none_counted x.counter h

-- where data was added, the section doesn't only count
pub put_held : (n : ℕ) (p : Part Fixup) (s : Standing) → IsData p → (added n p s).fault ≡ None → (current_of s.sections).counter ≡ None
put_held n p s sort h = data_held (current_of s.sections) p sort (put_both n p s h).1

none_refused : (x : Section Fixup) (p : Part Fixup) → x.counter ≡ None → refuses x p ≡ false
none_refused x (Zeros n) e = refl
none_refused x (Bytes bytes) e = ap is_some e
none_refused x (Field f) e = ap is_some e

-- what one that doesn't only count has room for is added
pub put_room : (n : ℕ) (p : Part Fixup) (s : Standing) → (current_of s.sections).counter ≡ None → exceeds (current_of s.sections).size s.sections.total n ≡ false
    → added n p s ≡ record { fault = None; standing = record s { sections = with_part n p s.sections } }
unfolding put
put_room n p s e room =
    let x : Section Fixup = current_of s.sections in
    let long : exceeds (place_in x) s.sections.total n ≡ false = ap (λ (o : Option ℕ). exceeds (unwrap_or o x.size) s.sections.total n) e ∙ room in
    ap (λ (a : Bool). after_change s (with_sections s (if a then Err Absolute else (if exceeds (place_in x) s.sections.total n then Err TooLong else Ok (with_part n p s.sections))))) (none_refused x p e)
    ∙ ap (λ (b : Bool). after_change s (with_sections s (if b then Err TooLong else Ok (with_part n p s.sections)))) long

-- one that doesn't only count has the bytes
pub longer_held : (n : ℕ) (p : Part Fixup) (x : Section Fixup) → x.counter ≡ None → longer n p x ≡ record x { size = x.size + n; parts = x.parts ++ p ∷ [] }
longer_held n p x is = ap (λ (o : Option ℕ). longer_by o n p x) is

-- Sections whose bytes are counted stay so where parts come behind theirs.
use Rattle.std.proofs.Common.{◌≡◌, ◌<◌, ◌+◌, ◌-◌, ℕ, suc, Bool, true, false, List, [], ◌∷◌, ◌++◌, length, Option, Some, None, Result, Ok, Err, refl, sym, ap, subst, ◌∙◌, arith, append_assoc}
use Rattle.std.proofs.lemmas.Bool.Decides.{nat_tests}
use Rattle.std.proofs.lemmas.List.{append-nil, get_or_append_left, get_or-set_other, get_or-set_same, length-append, length-set}
use Rattle.std.proofs.lemmas.List.Elements.{All-append, All-cons, All-nil, All-set}
use Rattle.std.specs.Prelude.{◌==◌, ◌≢◌, ◌^◌, if◌then◌else◌, slice_index_or, slice_set}
use Rattle.std.specs.Str.{bytes_eq}
use Rattle.vax_asm_sections.specs.Layout.{Part, Zeros, Section, Sections, aligned, begun, conflicts, current_of, exceeds, gap, longer, longer_by, made, numbered, place_in, put, raise, refuses, raised, selected, set_back, unnamed, with_part, with_raised, with_set_back}
use Rattle.vax_asm_sections.specs.declared.types.Attributes.{Attributes}
use Rattle.vax_asm_sections.specs.declared.types.Refusal.{Refusal}
use Rattle.vax_asm_sections.specs.declared.types.Refusal.TheVariants.{Absolute, Conflict, TooLong}
use Rattle.vax_asm_first.specs.Fixups.{Fixup}
use Rattle.vax_asm_laws.specs.Counted.{AreCounted, Begins, BeginsAt, IsCounted, Keeps, StandFrom, end_of, part_length, section_at}
use Rattle.vax_asm_laws.specs.Lying.{AllStand, MayAllStand, MayStand}

-- From sections that are counted to these.
pub record Step (s t : Sections Fixup) : Type 0 where
  pub counted : AreCounted t
  pub keeps : Keeps s t
  pub stand : MayAllStand s → MayAllStand t

keeps_same : (s : Sections Fixup) → Keeps s s
keeps_same s = record { all = omega arith; parts = λ i less. ([], sym (append-nil (section_at i s).parts)) }

pub step_same : (s : Sections Fixup) → AreCounted s → Step s s
step_same s h = record { counted = h; keeps = keeps_same s; stand = λ all. all }

begins_then : (x y z : Section Fixup) → Begins x y → Begins y z → Begins x z
begins_then x y z b c = (b.0 ++ c.0, c.1 ∙ ap (λ (l : List (Part Fixup)). l ++ c.0) b.1 ∙ append_assoc x.parts b.0 c.0)

pub keeps_then : (s t u : Sections Fixup) → Keeps s t → Keeps t u → Keeps s u
keeps_then s t u h k = record {
  all = omega (arith, h.all, k.all);
  parts = λ i less. begins_then (section_at i s) (section_at i t) (section_at i u) (h.parts i less) (k.parts i (omega (arith, less, h.all)));
}

pub step_then : (s t u : Sections Fixup) → Step s t → Step t u → Step s u
step_then s t u a b = record { counted = b.counted; keeps = keeps_then s t u a.keeps b.keeps; stand = λ all. b.stand (a.stand all) }

-- ---- a part behind others

pub end_behind : (at : ℕ) (parts : List (Part Fixup)) (p : Part Fixup) → end_of at (parts ++ p ∷ []) ≡ end_of at parts + part_length p
end_behind at [] p = refl
end_behind at (q ∷ parts) p = end_behind (at + part_length q) parts p

stand_behind : (at : ℕ) (parts : List (Part Fixup)) (p : Part Fixup) → StandFrom at parts → BeginsAt (end_of at parts) p → StandFrom at (parts ++ p ∷ [])
stand_behind at [] p h b = (b, tt)
stand_behind at (q ∷ parts) p h b = (h.0, stand_behind (at + part_length q) parts p h.1 b)

-- a section that counts more has what it had; another one has the part behind its own
longer_counted : (n : ℕ) (p : Part Fixup) (s : Section Fixup) (o : Option ℕ) → IsCounted s → part_length p ≡ n → BeginsAt s.size p → IsCounted (longer_by o n p s)
longer_counted n p s (Some at) h e b = record { stand = h.stand; size = h.size }
longer_counted n p s None h e b = record {
  stand = stand_behind 0 s.parts p h.stand (subst (λ (at : ℕ). BeginsAt at p) (sym h.size) b);
  size = end_behind 0 s.parts p ∙ ap (λ (k : ℕ). k + part_length p) h.size ∙ ap (λ (k : ℕ). s.size + k) e;
}

longer_begins : (n : ℕ) (p : Part Fixup) (s : Section Fixup) (o : Option ℕ) → Begins s (longer_by o n p s)
longer_begins n p s (Some at) = ([], sym (append-nil s.parts))
longer_begins n p s None = (p ∷ [], refl)

longer_stands : (n : ℕ) (p : Part Fixup) (s : Section Fixup) (o : Option ℕ) → MayStand p → AllStand s → AllStand (longer_by o n p s)
longer_stands n p s (Some at) may all = all
longer_stands n p s None may all = All-append MayStand s.parts (p ∷ []) all (All-cons MayStand p [] may (All-nil MayStand))

-- one section of many is another one
set_begins : (s : Sections Fixup) (x : Section Fixup) (i : ℕ) (b : Bool) → (i == s.current) ≡ b → s.current < length s.all → Begins (current_of s) x → Begins (section_at i s) (slice_index_or (slice_set s.all s.current x) i unnamed)
set_begins s x i true e within h =
    let same : i ≡ s.current = grind (arith, nat_tests) in
    subst (λ (j : ℕ). Begins (section_at j s) (slice_index_or (slice_set s.all s.current x) j unnamed)) (sym same)
    (subst (λ (y : Section Fixup). Begins (current_of s) y) (sym (get_or-set_same s.all s.current x unnamed within)) h)
set_begins s x i false e within h =
    let other : i ≢ s.current = grind (arith, nat_tests) in
    subst (λ (y : Section Fixup). Begins (section_at i s) y) (sym (get_or-set_other s.all s.current i x unnamed other)) ([], sym (append-nil (section_at i s).parts))

set_step : (s : Sections Fixup) (x : Section Fixup) (total : ℕ) → AreCounted s → IsCounted x → Begins (current_of s) x → (AllStand (current_of s) → AllStand x) → Step s (record { all = slice_set s.all s.current x; current = s.current; total = total })
set_step s x total h c b may = record {
  counted = record {
    current = rw (length-set s.all s.current x) h.current;
    sections = All-set IsCounted s.all s.current x c h.sections;
  };
  keeps = record {
    all = omega (arith, length-set s.all s.current x);
    parts = λ i less. set_begins s x i (i == s.current) refl h.current b;
  };
  stand = λ all. All-set AllStand s.all s.current x (may (all s.current unnamed h.current)) all;
}

current_counted : (s : Sections Fixup) → AreCounted s → IsCounted (current_of s)
current_counted s h = h.sections s.current unnamed h.current

pub part_step : (n : ℕ) (p : Part Fixup) (s : Sections Fixup) → AreCounted s → part_length p ≡ n → BeginsAt (current_of s).size p → MayStand p → Step s (with_part n p s)
part_step n p s h e b may =
    let x : Section Fixup = current_of s in
    set_step s (longer n p x) (s.total + n) h (longer_counted n p x x.counter (current_counted s h) e b) (longer_begins n p x x.counter)
    (λ all. longer_stands n p x x.counter may all)

either_step : (n : ℕ) (p : Part Fixup) (s t : Sections Fixup) (a b : Bool) → Step s (with_part n p s)
    → (let r : Result (Sections Fixup) Refusal = if a then Err Absolute else (if b then Err TooLong else Ok (with_part n p s)) in r) ≡ Ok t → Step s t
either_step n p s t true b h e = cc
either_step n p s t false true h e = cc
either_step n p s t false false h e = let same : with_part n p s ≡ t = cc in subst (λ (x : Sections Fixup). Step s x) same h

pub put_step : (n : ℕ) (p : Part Fixup) (s t : Sections Fixup) → AreCounted s → part_length p ≡ n → BeginsAt (current_of s).size p → MayStand p → put n p s ≡ Ok t → Step s t
unfolding put
put_step n p s t h e b may made = either_step n p s t (refuses (current_of s) p) (exceeds (place_in (current_of s)) s.total n) (part_step n p s h e b may) made

raised_step : (k : ℕ) (s : Sections Fixup) → AreCounted s → Step s (with_raised k s)
raised_step k s h =
    let c = current_counted s h in
    set_step s (raised k (current_of s)) s.total h (record { stand = c.stand; size = c.size }) ([], sym (append-nil (current_of s).parts)) (λ all. all)

pub back_step : (to : ℕ) (s : Sections Fixup) → AreCounted s → Step s (with_set_back to s)
back_step to s h =
    let c = current_counted s h in
    set_step s (set_back to (current_of s)) (s.total - (place_in (current_of s) - to)) h (record { stand = c.stand; size = c.size }) ([], sym (append-nil (current_of s).parts)) (λ all. all)

raise_step : (k : ℕ) (s t : Sections Fixup) (r : Result (Sections Fixup) Refusal) → ((u : Sections Fixup) → r ≡ Ok u → Step s u) → raise k r ≡ Ok t → Step s t
raise_step k s t (Ok u) h e =
    let made : Step s u = h u refl in
    let same : with_raised k u ≡ t = cc in
    subst (λ (x : Sections Fixup). Step s x) same (step_then s u (with_raised k u) made (raised_step k u made.counted))
raise_step k s t (Err refusal) h e = cc

pub align_step : (k : ℕ) (s t : Sections Fixup) → AreCounted s → aligned k s ≡ Ok t → Step s t
unfolding aligned
align_step k s t h e =
    let n : ℕ = gap (place_in (current_of s)) (2 ^ k) in
    raise_step k s t (put n (Zeros n) s) (λ u made. put_step n (Zeros n) s u h refl tt tt made) e

-- ---- a section is chosen

first_or : (n m i : ℕ) (b : Bool) (rest : Option ℕ) → (rest ≡ Some i → i < n + 1 + m) → (if b then Some n else rest) ≡ Some i → i < n + suc m
first_or n m i true rest h e = let same : n ≡ i = cc in omega arith
first_or n m i false rest h e = omega (arith, h e)

numbered_within : (n : ℕ) (name : List ℕ) (sections : List (Section Fixup)) (i : ℕ) → numbered n name sections ≡ Some i → i < n + length sections
numbered_within n name [] i e = cc
numbered_within n name (s ∷ sections) i e = first_or n (length sections) i (bytes_eq s.name name) (numbered (n + 1) name sections) (numbered_within (n + 1) name sections i) e

back_by : (s t : Sections Fixup) (i : ℕ) (b : Bool) → AreCounted s → i < length s.all → (let r : Result (Sections Fixup) Refusal = if b then Err Conflict else Ok (record { all = s.all; current = i; total = s.total }) in r) ≡ Ok t → Step s t
back_by s t i true h less e = cc
back_by s t i false h less e =
    let same : record { all = s.all; current = i; total = s.total } ≡ t = cc in
    subst (λ (x : Sections Fixup). Step s x) same (record { counted = record { current = less; sections = h.sections }; keeps = record { all = omega arith; parts = λ j inside. ([], sym (append-nil (section_at j s).parts)) }; stand = λ all. all })

begun_step : (s : Sections Fixup) (x : Section Fixup) → AreCounted s → IsCounted x → AllStand x → Step s (record { all = s.all ++ x ∷ []; current = length s.all; total = s.total })
begun_step s x h c may = record {
  counted = record {
    current = omega (arith, length-append s.all (x ∷ []));
    sections = All-append IsCounted s.all (x ∷ []) h.sections (All-cons IsCounted x [] c (All-nil IsCounted));
  };
  keeps = record {
    all = omega (arith, length-append s.all (x ∷ []));
    parts = λ i less. subst (λ (y : Section Fixup). Begins (section_at i s) y) (sym (get_or_append_left s.all (x ∷ []) unnamed i less)) ([], sym (append-nil (section_at i s).parts));
  };
  stand = λ all. All-append AllStand s.all (x ∷ []) all (All-cons AllStand x [] may (All-nil AllStand));
}

chosen_by : (name : List ℕ) (attributes : Attributes) (s t : Sections Fixup) (o : Option ℕ) → AreCounted s → numbered 0 name s.all ≡ o → begun name attributes s o ≡ Ok t → Step s t
chosen_by name attributes s t (Some i) h n e =
    back_by s t i (conflicts attributes (section_at i s)) h (omega (arith, numbered_within 0 name s.all i n)) e
chosen_by name attributes s t None h n e =
    let same : record { all = s.all ++ made name attributes ∷ []; current = length s.all; total = s.total } ≡ t = cc in
    subst (λ (x : Sections Fixup). Step s x) same (begun_step s (made name attributes) h (record { stand = tt; size = refl }) (All-nil MayStand))

pub select_step : (name : List ℕ) (attributes : Attributes) (s t : Sections Fixup) → AreCounted s → selected name attributes s ≡ Ok t → Step s t
unfolding selected
select_step name attributes s t h e = chosen_by name attributes s t (numbered 0 name s.all) h refl e

-- The numbers of sections by their names.
use Rattle.std.proofs.Common.{◌≡◌, ℕ, ◌<◌, ◌+◌, ◌-◌, List, [], ◌∷◌, ◌++◌, length, map, take, slice_index_or, slice_set, zero, suc, Bool, true, false, cond, Option, Some, None, Result, Ok, Err, Vec, refl, sym, ap, subst, ◌∙◌, arith}
use Rattle.std.proofs.lemmas.List.{map-append, length-append, length-map}
use Rattle.std.proofs.Math.Seq.{take-append_seam}
use Rattle.std.specs.Option.{IfSome}
use Rattle.std.specs.Result.{OnOk, OnErr, is_err}
use Rattle.std.specs.Global.{Global}
use Rattle.std.specs.declared.alloc.AllocError.{AllocError}
use Rattle.std.specs.Str.{bytes_eq}
use Rattle.std.specs.Cmp.Lexicographic.{bytes_decides, nat_list_eq_equiv}
use Rattle.vax_asm_names.specs.ByName.{with_entry}
use Rattle.vax_asm_sections.specs.declared.types.Building.{Building}
use Rattle.vax_asm_sections.specs.Layout.{Section, made, numbered, raised}
use Rattle.vax_asm_sections.specs.declared.types.Attributes.{Attributes}
use Rattle.vax_asm_sections.specs.Numbers.{placed}
use Rattle.vax_asm_sections.specs.View.{section_of}

abbrev pub names : {F : Type 0} → List (Building F) → List (List ℕ)
names bs = map (λ section. section.name.items) bs

abbrev pub Names : Type 0
Names = List ℕ → Option ℕ

-- the numbers of sections are those of their names
pub numbered_placed : {F : Type 0} (i : ℕ) (name : List ℕ) (bs : List (Building F)) → placed i name (names bs) ≡ numbered i name (map section_of bs)
numbered_placed i name [] = refl
numbered_placed i name (b ∷ bs) = ap (λ (o : Option ℕ). cond (bytes_eq b.name.items name) (Some i) o) (numbered_placed (i + 1) name bs)

within_or : (b : Bool) (o : Option ℕ) (i n k : ℕ) → (o ≡ Some k → k < i + 1 + n) → cond b (Some i) o ≡ Some k → k < i + suc n
within_or true o i n k h e = let s : i ≡ k = cc in omega (arith, s)
within_or false o i n k h e = let s = h e in omega (arith, s)

placed_within : (i : ℕ) (name : List ℕ) (ns : List (List ℕ)) (k : ℕ) → placed i name ns ≡ Some k → k < i + length ns
placed_within i name [] k e = cc
placed_within i name (n ∷ ns) k e = within_or (bytes_eq n name) (placed (i + 1) name ns) i (length ns) k (placed_within (i + 1) name ns k) e

pub number_within : {F : Type 0} (name : List ℕ) (bs : List (Building F)) (o : Option ℕ) → o ≡ placed 0 name (names bs) → IfSome o (λ i. i < length bs)
number_within name bs None e = tt
number_within name bs (Some k) e = let h = placed_within 0 name (names bs) k (sym e) in omega (arith, h, length-map bs (λ section. section.name.items))

-- a name that is there isn't there for the first time
not_first : (b : Bool) (i : ℕ) (o : Option ℕ) → cond b (Some i) o ≡ None → (b ≡ false) × (o ≡ None)
not_first true i o e = absurd (cc)
not_first false i o e = (refl, e)

apart : (n new name : List ℕ) → bytes_eq n new ≡ false → bytes_eq n name ≡ true → bytes_eq new name ≡ false
apart n new name f t = let P : List ℕ → Type 0 = λ l. bytes_eq new l ≡ false in subst P ((bytes_decides n name).0 t) (nat_list_eq_equiv.symm new n ∙ f)

one_more : (b c : Bool) (i k : ℕ) (o p : Option ℕ) → (b ≡ true → c ≡ false) → o ≡ cond c (Some k) p → cond b (Some i) o ≡ cond c (Some k) (cond b (Some i) p)
one_more true true i k o p h e = absurd (let f : true ≡ false = h refl in cc)
one_more true false i k o p h e = refl
one_more false c i k o p h e = e

placed_more : (i : ℕ) (name new : List ℕ) (ns : List (List ℕ)) → placed i new ns ≡ None → placed i name (ns ++ new ∷ []) ≡ cond (bytes_eq new name) (Some (i + length ns)) (placed i name ns)
placed_more i name new [] none = ap (λ (k : ℕ). cond (bytes_eq new name) (Some k) None) (omega arith)
placed_more i name new (n ∷ ns) none =
    let no = not_first (bytes_eq n new) i (placed (i + 1) new ns) none in
    let more = placed_more (i + 1) name new ns no.1 in
    let k : i + 1 + length ns ≡ i + suc (length ns) = omega arith in
    one_more (bytes_eq n name) (bytes_eq new name) i (i + suc (length ns)) (placed (i + 1) name (ns ++ new ∷ [])) (placed (i + 1) name ns) (apart n new name no.0)
    (more ∙ ap (λ (m : ℕ). cond (bytes_eq new name) (Some m) (placed (i + 1) name ns)) k)

-- the first name
pub first_known : {F : Type 0} (f g : Names) (bs : List (Building F)) → f ≡ (λ name. None) → names bs ≡ [] ∷ [] → g ≡ with_entry [] (Some 0) f → (name : List ℕ) → g name ≡ placed 0 name (names bs)
first_known f g bs none is more name = rw (more, none, is) refl

-- one name more
pub known_more : {F : Type 0} (f g : Names) (bs cs : List (Building F)) (b : Building F) (new : List ℕ) (n : ℕ) → n ≡ length bs → b.name.items ≡ new → cs ≡ bs ++ b ∷ [] → g ≡ with_entry new (Some n) f
    → numbered 0 new (map section_of bs) ≡ None → ((name : List ℕ) → f name ≡ placed 0 name (names bs)) → (name : List ℕ) → g name ≡ placed 0 name (names cs)
known_more {F} f g bs cs b new n len called is more none known name =
    let all : names cs ≡ names bs ++ new ∷ [] = ap names is ∙ map-append (λ section. section.name.items) bs (b ∷ []) ∙ ap (λ (l : List ℕ). names bs ++ l ∷ []) called in
    let count : n ≡ 0 + length (names bs) = omega (arith, len, length-map bs (λ section. section.name.items)) in
    let fresh : placed 0 new (names bs) ≡ None = numbered_placed 0 new bs ∙ none in
    let at : placed 0 name (names bs ++ new ∷ []) ≡ cond (bytes_eq new name) (Some (0 + length (names bs))) (placed 0 name (names bs)) = placed_more 0 name new (names bs) fresh in
    ap (λ (h : Names). h name) more ∙ ap (λ (o : Option ℕ). cond (bytes_eq new name) (Some n) o) (known name) ∙ ap (λ (k : ℕ). cond (bytes_eq new name) (Some k) (placed 0 name (names bs))) count ∙ sym at ∙ ap (placed 0 name) (sym all)

-- a section is another of its name
same_names : {F : Type 0} (bs : List (Building F)) (i : ℕ) (b d : Building F) → i < length bs → b.name.items ≡ (slice_index_or bs i d).name.items → names (slice_set bs i b) ≡ names bs
same_names [] i b d l e = absurd (omega arith)
same_names (x ∷ xs) zero b d l e = ap (λ (n : List ℕ). n ∷ names xs) e
same_names (x ∷ xs) (suc i) b d l e = ap (λ (ns : List (List ℕ)). x.name.items ∷ ns) (same_names xs i b d (omega arith) e)

pub known_still : {F : Type 0} (f : Names) (bs : List (Building F)) (i : ℕ) (b d : Building F) → i < length bs → b.name.items ≡ (slice_index_or bs i d).name.items
    → ((name : List ℕ) → f name ≡ placed 0 name (names bs)) → (name : List ℕ) → f name ≡ placed 0 name (names (slice_set bs i b))
known_still f bs i b d l e known name = known name ∙ ap (placed 0 name) (sym (same_names bs i b d l e))

-- a section that was added is taken away
pub known_again : {F : Type 0} (f g : Names) (bs cs ds : List (Building F)) (b : Building F) → cs ≡ bs ++ b ∷ [] → ds ≡ take (length cs - 1) cs → g ≡ f
    → ((name : List ℕ) → f name ≡ placed 0 name (names bs)) → (name : List ℕ) → g name ≡ placed 0 name (names ds)
known_again f g bs cs ds b is back same known name =
    let count : length cs - 1 ≡ length bs = omega (arith, ap length is, length-append bs (b ∷ [])) in
    let front : ds ≡ bs = back ∙ ap (λ (n : ℕ). take n cs) count ∙ ap (take (length bs)) is ∙ take-append_seam bs (b ∷ []) in
    ap (λ (h : Names). h name) same ∙ known name ∙ ap (placed 0 name) (ap names (sym front))

pub raised_name : {F : Type 0} (k : ℕ) (old new at : Building F) → section_of new ≡ raised k (section_of old) → old ≡ at → new.name.items ≡ at.name.items
raised_name {F} k old new at e is = ap (λ (s : Section F). s.name) e ∙ ap (λ (b : Building F). b.name.items) is

pub same_name : {F : Type 0} (old new at : Building F) → new.name ≡ old.name → old ≡ at → new.name.items ≡ at.name.items
same_name {F} old new at e is = ap (λ (v : Vec ℕ Global). v.items) e ∙ ap (λ (b : Building F). b.name.items) is

pub made_name : {F : Type 0} (copy name : List ℕ) (attributes : Attributes) (b : Building F) → section_of b ≡ made copy attributes → copy ≡ name → b.name.items ≡ name
made_name {F} copy name attributes b e is = ap (λ (s : Section F). s.name) e ∙ is

pub is_added : {P : Type 0} (r : Result Unit AllocError) → OnOk r P → is_err r ≡ false → P
is_added (Ok u) p e = p
is_added (Err x) p e = absurd (cc)

pub is_refused : {P : Type 0} (r : Result Unit AllocError) → OnErr r P → is_err r ≡ true → P
is_refused (Ok u) p e = absurd (cc)
is_refused (Err x) p e = p

-- Fields that are read one after the other, as loops do.
use Rattle.std.proofs.Common.{◌≡◌, ℕ, suc, ◌-◌, ◌+◌, ◌≤◌, ◌<◌, List, [], ◌∷◌, ◌++◌, Result, Ok, Err, refl, sym, ap, ◌∙◌, append_assoc, arith}
use Rattle.std.proofs.lemmas.List.{append-nil}
use Rattle.vax_space.specs.declared.Area.{Area}
use Rattle.vax_space.specs.Areas.{end_of}
use Rattle.vax_image.specs.declared.Base.{Base}
use Rattle.vax_image.specs.declared.ImageError.{ImageError}
use Rattle.vax_image.specs.declared.ImageError.TheVariants.{Fault, NoMemory}
use Rattle.vax_image.specs.Texts.{Text}
use Rattle.vax_image.specs.Reading.{Cursor, ◌>>=◌, Fails, area_at, areas_at, text_at, texts_at, numbered_area_at, numbered_areas_at}

-- what was read before, and what is still read
abbrev pub with_front : {X : Type 0} → List X → Result (List X × Cursor) ImageError → Result (List X × Cursor) ImageError
with_front front read = read >>= λ x. Ok (front ++ x.0, x.1)

regroup : {X : Type 0} (front : List X) (n : X) (read : Result (List X × Cursor) ImageError) → with_front front (read >>= λ x. Ok (n ∷ x.0, x.1)) ≡ with_front (front ++ n ∷ []) read
regroup {X = X} front n (Ok x) = ap (λ (ns : List X). Ok (ns, x.1)) (simp append_assoc)
regroup front n (Err f) = refl

pub areas_go_on : (base : Base) (low : ℕ) (front : List Area) (count i : ℕ) (c : Cursor) (n : Area) (after : Cursor) (total : Result (List Area × Cursor) ImageError) → i < count → area_at base low c ≡ Ok (n, after)
    → with_front front (areas_at base low (count - i) c) ≡ total → with_front (front ++ n ∷ []) (areas_at base (end_of n) (count - (i + 1)) after) ≡ total
unfolding areas_at
areas_go_on base low front count i c n after total lt h so_far =
    let k : count - i ≡ suc (count - (i + 1)) = omega arith in
    let one : with_front front (areas_at base low (count - i) c) ≡ with_front (front ++ n ∷ []) (areas_at base (end_of n) (count - (i + 1)) after) = rw (k, h) (regroup front n (areas_at base (end_of n) (count - (i + 1)) after)) in
    sym one ∙ so_far

pub areas_end : (e : ImageError) (base : Base) (low : ℕ) (front : List Area) (count i : ℕ) (c : Cursor) (total : Result (List Area × Cursor) ImageError) → i < count → Fails e (area_at base low c)
    → with_front front (areas_at base low (count - i) c) ≡ total → Fails e total
unfolding areas_at
areas_end NoMemory base low front count i c total lt h so_far = tt
areas_end (Fault place kind) base low front count i c total lt h so_far =
    let k : count - i ≡ suc (count - (i + 1)) = omega arith in
    let one : with_front front (areas_at base low (count - i) c) ≡ Err (Fault place kind) = rw (k, h) refl in
    sym so_far ∙ one

pub areas_done : (base : Base) (low : ℕ) (front : List Area) (count i : ℕ) (c : Cursor) (total : Result (List Area × Cursor) ImageError) → count ≤ i → with_front front (areas_at base low (count - i) c) ≡ total → total ≡ Ok (front, c)
unfolding areas_at
areas_done base low front count i c total le so_far =
    let k : count - i ≡ 0 = omega arith in
    let one : with_front front (areas_at base low (count - i) c) ≡ Ok (front, c) = rw k (ap (λ (ns : List Area). Ok (ns, c)) (append-nil front)) in
    sym so_far ∙ one

pub texts_go_on : (front : List (List ℕ)) (count i : ℕ) (c : Cursor) (n : List ℕ) (after : Cursor) (total : Result (List (List ℕ) × Cursor) ImageError) → i < count → text_at c ≡ Ok (n, after)
    → with_front front (texts_at (count - i) c) ≡ total → with_front (front ++ n ∷ []) (texts_at (count - (i + 1)) after) ≡ total
unfolding texts_at
texts_go_on front count i c n after total lt h so_far =
    let k : count - i ≡ suc (count - (i + 1)) = omega arith in
    let one : with_front front (texts_at (count - i) c) ≡ with_front (front ++ n ∷ []) (texts_at (count - (i + 1)) after) = rw (k, h) (regroup front n (texts_at (count - (i + 1)) after)) in
    sym one ∙ so_far

pub texts_end : (e : ImageError) (front : List (List ℕ)) (count i : ℕ) (c : Cursor) (total : Result (List (List ℕ) × Cursor) ImageError) → i < count → Fails e (text_at c)
    → with_front front (texts_at (count - i) c) ≡ total → Fails e total
unfolding texts_at
texts_end NoMemory front count i c total lt h so_far = tt
texts_end (Fault place kind) front count i c total lt h so_far =
    let k : count - i ≡ suc (count - (i + 1)) = omega arith in
    let one : with_front front (texts_at (count - i) c) ≡ Err (Fault place kind) = rw (k, h) refl in
    sym so_far ∙ one

pub texts_done : (front : List (List ℕ)) (count i : ℕ) (c : Cursor) (total : Result (List (List ℕ) × Cursor) ImageError) → count ≤ i → with_front front (texts_at (count - i) c) ≡ total → total ≡ Ok (front, c)
unfolding texts_at
texts_done front count i c total le so_far =
    let k : count - i ≡ 0 = omega arith in
    let one : with_front front (texts_at (count - i) c) ≡ Ok (front, c) = rw k (ap (λ (ns : List (List ℕ)). Ok (ns, c)) (append-nil front)) in
    sym so_far ∙ one

-- the same for areas that take texts
abbrev pub behind_front : List Area → Result ((List Area × List Text) × Cursor) ImageError → Result ((List Area × List Text) × Cursor) ImageError
behind_front front read = read >>= λ x. Ok ((front ++ x.0.0, x.0.1), x.1)

regroup_numbered : (front : List Area) (n : Area) (read : Result ((List Area × List Text) × Cursor) ImageError) → behind_front front (read >>= λ x. Ok ((n ∷ x.0.0, x.0.1), x.1)) ≡ behind_front (front ++ n ∷ []) read
regroup_numbered front n (Ok x) = ap (λ (ns : List Area). Ok ((ns, x.0.1), x.1)) (simp append_assoc)
regroup_numbered front n (Err f) = refl

pub numbered_go_on : (base : Base) (low : ℕ) (texts : List (List ℕ)) (taken : List Text) (front : List Area) (count i : ℕ) (c : Cursor) (n : Area) (next : List Text) (after : Cursor) (total : Result ((List Area × List Text) × Cursor) ImageError) → i < count
    → numbered_area_at base low texts taken c ≡ Ok ((n, next), after)
    → behind_front front (numbered_areas_at base low texts taken (count - i) c) ≡ total → behind_front (front ++ n ∷ []) (numbered_areas_at base (end_of n) texts next (count - (i + 1)) after) ≡ total
unfolding numbered_areas_at
numbered_go_on base low texts taken front count i c n next after total lt h so_far =
    let k : count - i ≡ suc (count - (i + 1)) = omega arith in
    let one : behind_front front (numbered_areas_at base low texts taken (count - i) c) ≡ behind_front (front ++ n ∷ []) (numbered_areas_at base (end_of n) texts next (count - (i + 1)) after) = rw (k, h) (regroup_numbered front n (numbered_areas_at base (end_of n) texts next (count - (i + 1)) after)) in
    sym one ∙ so_far

pub numbered_end : (e : ImageError) (base : Base) (low : ℕ) (texts : List (List ℕ)) (taken : List Text) (front : List Area) (count i : ℕ) (c : Cursor) (total : Result ((List Area × List Text) × Cursor) ImageError) → i < count
    → Fails e (numbered_area_at base low texts taken c) → behind_front front (numbered_areas_at base low texts taken (count - i) c) ≡ total → Fails e total
unfolding numbered_areas_at
numbered_end NoMemory base low texts taken front count i c total lt h so_far = tt
numbered_end (Fault place kind) base low texts taken front count i c total lt h so_far =
    let k : count - i ≡ suc (count - (i + 1)) = omega arith in
    let one : behind_front front (numbered_areas_at base low texts taken (count - i) c) ≡ Err (Fault place kind) = rw (k, h) refl in
    sym so_far ∙ one

pub numbered_done : (base : Base) (low : ℕ) (texts : List (List ℕ)) (taken : List Text) (front : List Area) (count i : ℕ) (c : Cursor) (total : Result ((List Area × List Text) × Cursor) ImageError) → count ≤ i
    → behind_front front (numbered_areas_at base low texts taken (count - i) c) ≡ total → total ≡ Ok ((front, taken), c)
unfolding numbered_areas_at
numbered_done base low texts taken front count i c total le so_far =
    let k : count - i ≡ 0 = omega arith in
    let one : behind_front front (numbered_areas_at base low texts taken (count - i) c) ≡ Ok ((front, taken), c) = rw k (ap (λ (ns : List Area). Ok ((ns, taken), c)) (append-nil front)) in
    sym so_far ∙ one

-- Fields that are read one after the other, as loops do.
use Rattle.std.proofs.Common.{◌≡◌, ℕ, suc, ◌-◌, ◌+◌, ◌≤◌, ◌<◌, List, [], ◌∷◌, ◌++◌, length, drop, get_or, Result, Ok, Err, refl, sym, ap, ◌∙◌, append_assoc, arith}
use Rattle.std.proofs.lemmas.List.{append-nil, drop_all, drop_more}
use Rattle.vax_space.specs.declared.Area.{Area}
use Rattle.vax_space.specs.Areas.{end_of}
use Rattle.vax_save.specs.declared.SaveError.{SaveError}
use Rattle.vax_save.specs.declared.SaveError.TheVariants.{Fault, NoMemory}
use Rattle.vax_save.specs.Restoring.{Cursor, ◌>>=◌, Fails, area_at, areas_at, filled_at, longwords_at, number_at, page_or_zeros, pages_at}

-- what was read before, and what is still read
abbrev pub with_front : {X : Type 0} → List X → Result (List X × Cursor) SaveError → Result (List X × Cursor) SaveError
with_front front read = read >>= λ x. Ok (front ++ x.0, x.1)

pub regroup : {X : Type 0} (front : List X) (n : X) (read : Result (List X × Cursor) SaveError) → with_front front (read >>= λ x. Ok (n ∷ x.0, x.1)) ≡ with_front (front ++ n ∷ []) read
regroup {X = X} front n (Ok x) = ap (λ (ns : List X). Ok (ns, x.1)) (simp append_assoc)
regroup front n (Err f) = refl

pub no_front : {X : Type 0} (read : Result (List X × Cursor) SaveError) → with_front [] read ≡ read
no_front (Ok x) = refl
no_front (Err e) = refl

pub longwords_go_on : (front : List ℕ) (count i n : ℕ) (c after : Cursor) (total : Result (List ℕ × Cursor) SaveError) → i < count → number_at 4 c ≡ Ok (n, after)
    → with_front front (longwords_at (count - i) c) ≡ total → with_front (front ++ n ∷ []) (longwords_at (count - (i + 1)) after) ≡ total
unfolding longwords_at
longwords_go_on front count i n c after total lt h so_far =
    let k : count - i ≡ suc (count - (i + 1)) = omega (arith, lt) in
    let one : with_front front (longwords_at (count - i) c) ≡ with_front (front ++ n ∷ []) (longwords_at (count - (i + 1)) after) = rw (k, h) (regroup front n (longwords_at (count - (i + 1)) after)) in
    sym one ∙ so_far

pub longwords_end : (e : SaveError) (front : List ℕ) (count i : ℕ) (c : Cursor) (total : Result (List ℕ × Cursor) SaveError) → i < count → Fails e (number_at 4 c)
    → with_front front (longwords_at (count - i) c) ≡ total → Fails e total
unfolding longwords_at
longwords_end NoMemory front count i c total lt h so_far = tt
longwords_end (Fault place kind) front count i c total lt h so_far =
    let k : count - i ≡ suc (count - (i + 1)) = omega (arith, lt) in
    let one : with_front front (longwords_at (count - i) c) ≡ Err (Fault place kind) = rw (k, h) refl in
    sym so_far ∙ one

pub longwords_done : (front : List ℕ) (count i : ℕ) (c : Cursor) (total : Result (List ℕ × Cursor) SaveError) → count ≤ i → with_front front (longwords_at (count - i) c) ≡ total → total ≡ Ok (front, c)
unfolding longwords_at
longwords_done front count i c total le so_far =
    let k : count - i ≡ 0 = omega (arith, le) in
    let one : with_front front (longwords_at (count - i) c) ≡ Ok (front, c) = rw k (ap (λ (ns : List ℕ). Ok (ns, c)) (append-nil front)) in
    sym so_far ∙ one

pub areas_go_on : (low : ℕ) (front : List Area) (count i : ℕ) (c : Cursor) (n : Area) (after : Cursor) (total : Result (List Area × Cursor) SaveError) → i < count → area_at low c ≡ Ok (n, after)
    → with_front front (areas_at low (count - i) c) ≡ total → with_front (front ++ n ∷ []) (areas_at (end_of n) (count - (i + 1)) after) ≡ total
unfolding areas_at
areas_go_on low front count i c n after total lt h so_far =
    let k : count - i ≡ suc (count - (i + 1)) = omega (arith, lt) in
    let one : with_front front (areas_at low (count - i) c) ≡ with_front (front ++ n ∷ []) (areas_at (end_of n) (count - (i + 1)) after) = rw (k, h) (regroup front n (areas_at (end_of n) (count - (i + 1)) after)) in
    sym one ∙ so_far

pub areas_end : (e : SaveError) (low : ℕ) (front : List Area) (count i : ℕ) (c : Cursor) (total : Result (List Area × Cursor) SaveError) → i < count → Fails e (area_at low c)
    → with_front front (areas_at low (count - i) c) ≡ total → Fails e total
unfolding areas_at
areas_end NoMemory low front count i c total lt h so_far = tt
areas_end (Fault place kind) low front count i c total lt h so_far =
    let k : count - i ≡ suc (count - (i + 1)) = omega (arith, lt) in
    let one : with_front front (areas_at low (count - i) c) ≡ Err (Fault place kind) = rw (k, h) refl in
    sym so_far ∙ one

pub areas_done : (low : ℕ) (front : List Area) (count i : ℕ) (c : Cursor) (total : Result (List Area × Cursor) SaveError) → count ≤ i → with_front front (areas_at low (count - i) c) ≡ total → total ≡ Ok (front, c)
unfolding areas_at
areas_done low front count i c total le so_far =
    let k : count - i ≡ 0 = omega (arith, le) in
    let one : with_front front (areas_at low (count - i) c) ≡ Ok (front, c) = rw k (ap (λ (ns : List Area). Ok (ns, c)) (append-nil front)) in
    sym so_far ∙ one

-- pages one behind the other

regroup_bytes : (front here : List ℕ) (read : Result (List ℕ × Cursor) SaveError) → with_front front (read >>= λ x. Ok (here ++ x.0, x.1)) ≡ with_front (front ++ here) read
regroup_bytes front here (Ok x) = ap (λ (ns : List ℕ). Ok (ns, x.1)) (sym (append_assoc front here x.0))
regroup_bytes front here (Err f) = refl

pub pages_go_on : (first : ℕ) (front : List ℕ) (count i : ℕ) (c : Cursor) (here : List ℕ) (after : Cursor) (total : Result (List ℕ × Cursor) SaveError) → i < count → page_or_zeros (first + i) c ≡ Ok (here, after)
    → with_front front (pages_at (first + i) (count - i) c) ≡ total → with_front (front ++ here) (pages_at (first + (i + 1)) (count - (i + 1)) after) ≡ total
unfolding pages_at
pages_go_on first front count i c here after total lt h so_far =
    let k : count - i ≡ suc (count - (i + 1)) = omega (arith, lt) in
    let next : first + (i + 1) ≡ first + i + 1 = omega arith in
    let one : with_front front (pages_at (first + i) (count - i) c) ≡ with_front (front ++ here) (pages_at (first + i + 1) (count - (i + 1)) after) = rw (k, h) (regroup_bytes front here (pages_at (first + i + 1) (count - (i + 1)) after)) in
    ap (λ (n : ℕ). with_front (front ++ here) (pages_at n (count - (i + 1)) after)) next ∙ (sym one ∙ so_far)

pub pages_end : (e : SaveError) (first : ℕ) (front : List ℕ) (count i : ℕ) (c : Cursor) (total : Result (List ℕ × Cursor) SaveError) → i < count → Fails e (page_or_zeros (first + i) c)
    → with_front front (pages_at (first + i) (count - i) c) ≡ total → Fails e total
unfolding pages_at
pages_end NoMemory first front count i c total lt h so_far = tt
pages_end (Fault place kind) first front count i c total lt h so_far =
    let k : count - i ≡ suc (count - (i + 1)) = omega (arith, lt) in
    let one : with_front front (pages_at (first + i) (count - i) c) ≡ Err (Fault place kind) = rw (k, h) refl in
    sym so_far ∙ one

pub pages_done : (first : ℕ) (front : List ℕ) (count i : ℕ) (c : Cursor) (total : Result (List ℕ × Cursor) SaveError) → count ≤ i → with_front front (pages_at (first + i) (count - i) c) ≡ total → total ≡ Ok (front, c)
unfolding pages_at
pages_done first front count i c total le so_far =
    let k : count - i ≡ 0 = omega (arith, le) in
    let one : with_front front (pages_at (first + i) (count - i) c) ≡ Ok (front, c) = rw k (ap (λ (ns : List ℕ). Ok (ns, c)) (append-nil front)) in
    sym so_far ∙ one

-- areas filled one behind the other

pub filled_go_on : (front areas : List Area) (i : ℕ) (area : Area) (bytes : List ℕ) (c after : Cursor) (total : Result (List Area × Cursor) SaveError) → i < length areas → area ≡ get_or areas i area → pages_at area.first area.pages c ≡ Ok (bytes, after)
    → with_front front (filled_at (drop i areas) c) ≡ total → with_front (front ++ record area { bytes = bytes } ∷ []) (filled_at (drop (i + 1) areas) after) ≡ total
unfolding filled_at
filled_go_on front areas i area bytes c after total lt at h so_far =
    let rest : drop i areas ≡ area ∷ drop (i + 1) areas = drop_more areas i area lt ∙ ap (λ (a : Area). a ∷ drop (i + 1) areas) (sym at) in
    let one : with_front front (filled_at (drop i areas) c) ≡ with_front (front ++ record area { bytes = bytes } ∷ []) (filled_at (drop (i + 1) areas) after) = rw (rest, h) (regroup front (record area { bytes = bytes }) (filled_at (drop (i + 1) areas) after)) in
    sym one ∙ so_far

pub filled_end : (e : SaveError) (front areas : List Area) (i : ℕ) (area : Area) (c : Cursor) (total : Result (List Area × Cursor) SaveError) → i < length areas → area ≡ get_or areas i area → Fails e (pages_at area.first area.pages c)
    → with_front front (filled_at (drop i areas) c) ≡ total → Fails e total
unfolding filled_at
filled_end NoMemory front areas i area c total lt at h so_far = tt
filled_end (Fault place kind) front areas i area c total lt at h so_far =
    let rest : drop i areas ≡ area ∷ drop (i + 1) areas = drop_more areas i area lt ∙ ap (λ (a : Area). a ∷ drop (i + 1) areas) (sym at) in
    let one : with_front front (filled_at (drop i areas) c) ≡ Err (Fault place kind) = rw (rest, h) refl in
    sym so_far ∙ one

pub filled_done : (front areas : List Area) (i : ℕ) (c : Cursor) (total : Result (List Area × Cursor) SaveError) → length areas ≤ i → with_front front (filled_at (drop i areas) c) ≡ total → total ≡ Ok (front, c)
unfolding filled_at
filled_done front areas i c total le so_far =
    let one : with_front front (filled_at (drop i areas) c) ≡ Ok (front, c) = rw (drop_all i areas le) (ap (λ (ns : List Area). Ok (ns, c)) (append-nil front)) in
    sym so_far ∙ one

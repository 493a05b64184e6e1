-- The first circle of assignments, when there is one more.
use Rattle.std.proofs.Common.{◌≡◌, ℕ, zero, suc, ◌<◌, Bool, true, false, cond, List, [], ◌∷◌, ◌++◌, length, Option, Some, None, refl, sym, ap, ◌∙◌, append_assoc, arith}
use Rattle.std.specs.Prelude.{option_map, slice_get}
use Rattle.std.proofs.lemmas.List.{append-nil, length-append, length-map, map-append}
use Rattle.vax_asm_circles.specs.Circles.{Step, comes_back, first_back}
use Rattle.vax_asm_faults.specs.Survey.{closes}
use Rattle.vax_asm_first.specs.Circles.{first_circle, origin_at, step_by, steps_by}
use Rattle.vax_asm_first.specs.Fixups.{Assignment}
use Rattle.vax_asm_first.specs.declared.types.Origin.{Origin}

abbrev or_at : Option ℕ → Bool → ℕ → Option ℕ
or_at (Some i) b n = Some i
or_at None b n = cond b (Some n) None

more_step : (b : Bool) (n : ℕ) (o : Option ℕ) (c : Bool) (m : ℕ) → or_at (cond b (Some n) o) c m ≡ cond b (Some n) (or_at o c m)
more_step true n o c m = refl
more_step false n o c m = refl

-- one more step, behind others
back_more : (before steps : List Step) (s : Step) → first_back before (steps ++ s ∷ []) ≡ or_at (first_back before steps) (comes_back ((before ++ steps) ++ s ∷ []) s.from) (length (before ++ steps))
unfolding first_back
back_more before [] s = ap (λ (b : List Step). cond (comes_back (b ++ s ∷ []) s.from) (Some (length b)) None) (sym (append-nil before))
back_more before (t ∷ steps) s =
    let next : List Step = before ++ t ∷ [] in
    let on = back_more next steps s in
    let same : next ++ steps ≡ before ++ (t ∷ steps) = append_assoc before (t ∷ []) steps in
    ap (λ (o : Option ℕ). cond (comes_back next t.from) (Some (length before)) o) (on ∙ ap (λ (b : List Step). or_at (first_back next steps) (comes_back (b ++ s ∷ []) s.from) (length b)) same)
    ∙ sym (more_step (comes_back next t.from) (length before) (first_back next steps) (comes_back ((before ++ (t ∷ steps)) ++ s ∷ []) s.from) (length (before ++ (t ∷ steps))))

less_step : (b : Bool) (n : ℕ) (o : Option ℕ) (m : ℕ) → (b ≡ true → n < m) → ((i : ℕ) → o ≡ Some i → i < m) → (i : ℕ) → cond b (Some n) o ≡ Some i → i < m
less_step true n o m h k i e = let same : n ≡ i = cc in omega (arith, h refl, same)
less_step false n o m h k i e = k i e

-- a place that is told is one of them
back_within : (before steps : List Step) (i : ℕ) → first_back before steps ≡ Some i → i < length (before ++ steps)
unfolding first_back
back_within before [] i e = absurd cc
back_within before (t ∷ steps) i e =
    let next : List Step = before ++ t ∷ [] in
    let same : length (next ++ steps) ≡ length (before ++ (t ∷ steps)) = ap length (append_assoc before (t ∷ []) steps) in
    let long = length-append before (t ∷ steps) in
    less_step (comes_back next t.from) (length before) (first_back next steps) (length (before ++ (t ∷ steps))) (λ b. omega arith) (λ j f. let h = back_within next steps j f in omega arith) i e

get_front : (xs ys : List Assignment) (i : ℕ) → i < length xs → slice_get (xs ++ ys) i ≡ slice_get xs i
get_front [] ys i less = absurd (omega arith)
get_front (x ∷ xs) ys zero less = refl
get_front (x ∷ xs) ys (suc i) less = get_front xs ys i (omega arith)

get_behind : (xs : List Assignment) (a : Assignment) → slice_get (xs ++ a ∷ []) (length xs) ≡ Some a
get_behind [] a = refl
get_behind (x ∷ xs) a = get_behind xs a

-- the origin of the first circle, or of the one that is closed
abbrev pub or_origin : Option Origin → Bool → Origin → Option Origin
or_origin (Some o) b p = Some o
or_origin None b p = cond b (Some p) None

some_mapped : {X Y : Type 0} (f : X → Y) (o : Option X) (x : X) → o ≡ Some x → option_map f o ≡ Some (f x)
some_mapped f (Some y) x e = ap (option_map f) e
some_mapped f None x e = ap (option_map f) e

slice_some : (xs : List Assignment) (i : ℕ) → i < length xs → (a : Assignment) × (slice_get xs i ≡ Some a)
slice_some [] i less = absurd (omega arith)
slice_some (x ∷ xs) zero less = (x, refl)
slice_some (x ∷ xs) (suc i) less = slice_some xs i (omega arith)

origin_more : (before : List Assignment) (a : Assignment) (o : Option ℕ) (b : Bool) (n : ℕ) → n ≡ length before → ((i : ℕ) → o ≡ Some i → i < length before) → origin_at (before ++ a ∷ []) (or_at o b n) ≡ or_origin (origin_at before o) b a.origin
origin_more before a (Some i) b n at within =
    let less = within i refl in
    let here = slice_some before i less in
    let origin : Assignment → Origin = λ x. x.origin in
    some_mapped origin (slice_get (before ++ a ∷ []) i) here.0 (get_front before (a ∷ []) i less ∙ here.1)
    ∙ sym (ap (λ (p : Option Origin). or_origin p b a.origin) (some_mapped origin (slice_get before i) here.0 here.1))
origin_more before a None true n at within =
    let origin : Assignment → Origin = λ x. x.origin in
    ap (λ (i : ℕ). option_map origin (slice_get (before ++ a ∷ []) i)) at ∙ some_mapped origin (slice_get (before ++ a ∷ []) (length before)) a (get_behind before a)
origin_more before a None false n at within = refl

pub circle_more : (before : List Assignment) (a : Assignment) → first_circle (before ++ a ∷ []) ≡ or_origin (first_circle before) (closes before a) a.origin
unfolding first_circle
circle_more before a =
    let steps : List Step = steps_by before in
    let many : length steps ≡ length before = length-map before step_by in
    ap (λ (s : List Step). origin_at (before ++ a ∷ []) (first_back [] s)) (map-append step_by before (a ∷ []))
    ∙ ap (origin_at (before ++ a ∷ [])) (back_more [] steps (step_by a))
    ∙ origin_more before a (first_back [] steps) (closes before a) (length steps) many (λ i e. let h = back_within [] steps i e in omega arith)

-- Faults sorted by line and kind.
use Rattle.std.proofs.Common.{◌≡◌, ◌<◌, ◌≤◌, ◌⊎◌, inl, inr, ℕ, suc, Bool, true, false, cond, List, [], ◌∷◌, Option, Some, None, refl, sym, ap, subst, ◌∙◌, arith}
use Rattle.std.specs.Prelude.{◌==◌, ◌&&◌, ◌||◌, not, nat_lt, slice_index_or, All}
use Rattle.std.specs.Cmp.{IsTotalOrder}
use Rattle.std.specs.List.{filter}
use Rattle.std.specs.List.Sorted.{IsPermutation, IsSortedByKey, IsStableByKey, ties}
use Rattle.std.specs.Ordering.{is_lt, nat_cmp, ordering_then}
use Rattle.std.specs.declared.cmp.Ordering.{Ordering}
use Rattle.std.specs.declared.cmp.Ordering.TheVariants.{Less, Equal, Greater}
use Rattle.std.proofs.lemmas.Bool.{and_cases, cases_order, or_parts, eq-eqb, eqb-false, eqb-true, le-ltb, lt-ltb, ltb-false, ltb-true, ne_eqb}
use Rattle.std.proofs.lemmas.Cmp.{nat_cmp_total, on_total, then_total}
use Rattle.std.proofs.lemmas.List.Elements.{All-from_recursion, recursion_from_All}
use Rattle.std.proofs.lemmas.List.Sorted.{All-permutation, ranks_by, sorted_far}
use Rattle.vax_asm_check.specs.Listed.{IsByLine, IsInOrder, is_like}
use Rattle.vax_asm_faults.proofs.Leasting.{whole_is_least}
use Rattle.vax_asm_faults.specs.Least.{IsUpTo}
use Rattle.vax_asm_second.specs.Faults.{first, first_of as least, precedes}
use Rattle.vax_asm_second.specs.declared.types.Fault.{Fault}
use Rattle.vax_macro.specs.Fault.{code_of}

abbrev pub Rank : Type 0
Rank = ℕ × ℕ

abbrev pub rank : Fault → Rank
rank f = (f.origin.place, code_of f.kind)

abbrev pub rank_cmp : Rank → Rank → Ordering
rank_cmp x y = ordering_then (nat_cmp x.0 y.0) (nat_cmp x.1 y.1)

rank_total : IsTotalOrder rank_cmp
rank_total = then_total (on_total (λ (r : Rank). r.0) nat_cmp_total) (on_total (λ (r : Rank). r.1) nat_cmp_total)

-- ---- what the test of a sort says

less_by : (s t u v : Bool) → is_lt (ordering_then (cond s Less (cond t Equal Greater)) (cond u Less (cond v Equal Greater))) ≡ (s || (t && u))
less_by true t u v = refl
less_by false true true v = refl
less_by false true false true = refl
less_by false true false false = refl
less_by false false u v = refl

less : (f g : Fault) → is_lt (rank_cmp (rank f) (rank g)) ≡ precedes f g
less f g = less_by (nat_lt f.origin.place g.origin.place) (f.origin.place == g.origin.place) (nat_lt (code_of f.kind) (code_of g.kind)) (code_of f.kind == code_of g.kind)

not_lower : (f g : Fault) → (g.origin.place == f.origin.place && nat_lt (code_of g.kind) (code_of f.kind)) ≡ false → g.origin.place ≡ f.origin.place → code_of f.kind ≤ code_of g.kind
not_lower f g h same = elim (and_cases (g.origin.place == f.origin.place) (nat_lt (code_of g.kind) (code_of f.kind)) h) [
  | inl apart ↦ absurd (eqb-false g.origin.place f.origin.place apart same)
  | inr more ↦ ltb-false (code_of g.kind) (code_of f.kind) more
]

up_to : (f g : Fault) → precedes g f ≡ false → IsUpTo f g
up_to f g h =
    let both = or_parts (nat_lt g.origin.place f.origin.place) (g.origin.place == f.origin.place && nat_lt (code_of g.kind) (code_of f.kind)) h in
    (ltb-false g.origin.place f.origin.place both.0, not_lower f g both.1)

by_line : (told : List Fault) → IsSortedByKey rank rank_cmp told → IsByLine told
by_line told up = λ i j d le more. up_to (slice_index_or told i d) (slice_index_or told j d)
    (sym (less (slice_index_or told j d) (slice_index_or told i d)) ∙ sorted_far (λ x y. is_lt (rank_cmp (rank x) (rank y))) (ranks_by rank_total rank) told up i j d le more)

-- ---- faults of one line and one kind

abbrev both : (c d : ℕ) → Bool
both c d = not (is_lt (nat_cmp c d)) && not (is_lt (nat_cmp d c))

both_by : (c d : ℕ) → (c ≡ d) ⊎ ((c < d) ⊎ (d < c)) → both c d ≡ (d == c)
both_by c d (inl same) = rw (le-ltb c d (omega (arith, same)), le-ltb d c (omega (arith, same)), eq-eqb c d same, eq-eqb d c (sym same)) refl
both_by c d (inr (inl more)) = rw (lt-ltb c d more, ne_eqb d c (λ e. absurd (omega (arith, e, more)))) refl
both_by c d (inr (inr less)) = rw (le-ltb c d (omega arith), ne_eqb c d (λ e. absurd (omega (arith, e, less))), lt-ltb d c less, ne_eqb d c (λ e. absurd (omega (arith, e, less)))) refl

abbrev tied : (p q c d : ℕ) → Bool
tied p q c d = not (is_lt (rank_cmp (p, c) (q, d))) && not (is_lt (rank_cmp (q, d) (p, c)))

tied_by : (p q c d : ℕ) → (p ≡ q) ⊎ ((p < q) ⊎ (q < p)) → tied p q c d ≡ ((q == p) && (d == c))
tied_by p q c d (inl same) = rw (le-ltb p q (omega (arith, same)), le-ltb q p (omega (arith, same)), eq-eqb p q same, eq-eqb q p (sym same)) (both_by c d (cases_order c d))
tied_by p q c d (inr (inl more)) = rw (lt-ltb p q more, ne_eqb q p (λ e. absurd (omega (arith, e, more)))) refl
tied_by p q c d (inr (inr less)) = rw (le-ltb p q (omega arith), ne_eqb p q (λ e. absurd (omega (arith, e, less))), lt-ltb q p less, ne_eqb q p (λ e. absurd (omega (arith, e, less)))) refl

tied_is : (p q c d : ℕ) → tied p q c d ≡ ((q == p) && (d == c))
tied_is p q c d = tied_by p q c d (cases_order p q)

same_filter : {X : Type 0} (p q : X → Bool) → ((x : X) → p x ≡ q x) → (xs : List X) → filter p xs ≡ filter q xs
same_filter {X} p q h [] = refl
same_filter {X} p q h (x ∷ xs) = ap (λ b. cond b (x ∷ filter p xs) (filter p xs)) (h x) ∙ ap (λ (l : List X). cond (q x) (x ∷ l) l) (same_filter p q h xs)

likes : (f : Fault) (xs : List Fault) → filter (ties (λ x y. is_lt (rank_cmp (rank x) (rank y))) f) xs ≡ filter (is_like f) xs
likes f xs = same_filter (ties (λ x y. is_lt (rank_cmp (rank x) (rank y))) f) (is_like f) (λ g. tied_is f.origin.place g.origin.place (code_of f.kind) (code_of g.kind)) xs

-- what a stable sort by line and kind leaves
pub sorted : (found told : List Fault) → IsPermutation found told → IsSortedByKey rank rank_cmp told → IsStableByKey rank rank_cmp found told → IsInOrder found told
sorted found told same up stable = record {
  same = same;
  by_line = by_line told up;
  stable = λ f. sym (likes f told) ∙ stable f ∙ likes f found;
}

-- ---- the first of them

like_itself : (f : Fault) → is_like f f ≡ true
like_itself f = rw (eq-eqb f.origin.place f.origin.place refl, eq-eqb (code_of f.kind) (code_of f.kind) refl) refl

-- one that comes before is of another line or of another kind
unlike : (k g : Fault) → precedes k g ≡ true → is_like k g ≡ false
unlike k g h = by_kind (nat_lt k.origin.place g.origin.place) (k.origin.place == g.origin.place) (nat_lt (code_of k.kind) (code_of g.kind)) refl refl refl h
  where
    by_kind : (s t u : Bool) → nat_lt k.origin.place g.origin.place ≡ s → (k.origin.place == g.origin.place) ≡ t → nat_lt (code_of k.kind) (code_of g.kind) ≡ u → (s || (t && u)) ≡ true → is_like k g ≡ false
    by_kind true t u i j l h = let more = ltb-true k.origin.place g.origin.place i in rw (ne_eqb g.origin.place k.origin.place (λ e. absurd (omega (arith, e, more)))) refl
    by_kind false true true i j l h =
        let same = eqb-true k.origin.place g.origin.place j in
        let more = ltb-true (code_of k.kind) (code_of g.kind) l in
        rw (eq-eqb g.origin.place k.origin.place (sym same), ne_eqb (code_of g.kind) (code_of k.kind) (λ e. absurd (omega (arith, e, more)))) refl
    by_kind false true false i j l h = absurd cc
    by_kind false false u i j l h = absurd cc

abbrev Begins : Fault → List Fault → Type 0
Begins f list = (more : List Fault) × (list ≡ f ∷ more)

first_like : (g : Fault) (gs : List Fault) (o : Option Fault) (f : Fault) → ((k : Fault) → o ≡ Some k → Begins k (filter (is_like k) gs)) → first (Some g) o ≡ Some f → Begins f (filter (is_like f) (g ∷ gs))
first_like g gs None f next e =
    let same : g ≡ f = cc in
    subst_begins g f gs same
  where
    subst_begins : (g f : Fault) (gs : List Fault) → g ≡ f → Begins f (filter (is_like f) (g ∷ gs))
    subst_begins g f gs same = (filter (is_like f) gs, ap (λ (x : Fault). cond (is_like f x) (x ∷ filter (is_like f) gs) (filter (is_like f) gs)) same ∙ ap (λ b. cond b (f ∷ filter (is_like f) gs) (filter (is_like f) gs)) (like_itself f))
first_like g gs (Some k) f next e = chosen (precedes k g) refl (next k refl) cc
  where
    chosen : (b : Bool) → precedes k g ≡ b → Begins k (filter (is_like k) gs) → (let h : Fault = cond b k g in h) ≡ f → Begins f (filter (is_like f) (g ∷ gs))
    chosen true is h same = (h.0, ap (λ (x : Fault). filter (is_like x) (g ∷ gs)) (sym same) ∙ ap (λ b. cond b (g ∷ filter (is_like k) gs) (filter (is_like k) gs)) (unlike k g is) ∙ h.1 ∙ ap (λ (x : Fault). x ∷ h.0) same)
    chosen false is h same = (filter (is_like f) gs, ap (λ (x : Fault). cond (is_like f x) (x ∷ filter (is_like f) gs) (filter (is_like f) gs)) same ∙ ap (λ b. cond b (f ∷ filter (is_like f) gs) (filter (is_like f) gs)) (like_itself f))

least_like : (faults : List Fault) (f : Fault) → least faults ≡ Some f → Begins f (filter (is_like f) faults)
least_like [] f e = absurd cc
least_like (g ∷ gs) f e = first_like g gs (least gs) f (λ k found. least_like gs k found) e

-- one of a list
one_by : (P : Fault → Type 0) (t : Bool) (g f : Fault) (gs more : List Fault) → P g → (gs ≡ f ∷ more → P f) → cond t (g ∷ gs) gs ≡ f ∷ more → P f
one_by P true g f gs more here next e = let same : g ≡ f = cc in subst P same here
one_by P false g f gs more here next e = next e

one_of : (P : Fault → Type 0) (p : Fault → Bool) (list : List Fault) (f : Fault) → All P list → Begins f (filter p list) → P f
one_of P p [] f all b = absurd (let e = b.1 in cc)
one_of P p (g ∷ gs) f all b =
    let parts = recursion_from_All P (g ∷ gs) all in
    one_by P (p g) g f (filter p gs) b.0 parts.0 (λ e. one_of P p gs f (All-from_recursion P gs parts.1) (b.0, e)) b.1

same_test : (f h : Fault) → IsUpTo f h → IsUpTo h f → is_like f h ≡ true
same_test f h a b =
    let low = a.0 in
    let high = b.0 in
    let same : h.origin.place ≡ f.origin.place = omega arith in
    let less = a.1 same in
    let more = b.1 (sym same) in
    let kind : code_of h.kind ≡ code_of f.kind = omega (arith, less, more) in
    rw (eq-eqb h.origin.place f.origin.place same, eq-eqb (code_of h.kind) (code_of f.kind) kind) refl

behind : (h : Fault) (more : List Fault) → IsByLine (h ∷ more) → All (IsUpTo h) more
behind h more up = λ k d less. up 0 (suc k) d (omega arith) (omega arith)

-- they begin with the least of all
pub begins_least : (found told : List Fault) (f : Fault) → IsInOrder found told → least found ≡ Some f → Begins f told
begins_least found [] f o e = absurd (let b = least_like found f e in let s = o.stable f in let t : filter (is_like f) found ≡ f ∷ b.0 = b.1 in cc)
begins_least found (h ∷ more) f o e = by (is_like f h) refl (sym (o.stable f) ∙ refl)
  where
    begins : Begins f (filter (is_like f) (h ∷ more))
    begins = let b = least_like found f e in (b.0, o.stable f ∙ b.1)

    by : (t : Bool) → is_like f h ≡ t → filter (is_like f) found ≡ filter (is_like f) (h ∷ more) → Begins f (h ∷ more)
    by true is s = let b = begins in let top : h ∷ filter (is_like f) more ≡ f ∷ b.0 = sym (ap (λ c. cond c (h ∷ filter (is_like f) more) (filter (is_like f) more)) is) ∙ b.1 in let same : h ≡ f = cc in (more, ap (λ (x : Fault). x ∷ more) same)
    by false is s =
        let b = begins in
        let top : filter (is_like f) more ≡ f ∷ b.0 = sym (ap (λ c. cond c (h ∷ filter (is_like f) more) (filter (is_like f) more)) is) ∙ b.1 in
        let low : IsUpTo h f = one_of (IsUpTo h) (is_like f) more f (behind h more o.by_line) (b.0, top) in
        let all = recursion_from_All (IsUpTo f) (h ∷ more) (All-permutation (IsUpTo f) found (h ∷ more) o.same (whole_is_least found f e).least) in
        let like = same_test f h all.0 low in
        absurd cc

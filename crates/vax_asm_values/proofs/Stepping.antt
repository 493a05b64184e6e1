-- Values while definitions are still to be looked at.
use Rattle.std.proofs.Common.{◌≡◌, ◌≢◌, ◌≤◌, ◌<◌, ℕ, zero, suc, ◌+◌, Bool, true, false, List, [], ◌∷◌, ◌++◌, length, Option, Some, None, refl, ap, sym, ◌∙◌, subst, arith, ⊎_elim, ◌⊎◌, inl, inr}
use Rattle.std.proofs.lemmas.Bool.Decides.{eqb_tells}
use Rattle.std.proofs.lemmas.List.{get_or-set_same, get_or-set_other, get_or-map, map-set}
use Rattle.std.proofs.Math.ListN.{get_or-eq_default}
use Rattle.std.specs.Prelude.{◌==◌, ◌||◌, All, map, is_some, slice_index_or, slice_set}
use Rattle.std.specs.Global.{Vec}
use Rattle.std.specs.Result.{result_ok}
use Rattle.vax_lex.specs.declared.value.Value.{Value}
use Rattle.vax_asm_values.specs.Values.{value_in, Meaning, Source, ToCome, Given, Worked, named, source_at, value_under, known_after}
use Rattle.vax_asm_values.specs.Waiting.{known, count, listed, waiters, Watches, Settled, Standing, Grown, weight}
use Rattle.vax_asm_values.proofs.Keeping.{Keeps}
use Rattle.vax_asm_values.proofs.Rounds.{under_kept, rounds_kept, count_more, more_known, known_before}

none_listed : (i : ℕ) → listed i [] ≡ true → ⊥
none_listed i e = absurd cc

pub at_rest : (sources : List Source) (values : List (Option Value)) (waiting : List (List ℕ)) → Standing sources values waiting [] → Settled sources values waiting
at_rest sources values waiting s = record {
  closed = λ i v e. ⊎_elim (λ y. y) (λ l. absurd (none_listed i l)) (s.closed i v e);
  consistent = s.consistent;
  backed = s.backed;
  watched = s.watched;
}

-- lists of numbers

or_true : (a b : Bool) → (a || b) ≡ true → (a ≡ true) ⊎ (b ≡ true)
or_true true b e = inl refl
or_true false b e = inr e

or_left : (a b : Bool) → a ≡ true → (a || b) ≡ true
or_left true b e = refl
or_left false b e = absurd cc

or_right : (a b : Bool) → b ≡ true → (a || b) ≡ true
or_right true b e = refl
or_right false b e = e

true_or_false : (b : Bool) → (b ≡ true) ⊎ (b ≡ false)
true_or_false true = inl refl
true_or_false false = inr refl

same_or_apart : (j i : ℕ) → (j ≡ i) ⊎ (j ≢ i)
same_or_apart j i = ⊎_elim (λ y. inl y.1) (λ n. inr n.1) (eqb_tells j i)

is_itself : (i : ℕ) → (i == i) ≡ true
is_itself i = ⊎_elim (λ y. y.0) (λ n. absurd (n.1 refl)) (eqb_tells i i)

is_same : (j i : ℕ) → (j == i) ≡ true → j ≡ i
is_same j i e = ⊎_elim (λ y. y.1) (λ n. let misses : true ≡ false = sym e ∙ n.0 in absurd cc) (eqb_tells j i)

listed_one : (j i : ℕ) → listed j (i ∷ []) ≡ true → j ≡ i
listed_one j i e = ⊎_elim (λ y. is_same j i y) (λ n. absurd (none_listed j n)) (or_true (j == i) false e)

listed_itself : (i : ℕ) → listed i (i ∷ []) ≡ true
listed_itself i = or_left (i == i) false (is_itself i)

pub listed_left : (j : ℕ) (xs ys : List ℕ) → listed j xs ≡ true → listed j (xs ++ ys) ≡ true
listed_left j [] ys e = absurd (none_listed j e)
listed_left j (x ∷ xs) ys e = ⊎_elim (λ y. or_left (j == x) (listed j (xs ++ ys)) y) (λ l. or_right (j == x) (listed j (xs ++ ys)) (listed_left j xs ys l)) (or_true (j == x) (listed j xs) e)

pub listed_right : (j : ℕ) (xs ys : List ℕ) → listed j ys ≡ true → listed j (xs ++ ys) ≡ true
listed_right j [] ys e = e
listed_right j (x ∷ xs) ys e = or_right (j == x) (listed j (xs ++ ys)) (listed_right j xs ys e)

listed_either : (j : ℕ) (xs ys : List ℕ) → listed j (xs ++ ys) ≡ true → (listed j xs ≡ true) ⊎ (listed j ys ≡ true)
listed_either j [] ys e = inr e
listed_either j (x ∷ xs) ys e =
    ⊎_elim
    (λ y. inl (or_left (j == x) (listed j xs) y))
    (λ l. ⊎_elim (λ y. inl (or_right (j == x) (listed j xs) y)) (λ y. inr y) (listed_either j xs ys l))
    (or_true (j == x) (listed j (xs ++ ys)) e)

listed_before : (j i : ℕ) (rest : List ℕ) → listed j (rest ++ i ∷ []) ≡ true → (listed j rest ≡ true) ⊎ (j ≡ i)
listed_before j i rest e = ⊎_elim (λ y. inl y) (λ l. inr (listed_one j i l)) (listed_either j rest (i ∷ []) e)

-- a definition that gives nothing new is looked at
pub looked_at : (sources : List Source) (values : List (Option Value)) (waiting : List (List ℕ)) (rest : List ℕ) (i : ℕ) → Standing sources values waiting (rest ++ i ∷ [])
    → ((v : Value) → value_under (known values) (source_at sources i) ≡ Some v → known values i ≡ Some v) → Standing sources values waiting rest
looked_at sources values waiting rest i s here = record {
  closed = λ j v e.
      ⊎_elim (λ y. inl y)
      (λ l. ⊎_elim (λ y. inr y) (λ is. let P : ℕ → Type 0 = λ k. value_under (known values) (source_at sources k) ≡ Some v → known values k ≡ Some v in inl (subst P (sym is) (here v) e)) (listed_before j i rest l))
      (s.closed j v e);
  consistent = s.consistent;
  backed = s.backed;
  watched = s.watched;
}

true_no : true ≡ false → ⊥
true_no e = absurd cc

-- a value that no name in an expression means changes nothing there
names_unchanged : (f g : ℕ → Option Value) (i : ℕ) → ((k : ℕ) → k ≢ i → g k ≡ f k) → (names : List Meaning) → All (λ m. m.definition ≢ i) names → (name : List ℕ) → named g names name ≡ named f names name
names_unchanged f g i same [] none name = refl
names_unchanged f g i same (m ∷ names) none name =
    let here : g m.definition ≡ f m.definition = same m.definition (none zero m (omega arith)) in
    let more : named g names name ≡ named f names name = names_unchanged f g i same names (λ k d h. none (suc k) d (omega (arith, h))) name in
    rw here (rw more refl)

source_unchanged : (f g : ℕ → Option Value) (i j : ℕ) (waiting : List (List ℕ)) → ((k : ℕ) → k ≢ i → g k ≡ f k) → (s : Source) → listed j (waiters waiting i) ≡ false → Watches waiting j s → value_under g s ≡ value_under f s
source_unchanged f g i j waiting same ToCome misses w = refl
source_unchanged f g i j waiting same (Given v) misses w = refl
source_unchanged f g i j waiting same (Worked w) misses watch =
    let none : All (λ (m : Meaning). m.definition ≢ i) w.names =
    λ k d h is.
    let P : ℕ → Type 0 = λ n. listed j (waiters waiting n) ≡ true in
    let yes : listed j (waiters waiting i) ≡ true = subst P is (watch k d h) in
    absurd (true_no (sym yes ∙ misses)) in
    let functions : named g w.names ≡ named f w.names = λ p. λ name. names_unchanged f g i same w.names none name p in
    ap (λ (names : List ℕ → Option Value). result_ok (value_in w.dialect names w.symbols)) functions

known_other : (values : List (Option Value)) (i : ℕ) (v : Value) (k : ℕ) → k ≢ i → known (slice_set values i (Some v)) k ≡ known values k
known_other values i v k n = get_or-set_other values i k (Some v) None n

known_itself : (values : List (Option Value)) (i : ℕ) (v : Value) → i < length values → known (slice_set values i (Some v)) i ≡ Some v
known_itself values i v h = get_or-set_same values i (Some v) None h

some_same : (a : Option Value) (u v : Value) → a ≡ Some v → a ≡ Some u → u ≡ v
some_same (Some x) u v e f = cc
some_same None u v e f = absurd cc

listed_or_not : (j : ℕ) (ks : List ℕ) → (listed j ks ≡ true) ⊎ (listed j ks ≡ false)
listed_or_not j ks = true_or_false (listed j ks)

still_backed : (sources : List Source) (values : List (Option Value)) (i : ℕ) (v : Value) → ((j : ℕ) (u : Value) → known values j ≡ Some u → known_after (count values) sources j ≡ Some u)
    → value_under (known values) (source_at sources i) ≡ Some v → (j : ℕ) (u : Value) → ((j ≡ i) × (u ≡ v)) ⊎ (known values j ≡ Some u) → known_after (suc (count values)) sources j ≡ Some u
unfolding known_after
still_backed sources values i v backed gives j u (inl is) =
    let P : ℕ → Type 0 = λ k. value_under (known_after (count values) sources) (source_at sources k) ≡ Some v in
    subst P (sym is.0) (under_kept (known values) (known_after (count values) sources) backed (source_at sources i) v gives) ∙ ap Some (sym is.1)
still_backed sources values i v backed gives j u (inr before) =
    rounds_kept (count values) (suc (count values)) sources sources (omega arith) (λ k. inr refl) j u (backed j u before)

still_closed : (sources : List Source) (values : List (Option Value)) (waiting : List (List ℕ)) (rest : List ℕ) (i : ℕ) (v : Value) → Standing sources values waiting (rest ++ i ∷ [])
    → i < length values → known values i ≡ None → value_under (known values) (source_at sources i) ≡ Some v
    → (j : ℕ) (u : Value) → value_under (known (slice_set values i (Some v))) (source_at sources j) ≡ Some u → (listed j (waiters waiting i) ≡ true) ⊎ (listed j (waiters waiting i) ≡ false)
    → (known (slice_set values i (Some v)) j ≡ Some u) ⊎ (listed j (rest ++ waiters waiting i) ≡ true)
still_closed sources values waiting rest i v s within unknown gives j u e (inl waits) = inr (listed_right j rest (waiters waiting i) waits)
still_closed sources values waiting rest i v s within unknown gives j u e (inr misses) =
    let more = slice_set values i (Some v) in
    let before : value_under (known values) (source_at sources j) ≡ Some u =
    sym (source_unchanged (known values) (known more) i j waiting (known_other values i v) (source_at sources j) misses (s.watched j)) ∙ e in
    ⊎_elim
    (λ y. inl (more_known values i v unknown j u y))
    (λ l. ⊎_elim
    (λ y. inr (listed_left j rest (waiters waiting i) y))
    (λ is. let P : ℕ → Type 0 = λ k. value_under (known values) (source_at sources k) ≡ Some u in
    let Q : ℕ → Type 0 = λ k. known more k ≡ Some u in
    let same : u ≡ v = some_same (value_under (known values) (source_at sources i)) u v gives (subst P is before) in
    inl (subst Q (sym is) (known_itself values i v within ∙ ap Some (sym same))))
    (listed_before j i rest l))
    (s.closed j u before)

-- a definition has a value, and those that wait for it are to be looked at
pub resolved : (sources : List Source) (values : List (Option Value)) (waiting : List (List ℕ)) (rest : List ℕ) (i : ℕ) (v : Value) → Standing sources values waiting (rest ++ i ∷ [])
    → i < length values → known values i ≡ None → value_under (known values) (source_at sources i) ≡ Some v
    → Standing sources (slice_set values i (Some v)) waiting (rest ++ waiters waiting i)
resolved sources values waiting rest i v s within unknown gives =
    let more = slice_set values i (Some v) in
    let kept : Keeps (known values) (known more) = more_known values i v unknown in
    record {
      closed = λ j u e. still_closed sources values waiting rest i v s within unknown gives j u e (listed_or_not j (waiters waiting i));
      consistent = λ j u e.
          ⊎_elim
          (λ is. let P : ℕ → Type 0 = λ k. value_under (known more) (source_at sources k) ≡ Some v in
          let here : value_under (known more) (source_at sources j) ≡ Some v = subst P (sym is.0) (under_kept (known values) (known more) kept (source_at sources i) v gives) in
          here ∙ ap Some (sym is.1))
          (λ before. under_kept (known values) (known more) kept (source_at sources j) u (s.consistent j u before))
          (known_before values i v j u e);
      backed = λ j u e. rw (count_more values i v within unknown) (still_backed sources values i v s.backed gives j u (known_before values i v j u e));
      watched = s.watched;
    }

unknown_first : (sources : List Source) (values : List (Option Value)) (i : ℕ) → ((v : Value) → known values i ≡ Some v → value_under (known values) (source_at sources i) ≡ Some v) → source_at sources i ≡ ToCome
    → (v : Value) → known values i ≡ Some v → ⊥
unknown_first sources values i consistent first v e = let none : None ≡ Some v = rw first at (consistent v e) in absurd cc

-- a definition that was to come is there, and is to be looked at
pub come : (sources : List Source) (values : List (Option Value)) (waiting watching : List (List ℕ)) (i : ℕ) (new : Source) → Settled sources values waiting
    → i < length sources → source_at sources i ≡ ToCome → ((j : ℕ) → Watches watching j (source_at (slice_set sources i new) j)) → Standing (slice_set sources i new) values watching (i ∷ [])
come sources values waiting watching i new s within first watched = record {
  closed = λ j v e. ⊎_elim (λ is. inr (rw is (listed_itself i))) (λ n. inl (s.closed j v (ap (value_under (known values)) (sym (get_or-set_other sources i j new ToCome n)) ∙ e))) (same_or_apart j i);
  consistent = λ j v e. ⊎_elim (λ is. absurd (unknown_first sources values i (s.consistent i) first v (rw is at e)))
      (λ n. ap (value_under (known values)) (get_or-set_other sources i j new ToCome n) ∙ s.consistent j v e) (same_or_apart j i);
  backed = λ j v e. rounds_kept (count values) (count values) sources (slice_set sources i new) (omega arith)
      (λ k. ⊎_elim (λ is. inl (rw is first)) (λ n. inr (get_or-set_other sources i k new ToCome n)) (same_or_apart k i)) j v (s.backed j v e);
  watched = watched;
}

-- more definitions wait

watches_grown : (ws vs : List (List ℕ)) (j : ℕ) (s : Source) → Grown ws vs → Watches ws j s → Watches vs j s
watches_grown ws vs j ToCome grown w = w
watches_grown ws vs j (Given v) grown w = w
watches_grown ws vs j (Worked e) grown w = λ k d h. grown (slice_index_or e.names k d).definition j (w k d h)

pub settled_grown : (sources : List Source) (values : List (Option Value)) (ws vs : List (List ℕ)) → Grown ws vs → Settled sources values ws → Settled sources values vs
settled_grown sources values ws vs grown s = record {
  closed = s.closed;
  consistent = s.consistent;
  backed = s.backed;
  watched = λ i. watches_grown ws vs i (source_at sources i) grown (s.watched i);
}

pub watched_more : (sources : List Source) (ws vs : List (List ℕ)) (i : ℕ) (new : Source) → i < length sources → ((j : ℕ) → Watches ws j (source_at sources j)) → Grown ws vs → Watches vs i new
    → (j : ℕ) → Watches vs j (source_at (slice_set sources i new) j)
watched_more sources ws vs i new within watched grown here j =
    ⊎_elim
    (λ is. let P : ℕ → Type 0 = λ k. Watches vs k (source_at (slice_set sources i new) k) in
    let Q : Source → Type 0 = λ s. Watches vs i s in
    subst P (sym is) (subst Q (sym (get_or-set_same sources i new ToCome within)) here))
    (λ n. let Q : Source → Type 0 = λ s. Watches vs j s in
    subst Q (sym (get_or-set_other sources i j new ToCome n)) (watches_grown ws vs j (source_at sources j) grown (watched j)))
    (same_or_apart j i)

pub one_waits : (ws : List (List ℕ)) (s i : ℕ) → s < length ws → Grown ws (slice_set ws s (waiters ws s ++ i ∷ [])) × (listed i (waiters (slice_set ws s (waiters ws s ++ i ∷ [])) s) ≡ true)
one_waits ws s i h = (
  λ k j l.
      ⊎_elim
      (λ is. let P : ℕ → Type 0 = λ n. listed j (waiters ws n) ≡ true in
      let Q : ℕ → Type 0 = λ n. listed j (waiters (slice_set ws s (waiters ws s ++ i ∷ [])) n) ≡ true in
      subst Q (sym is) (ap (listed j) (get_or-set_same ws s (waiters ws s ++ i ∷ []) [] h) ∙ listed_left j (waiters ws s) (i ∷ []) (subst P is l)))
      (λ n. ap (listed j) (get_or-set_other ws s k (waiters ws s ++ i ∷ []) [] n) ∙ l)
      (same_or_apart k s),
  ap (listed i) (get_or-set_same ws s (waiters ws s ++ i ∷ []) [] h) ∙ listed_right i (waiters ws s) (i ∷ []) (listed_itself i),
)

-- a definition that is known already, or that isn't there, gives nothing new
pub known_already : (sources : List Source) (values : List (Option Value)) (waiting : List (List ℕ)) (work : List ℕ) (i : ℕ) (u : Value) → Standing sources values waiting work → known values i ≡ Some u
    → (v : Value) → value_under (known values) (source_at sources i) ≡ Some v → known values i ≡ Some v
known_already sources values waiting work i u s e v gives = e ∙ ap Some (sym (some_same (value_under (known values) (source_at sources i)) v u (s.consistent i u e) gives))

pub nothing_new : (sources : List Source) (values : List (Option Value)) (i : ℕ) → value_under (known values) (source_at sources i) ≡ None → (v : Value) → value_under (known values) (source_at sources i) ≡ Some v → known values i ≡ Some v
nothing_new sources values i none v e = let both : None ≡ Some v = sym none ∙ e in absurd cc

pub not_there : (sources : List Source) (values : List (Option Value)) (i : ℕ) → length sources ≤ i → value_under (known values) (source_at sources i) ≡ None
not_there sources values i h = ap (value_under (known values)) (get_or-eq_default sources ToCome h)

-- what is left to do
pub weight_less : (values : List (Option Value)) (waiting : List (List ℕ)) (i : ℕ) (v : Value) → i < length values → known values i ≡ None
    → weight (slice_set values i (Some v)) waiting + length (waiters waiting i) ≡ weight values waiting
weight_less [] waiting i v h n = absurd (omega (arith, h))
weight_less (x ∷ values) [] zero v h n = refl
weight_less (x ∷ values) [] (suc i) v h n = refl
weight_less (Some x ∷ values) (w ∷ waiting) zero v h n = absurd cc
weight_less (None ∷ values) (w ∷ waiting) zero v h n = omega arith
weight_less (Some x ∷ values) (w ∷ waiting) (suc i) v h n = weight_less values waiting i v (omega (arith, h)) n
weight_less (None ∷ values) (w ∷ waiting) (suc i) v h n = omega (arith, weight_less values waiting i v (omega (arith, h)) n)

-- one definition more that is to come
default_behind : {X : Type 0} (xs : List X) (i : ℕ) (d : X) → slice_index_or (xs ++ d ∷ []) i d ≡ slice_index_or xs i d
default_behind [] zero d = refl
default_behind [] (suc i) d = refl
default_behind (x ∷ xs) zero d = refl
default_behind (x ∷ xs) (suc i) d = default_behind xs i d

count_behind : (values : List (Option Value)) → count (values ++ None ∷ []) ≡ count values
count_behind [] = refl
count_behind (Some v ∷ values) = ap suc (count_behind values)
count_behind (None ∷ values) = count_behind values

same_known : (values : List (Option Value)) → known (values ++ None ∷ []) ≡ known values
same_known values = λ p. λ i. default_behind values i None p

pub settled_behind : (sources : List Source) (values : List (Option Value)) (waiting : List (List ℕ)) → Settled sources values waiting → Settled (sources ++ ToCome ∷ []) (values ++ None ∷ []) (waiting ++ [] ∷ [])
settled_behind sources values waiting s =
    let K : (ℕ → Option Value) → Type 0 = λ f. (i : ℕ) (v : Value) → value_under f (source_at (sources ++ ToCome ∷ []) i) ≡ Some v → f i ≡ Some v in
    let L : (ℕ → Option Value) → Type 0 = λ f. (i : ℕ) (v : Value) → f i ≡ Some v → value_under f (source_at (sources ++ ToCome ∷ []) i) ≡ Some v in
    record {
      closed = subst K (sym (same_known values)) (λ i v e. s.closed i v (ap (value_under (known values)) (sym (default_behind sources i ToCome)) ∙ e));
      consistent = subst L (sym (same_known values)) (λ i v e. ap (value_under (known values)) (default_behind sources i ToCome) ∙ s.consistent i v e);
      backed = λ i v e. rw (count_behind values) (rounds_kept (count values) (count values) sources (sources ++ ToCome ∷ []) (omega arith) (λ k. inr (default_behind sources k ToCome)) i v
          (s.backed i v (sym (default_behind values i None) ∙ e)));
      watched = λ i. let P : Source → Type 0 = λ t. Watches (waiting ++ [] ∷ []) i t in
          subst P (sym (default_behind sources i ToCome)) (watches_grown waiting (waiting ++ [] ∷ []) i (source_at sources i) (λ k j l. ap (listed j) (default_behind waiting k []) ∙ l) (s.watched i));
    }

pub nothing_settled : Settled [] [] []
nothing_settled = record {
  closed = λ i v e. e;
  consistent = λ i v e. e;
  backed = λ i v e. absurd cc;
  watched = λ i. tt;
}

-- what code sees of a list

pub unknown_at : (values : List (Option Value)) (i : ℕ) (x : Option Value) → x ≡ slice_index_or values i x → is_some x ≡ false → known values i ≡ None
unknown_at values i None e n = sym e
unknown_at values i (Some v) e n = absurd cc

pub waits_at : (ws : List (Vec ℕ)) (i : ℕ) (v : Vec ℕ) → i < length ws → v ≡ slice_index_or ws i v → waiters (map (λ w. w.items) ws) i ≡ v.items
waits_at ws i v h e = get_or-map (λ (w : Vec ℕ). w.items) ws i v [] h ∙ ap (λ (w : Vec ℕ). w.items) (sym e)

pub wait_added : (ws : List (Vec ℕ)) (i : ℕ) (v w : Vec ℕ) (n : ℕ) → i < length ws → v ≡ slice_index_or ws i v → w.items ≡ v.items ++ n ∷ []
    → map (λ x. x.items) (slice_set ws i w) ≡ slice_set (map (λ x. x.items) ws) i (waiters (map (λ x. x.items) ws) i ++ n ∷ [])
wait_added ws i v w n h e more =
    map-set (λ (x : Vec ℕ). x.items) ws i w ∙ ap (slice_set (map (λ (x : Vec ℕ). x.items) ws) i) (more ∙ ap (λ (l : List ℕ). l ++ n ∷ []) (sym (waits_at ws i v h e)))

-- What definitions were at a mark stays the same while changes are written down.
use Rattle.std.proofs.Common.{◌≡◌, ◌<◌, ◌≤◌, ◌-◌, ℕ, Bool, true, false, List, [], ◌∷◌, ◌++◌, length, map, take, Option, Some, None, refl, ap, sym, ◌∙◌, subst, arith, ⊎_elim, ◌⊎◌, inl, inr}
use Rattle.std.proofs.lemmas.Bool.{cases_lt}
use Rattle.std.proofs.lemmas.List.{length-append, length-map, length-set, length-take-le, get_or-take, set-get_or, set-set, map-set, map-append}
use Rattle.std.proofs.Math.ListN.{get_or-eq_default}
use Rattle.std.proofs.Math.Seq.{take-append_seam}
use Rattle.std.specs.Global.{Vec}
use Rattle.std.specs.Prelude.{if◌then◌else◌, slice_set}
use Rattle.vax_lex.specs.declared.value.Value.{Value}
use Rattle.vax_asm_values.specs.Marks.{without_last, source_before, value_before, wait_before, sources_before, values_before, waiting_before, marked_in, marked_sources_in, marked_values_in, marked_waiting_in, Restorable, Noted, KeepsMark}
use Rattle.vax_asm_values.specs.Values.{Source, ToCome, source_at}
use Rattle.vax_asm_values.specs.View.{source_of, sources_in, lists_in}
use Rattle.vax_asm_values.specs.Waiting.{Settled, Grown, known, listed, waiters}
use Rattle.vax_asm_values.specs.declared.types.Board.{Board}
use Rattle.vax_asm_values.specs.declared.types.Source as declared
use Rattle.vax_asm_values.specs.declared.journal.Change.{Change}
use Rattle.vax_asm_values.specs.declared.journal.Change.TheVariants.{Opened, Defined, Known}
use Rattle.vax_asm_values.proofs.Stepping.{settled_grown}

-- lists without their last item

pub last_gone : {X : Type 0} (xs : List X) (x : X) → without_last (xs ++ x ∷ []) ≡ xs
last_gone xs x =
    let long : length (xs ++ x ∷ []) - 1 ≡ length xs = omega (arith, length-append xs (x ∷ [])) in
    ap (λ (n : ℕ). take n (xs ++ x ∷ [])) long ∙ take-append_seam xs (x ∷ [])

one_less : {X : Type 0} (xs : List X) → length (without_last xs) ≡ length xs - 1
one_less xs = length-take-le (length xs - 1) xs (omega arith)

waiters_without : (ws : List (List ℕ)) (k : ℕ) → ((k < length ws - 1) × (waiters (without_last ws) k ≡ waiters ws k)) ⊎ ((length ws - 1 ≤ k) × (waiters (without_last ws) k ≡ []))
waiters_without ws k =
    ⊎_elim
    (λ h. inl (h, get_or-take (length ws - 1) ws k [] h))
    (λ h. inr (h, get_or-eq_default (without_last ws) [] (omega (arith, h, one_less ws))))
    (cases_lt k (length ws - 1))

less_waits : (ws vs : List (List ℕ)) → Grown ws vs → length ws ≡ length vs → Grown (without_last ws) (without_last vs)
less_waits ws vs grown same k j l =
    ⊎_elim
    (λ h. let here : listed j (waiters ws k) ≡ true = ap (listed j) (sym h.1) ∙ l in
    ap (listed j) (get_or-take (length vs - 1) vs k [] (omega (arith, h.0, same))) ∙ grown k j here)
    (λ h. let none : false ≡ true = ap (listed j) (sym h.1) ∙ l in absurd cc)
    (waiters_without ws k)

-- one change

wait_grown : (c : Change) (ws vs : List (List ℕ)) → Grown ws vs → length ws ≡ length vs → Grown (wait_before c ws) (wait_before c vs)
wait_grown Opened ws vs grown same = less_waits ws vs grown same
wait_grown (Defined i) ws vs grown same = grown
wait_grown (Known i) ws vs grown same = grown

wait_long : (c : Change) (ws vs : List (List ℕ)) → length ws ≡ length vs → length (wait_before c ws) ≡ length (wait_before c vs)
wait_long Opened ws vs same = one_less ws ∙ ap (λ (n : ℕ). n - 1) same ∙ sym (one_less vs)
wait_long (Defined i) ws vs same = same
wait_long (Known i) ws vs same = same

value_long : (c : Change) (sources : List Source) (values : List (Option Value)) → length values ≡ length sources → length (value_before c values) ≡ length (source_before c sources)
value_long Opened sources values same = one_less values ∙ ap (λ (n : ℕ). n - 1) same ∙ sym (one_less sources)
value_long (Defined i) sources values same = same ∙ sym (length-set sources i ToCome)
value_long (Known i) sources values same = length-set values i None ∙ same

waits_long : (c : Change) (sources : List Source) (waiting : List (List ℕ)) → length waiting ≡ length sources → length (wait_before c waiting) ≡ length (source_before c sources)
waits_long Opened sources waiting same = one_less waiting ∙ ap (λ (n : ℕ). n - 1) same ∙ sym (one_less sources)
waits_long (Defined i) sources waiting same = same ∙ sym (length-set sources i ToCome)
waits_long (Known i) sources waiting same = same

-- all changes

waiting_grown : (cs : List Change) (ws vs : List (List ℕ)) → Grown ws vs → length ws ≡ length vs → Grown (waiting_before cs ws) (waiting_before cs vs) × (length (waiting_before cs ws) ≡ length (waiting_before cs vs))
waiting_grown [] ws vs grown same = (grown, same)
waiting_grown (c ∷ cs) ws vs grown same =
    let rest = waiting_grown cs ws vs grown same in
    (wait_grown c (waiting_before cs ws) (waiting_before cs vs) rest.0 rest.1, wait_long c (waiting_before cs ws) (waiting_before cs vs) rest.1)

pub values_long : (cs : List Change) (sources : List Source) (values : List (Option Value)) → length values ≡ length sources → length (values_before cs values) ≡ length (sources_before cs sources)
values_long [] sources values same = same
values_long (c ∷ cs) sources values same = value_long c (sources_before cs sources) (values_before cs values) (values_long cs sources values same)

pub waiting_long : (cs : List Change) (sources : List Source) (waiting : List (List ℕ)) → length waiting ≡ length sources → length (waiting_before cs waiting) ≡ length (sources_before cs sources)
waiting_long [] sources waiting same = same
waiting_long (c ∷ cs) sources waiting same = waits_long c (sources_before cs sources) (waiting_before cs waiting) (waiting_long cs sources waiting same)

-- one change more

pub one_source : (cs : List Change) (c : Change) (sources : List Source) → sources_before (cs ++ c ∷ []) sources ≡ sources_before cs (source_before c sources)
one_source [] c sources = refl
one_source (d ∷ cs) c sources = ap (source_before d) (one_source cs c sources)

pub one_value : (cs : List Change) (c : Change) (values : List (Option Value)) → values_before (cs ++ c ∷ []) values ≡ values_before cs (value_before c values)
one_value [] c values = refl
one_value (d ∷ cs) c values = ap (value_before d) (one_value cs c values)

pub one_wait : (cs : List Change) (c : Change) (waiting : List (List ℕ)) → waiting_before (cs ++ c ∷ []) waiting ≡ waiting_before cs (wait_before c waiting)
one_wait [] c waiting = refl
one_wait (d ∷ cs) c waiting = ap (wait_before d) (one_wait cs c waiting)

-- the mark is kept

pub kept_itself : (b : Board) → KeepsMark b b
kept_itself b marked = record { marked = marked; sources = refl; values = refl; waiting = λ k j l. l }

pub kept_through : (a b c : Board) → KeepsMark a b → KeepsMark b c → KeepsMark a c
kept_through a b c first second marked =
    let late = second marked in
    let early = first late.marked in
    record {
      marked = early.marked;
      sources = late.sources ∙ early.sources;
      values = late.values ∙ early.values;
      waiting = λ k j l. late.waiting k j (early.waiting k j l);
    }

-- a change is written down that gives back what was there
pub noted : (old new : Board) (c : Change) → Noted old.journal new.journal c → source_before c (sources_in new.sources) ≡ sources_in old.sources → value_before c new.values.items ≡ old.values.items
    → Grown (lists_in old.waiting) (wait_before c (lists_in new.waiting)) → length (lists_in old.waiting) ≡ length (wait_before c (lists_in new.waiting)) → KeepsMark old new
noted old new c down sources values grown long marked =
    let cs = old.journal.changes.items in
    let more : new.journal.changes.items ≡ cs ++ c ∷ [] = (down marked).1 in
    let W : List (List ℕ) → Type 0 = λ ws. Grown (marked_waiting_in old) ws in
    let same : marked_waiting_in new ≡ waiting_before cs (wait_before c (lists_in new.waiting)) =
    ap (λ (l : List Change). waiting_before l (lists_in new.waiting)) more ∙ one_wait cs c (lists_in new.waiting) in
    record {
      marked = (down marked).0;
      sources = ap (λ (l : List Change). sources_before l (sources_in new.sources)) more ∙ one_source cs c (sources_in new.sources) ∙ ap (sources_before cs) sources;
      values = ap (λ (l : List Change). values_before l new.values.items) more ∙ one_value cs c new.values.items ∙ ap (values_before cs) values;
      waiting = subst W (sym same) (waiting_grown cs (lists_in old.waiting) (wait_before c (lists_in new.waiting)) grown long).0;
    }

pub restorable_kept : (old new : Board) → KeepsMark old new → Restorable old → Restorable new
restorable_kept old new kept before marked =
    let same = kept marked in
    let P : List Source → Type 0 = λ s. Settled s (marked_values_in new) (marked_waiting_in new) in
    let Q : List (Option Value) → Type 0 = λ v. Settled (marked_sources_in old) v (marked_waiting_in new) in
    subst P (sym same.sources) (subst Q (sym same.values) (settled_grown (marked_sources_in old) (marked_values_in old) (marked_waiting_in old) (marked_waiting_in new) same.waiting (before same.marked)))

still_marked : (a b : Bool) (x y m : List Source) → (a ≡ true → (b ≡ true) × (x ≡ y)) → (if a then Some x else None) ≡ Some m → (if b then Some y else None) ≡ Some m
still_marked true b x y m h e = rw (h refl).0 (ap Some (sym (h refl).1) ∙ e)
still_marked false b x y m h e = absurd cc

pub mark_kept : (old new : Board) → KeepsMark old new → (m : List Source) → marked_in new ≡ Some m → marked_in old ≡ Some m
mark_kept old new kept m e =
    still_marked new.journal.marked old.journal.marked (marked_sources_in new) (marked_sources_in old) m (λ h. ((kept h).marked, (kept h).sources)) e

-- what code does to the lists

pub last_seen : {X Y : Type 0} (f : X → Y) (xs ys : List X) (x : X) → ys ≡ xs ++ x ∷ [] → without_last (map f ys) ≡ map f xs
last_seen f xs ys x e = ap (λ l. without_last (map f l)) e ∙ ap without_last (map-append f xs (x ∷ [])) ∙ last_gone (map f xs) (f x)

pub value_unset : (values : List (Option Value)) (i : ℕ) (v : Value) → known values i ≡ None → slice_set (slice_set values i (Some v)) i None ≡ values
value_unset values i v none = set-set values i (Some v) None ∙ ap (slice_set values i) (sym none) ∙ set-get_or values i None

pub source_unset : (sources : List declared.Source) (i : ℕ) (new : declared.Source) → source_at (map source_of sources) i ≡ ToCome → slice_set (map source_of (slice_set sources i new)) i ToCome ≡ map source_of sources
source_unset sources i new first =
    ap (λ (l : List Source). slice_set l i ToCome) (map-set source_of sources i new)
    ∙ set-set (map source_of sources) i (source_of new) ToCome
    ∙ ap (slice_set (map source_of sources) i) (sym first)
    ∙ set-get_or (map source_of sources) i ToCome

-- the last change is undone

pub source_back : (cs all : List Change) (c : Change) (sources less : List Source) → all ≡ cs ++ c ∷ [] → less ≡ source_before c sources → sources_before cs less ≡ sources_before all sources
source_back cs all c sources less more e = ap (sources_before cs) e ∙ sym (one_source cs c sources) ∙ ap (λ (l : List Change). sources_before l sources) (sym more)

pub value_back : (cs all : List Change) (c : Change) (values less : List (Option Value)) → all ≡ cs ++ c ∷ [] → less ≡ value_before c values → values_before cs less ≡ values_before all values
value_back cs all c values less more e = ap (values_before cs) e ∙ sym (one_value cs c values) ∙ ap (λ (l : List Change). values_before l values) (sym more)

pub wait_back : (cs all : List Change) (c : Change) (waiting less : List (List ℕ)) → all ≡ cs ++ c ∷ [] → less ≡ wait_before c waiting → waiting_before cs less ≡ waiting_before all waiting
wait_back cs all c waiting less more e = ap (waiting_before cs) e ∙ sym (one_wait cs c waiting) ∙ ap (λ (l : List Change). waiting_before l waiting) (sym more)

-- a board that went back

pub settled_back : (old new : Board) → old.journal.marked ≡ true → Restorable old → sources_in new.sources ≡ marked_sources_in old → new.values.items ≡ marked_values_in old → lists_in new.waiting ≡ marked_waiting_in old
    → Settled (sources_in new.sources) new.values.items (lists_in new.waiting)
settled_back old new marked before sources values waiting =
    let P : List Source → Type 0 = λ s. Settled s new.values.items (lists_in new.waiting) in
    let Q : List (Option Value) → Type 0 = λ v. Settled (marked_sources_in old) v (lists_in new.waiting) in
    let R : List (List ℕ) → Type 0 = λ w. Settled (marked_sources_in old) (marked_values_in old) w in
    subst P (sym sources) (subst Q (sym values) (subst R (sym waiting) (before marked)))

pub values_back : (old new : Board) → length old.values.items ≡ length old.sources.items → sources_in new.sources ≡ marked_sources_in old → new.values.items ≡ marked_values_in old → length new.values.items ≡ length new.sources.items
values_back old new same sources values =
    ap length values
    ∙ values_long old.journal.changes.items (sources_in old.sources) old.values.items (same ∙ sym (length-map old.sources.items source_of))
    ∙ sym (ap length sources) ∙ length-map new.sources.items source_of

pub waiting_back : (old new : Board) → length old.waiting.items ≡ length old.sources.items → sources_in new.sources ≡ marked_sources_in old → lists_in new.waiting ≡ marked_waiting_in old → length new.waiting.items ≡ length new.sources.items
waiting_back old new same sources waiting =
    let W : Vec ℕ → List ℕ = λ w. w.items in
    sym (length-map new.waiting.items W)
    ∙ ap length waiting
    ∙ waiting_long old.journal.changes.items (sources_in old.sources) (lists_in old.waiting) (length-map old.waiting.items W ∙ same ∙ sym (length-map old.sources.items source_of))
    ∙ sym (ap length sources) ∙ length-map new.sources.items source_of

pub no_mark_left : (b : Board) → b.journal.marked ≡ false → Restorable b
no_mark_left b none marked = let both : false ≡ true = sym none ∙ marked in absurd cc

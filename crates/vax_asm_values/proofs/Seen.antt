-- What the code's lists are in the definitions' terms.
use Rattle.std.proofs.Common.{◌≡◌, ◌<◌, ℕ, zero, suc, List, [], ◌∷◌, ◌++◌, All, length, map, true, Option, None, refl, ap, sym, ◌∙◌, subst, arith, ⊎_elim, ◌⊎◌, inl, inr, ◌+◌}
use Rattle.std.proofs.lemmas.List.{get_or-map, get_or_default, map-append, length-map}
use Rattle.std.specs.Global.{Vec}
use Rattle.std.specs.Prelude.{slice_index_or}
use Rattle.vax_lex.specs.declared.value.Value.{Value}
use Rattle.vax_asm_values.specs.Values as specs
use Rattle.vax_asm_values.specs.View.{meaning_of, source_of}
use Rattle.vax_asm_values.specs.Waiting.{known, listed, waiters, Settled, Grown}
use Rattle.vax_asm_values.specs.declared.types.Meaning.{Meaning}
use Rattle.vax_asm_values.specs.declared.types.Source.{Source}
use Rattle.vax_asm_values.specs.declared.types.Source.TheVariants.{ToCome}
use Rattle.vax_asm_values.proofs.Rounds.{rounds_give}
use Rattle.vax_asm_values.proofs.Stepping.{settled_behind}

pub means_each : (n : ℕ) (names : List Meaning) → All (λ (m : specs.Meaning). m.definition < n) (map meaning_of names) → All (λ (m : Meaning). m.definition < n) names
means_each n names h k d l =
    let P : specs.Meaning → Type 0 = λ m. m.definition < n in
    subst P (get_or-map meaning_of names k d (meaning_of d) l) (h k (meaning_of d) (rw (length-map names meaning_of) l))

pub waits_each : (n : ℕ) (lists : List (List ℕ)) (names : List Meaning) → All (λ (m : Meaning). listed n (waiters lists m.definition) ≡ true) names → All (λ (m : specs.Meaning). listed n (waiters lists m.definition) ≡ true) (map meaning_of names)
waits_each n lists [] h k d l = absurd (omega (arith, l))
waits_each n lists (x ∷ names) h k d l =
    let P : specs.Meaning → Type 0 = λ m. listed n (waiters lists m.definition) ≡ true in
    let within : k < length (x ∷ names) = rw (length-map (x ∷ names) meaning_of) at l in
    subst P (sym (get_or-map meaning_of (x ∷ names) k x d within)) (h k x within)

pub opened : (sources : List Source) (values : List (Option Value)) (waiting : List (Vec ℕ)) (v : Vec ℕ) → v.items ≡ [] → Settled (map source_of sources) values (map (λ w. w.items) waiting)
    → Settled (map source_of (sources ++ ToCome ∷ [])) (values ++ None ∷ []) (map (λ w. w.items) (waiting ++ v ∷ []))
opened sources values waiting v none s =
    let P : List specs.Source → Type 0 = λ l. Settled l (values ++ None ∷ []) (map (λ (w : Vec ℕ). w.items) (waiting ++ v ∷ [])) in
    let Q : List (List ℕ) → Type 0 = λ l. Settled (map source_of sources ++ specs.ToCome ∷ []) (values ++ None ∷ []) l in
    let lists : map (λ (w : Vec ℕ). w.items) (waiting ++ v ∷ []) ≡ map (λ (w : Vec ℕ). w.items) waiting ++ [] ∷ [] =
    map-append (λ (w : Vec ℕ). w.items) waiting (v ∷ []) ∙ ap (λ (l : List ℕ). map (λ (w : Vec ℕ). w.items) waiting ++ l ∷ []) none in
    subst P (sym (map-append source_of sources (ToCome ∷ []))) (subst Q (sym lists) (settled_behind (map source_of sources) values (map (λ (w : Vec ℕ). w.items) waiting) s))

last_or_before : (k i : ℕ) → k < i + 1 → (k ≡ i) ⊎ (k < i)
last_or_before zero zero h = inl refl
last_or_before zero (suc i) h = inr (omega arith)
last_or_before (suc k) zero h = absurd (omega (arith, h))
last_or_before (suc k) (suc i) h = ⊎_elim (λ e. inl (ap suc e)) (λ l. inr (omega (arith, l))) (last_or_before k i (omega (arith, h)))

pub one_more_waits : (n i : ℕ) (old new : List (List ℕ)) (names : List Meaning) (x : Meaning) → i < length names → x ≡ slice_index_or names i x → Grown old new → listed n (waiters new x.definition) ≡ true
    → ((k : ℕ) (d : Meaning) → k < i → listed n (waiters old (slice_index_or names k d).definition) ≡ true)
    → (k : ℕ) (d : Meaning) → k < i + 1 → listed n (waiters new (slice_index_or names k d).definition) ≡ true
one_more_waits n i old new names x h at grown here before k d l =
    ⊎_elim
    (λ is. let P : Meaning → Type 0 = λ m. listed n (waiters new m.definition) ≡ true in
    let e : slice_index_or names k d ≡ x = ap (λ j. slice_index_or names j d) is ∙ get_or_default names i d x h ∙ sym at in
    subst P (sym e) here)
    (λ less. grown (slice_index_or names k d).definition n (before k d less))
    (last_or_before k i l)

pub values_are : (sources : List specs.Source) (values : List (Option Value)) (waiting : List (List ℕ)) → length values ≡ length sources → Settled sources values waiting → known values ≡ specs.value_of sources
values_are sources values waiting same s = λ p. λ i. rounds_give sources values same s.closed s.backed i p

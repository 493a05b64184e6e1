-- Where a traced run is to stop.
use Rattle.std.proofs.Common.{ℕ, zero, suc, ◌≡◌, ◌+◌, ◌<◌, ◌≤◌, Bool, true, false, nat_lt, List, refl, sym, ap, ◌∙◌, subst, arith, inl, inr}
use Rattle.std.specs.Prelude.{◌&&◌, if◌then◌else◌}
use Rattle.std.proofs.lemmas.Bool.Decides.{nat_tests}
use Rattle.std.proofs.lemmas.Bool.{cases_lt}
use Rattle.vax_flat.specs.Step.{Flat, run}
use Rattle.vax_watch.specs.Breaks.{IsFirstBreak, is_break, stop_at, stop_from}

-- whether it stops before a step
abbrev stops_before : ℕ → List ℕ → Flat → Bool
stops_before step breaks start = nat_lt 0 step && is_break breaks (run step start)

and_true : (a b : Bool) → (a && b) ≡ true → (a ≡ true) × (b ≡ true)
and_true true b h = (refl, h)
and_true false b h = absurd (cc h)

and_false : (a b : Bool) → (a ≡ true → b ≡ false) → (a && b) ≡ false
and_false true b h = h refl
and_false false b h = refl

some_of : (step : ℕ) → nat_lt 0 step ≡ true → 1 ≤ step
some_of step h = grind (arith, nat_tests)

some_is : (step : ℕ) → 1 ≤ step → nat_lt 0 step ≡ true
some_is step h = grind (arith, nat_tests)

free_test : (step : ℕ) (b : Bool) → (1 ≤ step → b ≡ false) → (nat_lt 0 step && b) ≡ false
free_test step b h = and_false (nat_lt 0 step) b (λ k. h (some_of step k))

here_test : (step : ℕ) (b : Bool) → 1 ≤ step → b ≡ true → (nat_lt 0 step && b) ≡ true
here_test step b some is = ap (λ (x : Bool). x && b) (some_is step some) ∙ is

-- it lies between

within_if : (c : Bool) (step more x : ℕ) → (step + 1 ≤ x) × (x ≤ step + 1 + more) → (step ≤ (if c then step else x)) × ((if c then step else x) ≤ step + suc more)
within_if true step more x h = (omega arith, omega arith)
within_if false step more x h = let a = h.0 in let b = h.1 in (omega (arith, a), omega (arith, b))

stop_within : (more step : ℕ) (breaks : List ℕ) (start : Flat) → (step ≤ stop_from more step breaks start) × (stop_from more step breaks start ≤ step + more)
unfolding stop_from
stop_within zero step breaks start = (omega arith, omega arith)
stop_within (suc more) step breaks start =
    within_if (stops_before step breaks start) step more (stop_from more (step + 1) breaks start) (stop_within more (step + 1) breaks start)

pub stop_below : (limit : ℕ) (breaks : List ℕ) (start : Flat) → stop_at limit breaks start ≤ limit
stop_below limit breaks start = let w = (stop_within limit 0 breaks start).1 in omega (arith, w)

-- one step more

one_on : (more step : ℕ) (breaks : List ℕ) (start : Flat) → stops_before step breaks start ≡ false → stop_from (suc more) step breaks start ≡ stop_from more (step + 1) breaks start
unfolding stop_from
one_on more step breaks start e = ap (λ (c : Bool). if c then step else stop_from more (step + 1) breaks start) e

stays_on : (more step : ℕ) (breaks : List ℕ) (start : Flat) → stops_before step breaks start ≡ true → stop_from (suc more) step breaks start ≡ step
unfolding stop_from
stays_on more step breaks start e = ap (λ (c : Bool). if c then step else stop_from more (step + 1) breaks start) e

-- it passes steps that begin at none of the addresses
passes : (more step n : ℕ) (breaks : List ℕ) (start : Flat) → step ≤ n → n < step + more → ((k : ℕ) → 1 ≤ k → k ≤ n → is_break breaks (run k start) ≡ false) → n < stop_from more step breaks start
passes zero step n breaks start low high free = absurd (omega (arith, low, high))
passes (suc more) step n breaks start low high free =
    let e = one_on more step breaks start (free_test step (is_break breaks (run step start)) (λ some. free step some low)) in
    subst (λ (x : ℕ). n < x) (sym e) (elim (cases_lt step n) [
      | inl early ↦ passes more (step + 1) n breaks start (omega (arith, early)) (omega (arith, high)) free
      | inr here ↦ let w = (stop_within more (step + 1) breaks start).0 in omega (arith, w, here)
    ])

-- it stops at the first that begins at one
meets : (more step n : ℕ) (breaks : List ℕ) (start : Flat) → step ≤ n → n < step + more → 1 ≤ n → is_break breaks (run n start) ≡ true → ((k : ℕ) → 1 ≤ k → k < n → is_break breaks (run k start) ≡ false) → stop_from more step breaks start ≡ n
meets zero step n breaks start low high some is free = absurd (omega (arith, low, high))
meets (suc more) step n breaks start low high some is free = elim (cases_lt step n) [
  | inl early ↦
      one_on more step breaks start (free_test step (is_break breaks (run step start)) (λ one. free step one early))
      ∙ meets more (step + 1) n breaks start (omega (arith, early)) (omega (arith, high)) some is free
  | inr here ↦
      let e : step ≡ n = omega (arith, low, here) in
      stays_on more step breaks start (here_test step (is_break breaks (run step start)) (omega (arith, e, some)) (ap (λ (k : ℕ). is_break breaks (run k start)) e ∙ is)) ∙ e
]

-- or goes to the end
ends : (more step : ℕ) (breaks : List ℕ) (start : Flat) → ((k : ℕ) → 1 ≤ k → k < step + more → is_break breaks (run k start) ≡ false) → stop_from more step breaks start ≡ step + more
unfolding stop_from
ends zero step breaks start free = omega arith
ends (suc more) step breaks start free =
    one_on more step breaks start (free_test step (is_break breaks (run step start)) (λ some. free step some (omega arith)))
    ∙ (ends more (step + 1) breaks start (λ k some low. free k some (omega (arith, low))) ∙ omega arith)

pub stop_above : (limit n : ℕ) (breaks : List ℕ) (start : Flat) → n < limit → ((k : ℕ) → 1 ≤ k → k ≤ n → is_break breaks (run k start) ≡ false) → n < stop_at limit breaks start
stop_above limit n breaks start low free = passes limit 0 n breaks start (omega arith) (omega (arith, low)) free

pub stop_limit : (limit : ℕ) (breaks : List ℕ) (start : Flat) → ((k : ℕ) → 1 ≤ k → k < limit → is_break breaks (run k start) ≡ false) → stop_at limit breaks start ≡ limit
stop_limit limit breaks start free = ends limit 0 breaks start (λ k some low. free k some (omega (arith, low))) ∙ omega arith

pub stop_break : (limit : ℕ) (breaks : List ℕ) (start : Flat) (n : ℕ) → IsFirstBreak breaks start n → n < limit → stop_at limit breaks start ≡ n
stop_break limit breaks start n h low = meets limit 0 n breaks start (omega arith) (omega (arith, low)) h.some h.here h.before

-- where it stops before the end, that is the first

record Meets (breaks : List ℕ) (start : Flat) (step n : ℕ) : Type 0 where
  some : 1 ≤ n
  here : is_break breaks (run n start) ≡ true
  before : (k : ℕ) → step ≤ k → 1 ≤ k → k < n → is_break breaks (run k start) ≡ false

at_test : (c : Bool) (step x : ℕ) → (if c then step else x) ≡ step → (step + 1 ≤ x) → c ≡ true
at_test true step x e w = refl
at_test false step x e w = absurd (omega (arith, e, w))

met_by : (c : Bool) (more step : ℕ) (breaks : List ℕ) (start : Flat) → stops_before step breaks start ≡ c → ((stop_from more (step + 1) breaks start < step + 1 + more) → Meets breaks start (step + 1) (stop_from more (step + 1) breaks start)) → stop_from (suc more) step breaks start < step + suc more → Meets breaks start step (stop_from (suc more) step breaks start)
met_by true more step breaks start e rec low =
    let both = and_true (nat_lt 0 step) (is_break breaks (run step start)) e in
    let is = stays_on more step breaks start e in
    subst (λ (n : ℕ). Meets breaks start step n) (sym is) (record { some = some_of step both.0; here = both.1; before = λ k a b c. absurd (omega (arith, a, c)) })
met_by false more step breaks start e rec low =
    let is = one_on more step breaks start e in
    let h = rec (omega (arith, is, low)) in
    subst (λ (n : ℕ). Meets breaks start step n) (sym is) (record {
      some = h.some;
      here = h.here;
      before = λ k a b c. elim (cases_lt step k) [
        | inl later ↦ h.before k (omega (arith, later)) b c
        | inr here ↦
            let same : step ≡ k = omega (arith, a, here) in
            subst (λ (j : ℕ). is_break breaks (run j start) ≡ false) same (not_both (nat_lt 0 step) (is_break breaks (run step start)) e (some_is step (omega (arith, b, same))))
      ];
    })
  where
    not_both : (a b : Bool) → (a && b) ≡ false → a ≡ true → b ≡ false
    not_both true b h k = h
    not_both false b h k = absurd (cc k)

met : (more step : ℕ) (breaks : List ℕ) (start : Flat) → stop_from more step breaks start < step + more → Meets breaks start step (stop_from more step breaks start)
met zero step breaks start low = let w = (stop_within zero step breaks start).0 in absurd (omega (arith, w, low))
met (suc more) step breaks start low = met_by (stops_before step breaks start) more step breaks start refl (λ less. met more (step + 1) breaks start less) low

pub stop_first : (limit : ℕ) (breaks : List ℕ) (start : Flat) → stop_at limit breaks start < limit → IsFirstBreak breaks start (stop_at limit breaks start)
stop_first limit breaks start low =
    let h = met limit 0 breaks start (omega (arith, low)) in
    record { some = h.some; here = h.here; before = λ k some less. h.before k (omega arith) some less }

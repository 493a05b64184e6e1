-- A rule for one turn names one page, once.
use Rattle.std.proofs.Common.{ℕ, zero, suc, ◌≡◌, ◌+◌, ◌<◌, ◌≤◌, ◌==◌, List, [], ◌∷◌, ◌++◌, append-nil, length, refl, ap, ◌∙◌, arith, inl, inr}
use Rattle.std.specs.Prelude.{if◌then◌else◌}
use Rattle.std.specs.List.{filter_map, flat_map}
use Rattle.std.proofs.lemmas.Bool.{cases_eq, eq-eqb, ne_eqb}
use Rattle.vax_space.specs.declared.Area.{Area}
use Rattle.vax_sched.specs.Due.{due, fixed_target, repeated_target}
use Rattle.vax_sched.specs.declared.rule.Rule.{Rule}
use Rattle.vax_sched.specs.declared.rule.Rule.TheVariants.{At, Each}
use Rattle.vax_sched.specs.declared.rule.Target.{Target}
use Rattle.vax_machine.specs.Paged.{all_named, named}
use Rattle.vax_machine_laws.specs.Enough.{IsOnlyFixed, pages_due}

none_repeated : (turn : ℕ) (rules : List Rule) → IsOnlyFixed rules → filter_map (repeated_target turn) rules ≡ []
unfolding IsOnlyFixed
none_repeated turn [] fixed = refl
none_repeated turn (At rule ∷ rules) fixed = none_repeated turn rules fixed.1
none_repeated turn (Each rule ∷ rules) fixed = absurd fixed.0

-- how many of the pages are for one turn
once : ℕ → ℕ → ℕ
once asked turn = if asked == turn then 1 else 0

asked_of : Rule → ℕ
asked_of (At rule) = rule.turn
asked_of (Each rule) = 0

hits : ℕ → List Rule → ℕ
hits turn [] = 0
hits turn (rule ∷ rules) = once (asked_of rule) turn + hits turn rules

fixed_hits : (areas : List Area) (turn : ℕ) (rules : List Rule) → IsOnlyFixed rules → length (flat_map (named areas) (filter_map (fixed_target turn) rules)) ≡ hits turn rules
unfolding IsOnlyFixed hits once asked_of
fixed_hits areas turn [] fixed = refl
fixed_hits areas turn (Each rule ∷ rules) fixed = absurd fixed.0
fixed_hits areas turn (At rule ∷ rules) fixed =
    let rest = fixed_hits areas turn rules fixed.1 in
    elim (cases_eq rule.turn turn) [
      | inl e ↦ rw (eq-eqb rule.turn turn e) (omega (arith, rest))
      | inr n ↦ rw (ne_eqb rule.turn turn n) (omega (arith, rest))
    ]

due_hits : (areas : List Area) (turn : ℕ) (rules : List Rule) → IsOnlyFixed rules → length (all_named areas (due rules turn)) ≡ hits turn rules
unfolding due
due_hits areas turn rules fixed =
    let targets = filter_map (fixed_target turn) rules in
    let e : targets ++ filter_map (repeated_target turn) rules ≡ targets = ap (λ (xs : List Target). targets ++ xs) (none_repeated turn rules fixed) ∙ append-nil targets in
    ap (λ (xs : List Target). length (all_named areas xs)) e ∙ fixed_hits areas turn rules fixed

-- over so many turns
total_once : ℕ → ℕ → ℕ
total_once asked zero = 0
total_once asked (suc turns) = total_once asked turns + once asked (suc turns)

total_hits : ℕ → List Rule → ℕ
total_hits zero rules = 0
total_hits (suc turns) rules = total_hits turns rules + hits (suc turns) rules

due_total : (areas : List Area) (turns : ℕ) (rules : List Rule) → IsOnlyFixed rules → pages_due areas (due rules) turns ≡ total_hits turns rules
unfolding pages_due total_hits
due_total areas zero rules fixed = refl
due_total areas (suc turns) rules fixed =
    let before = due_total areas turns rules fixed in
    let here = due_hits areas (suc turns) rules fixed in
    omega (arith, before, here)

at_most_once : (asked turns : ℕ) → (turns < asked → total_once asked turns ≡ 0) × (total_once asked turns ≤ 1)
unfolding total_once once
at_most_once asked zero = (λ low. refl, omega arith)
at_most_once asked (suc turns) =
    let before = at_most_once asked turns in
    elim (cases_eq asked (suc turns)) [
      | inl e ↦
          let none = before.0 (omega (arith, e)) in
          rw (eq-eqb asked (suc turns) e) (λ low. absurd (omega (arith, e, low)), omega (arith, none))
      | inr n ↦
          let few = before.1 in
          rw (ne_eqb asked (suc turns) n) (λ low. let none = before.0 (omega (arith, low)) in omega (arith, none), omega (arith, few))
    ]

total_splits : (turns : ℕ) (rule : Rule) (rules : List Rule) → total_hits turns (rule ∷ rules) ≡ total_once (asked_of rule) turns + total_hits turns rules
unfolding total_hits total_once hits
total_splits zero rule rules = refl
total_splits (suc turns) rule rules = let before = total_splits turns rule rules in omega (arith, before)

total_none : (turns : ℕ) → total_hits turns [] ≤ 0
unfolding total_hits hits
total_none zero = omega arith
total_none (suc turns) = let before = total_none turns in omega (arith, before)

total_few : (turns : ℕ) (rules : List Rule) → total_hits turns rules ≤ length rules
total_few turns [] = total_none turns
total_few turns (rule ∷ rules) =
    let splits = total_splits turns rule rules in
    let one = (at_most_once (asked_of rule) turns).1 in
    let rest = total_few turns rules in
    omega (arith, splits, one, rest)

pub fixed_due : (areas : List Area) (rules : List Rule) (turns : ℕ) → IsOnlyFixed rules → pages_due areas (due rules) turns ≤ length rules
fixed_due areas rules turns fixed =
    let e = due_total areas turns rules fixed in
    let few = total_few turns rules in
    omega (arith, e, few)

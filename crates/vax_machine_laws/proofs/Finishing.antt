-- The flat machine's run within a limit of steps is over after some number of parts: each later part of a step leaves less.
use Rattle.std.proofs.Common.{ℕ, zero, suc, ◌≡◌, ◌+◌, ◌<◌, ◌≤◌, refl, ap, sym, ◌∙◌, subst, arith, inl, inr, Option, Some, None}
use Rattle.std.specs.Prelude.{◌⊎◌, IsSome}
use Rattle.std.proofs.lemmas.Bool.{cases_lt}
use Rattle.vax_flat.specs.declared.Ending.{Ending}
use Rattle.vax_flat.specs.Parts.{GoesBy, Partway, Place, At, Within, Turn, Completes, Leaves, machine_at, turn}
use Rattle.vax_flat.specs.Step.{Flat, run}
use Rattle.vax_flat.specs.StringParts.{remaining_in}
use Rattle.vax_flat.proofs.Parts.{parts_less}
use Rattle.vax_machine.specs.Paged.{place_after, steps_after}
use Rattle.vax_machine_laws.proofs.Parting.{over_next}
use Rattle.vax_machine_laws.proofs.Reaching.{Comes, comes_further, starts}
use Rattle.vax_machine_laws.specs.FlatRun.{IsOver, Stage, next_stage, stage}

-- a stage is over, or the run comes there and goes on
record IsGoing (limit : ℕ) (start : Flat) (s : Stage) : Type 0 where
  pub comes : Comes limit start s
  pub ending : (machine_at s.place).ending ≡ None
  pub left : s.steps < limit

going_by : (how : Option Ending) (limit : ℕ) (start : Flat) (s : Stage) → (machine_at s.place).ending ≡ how → Comes limit start s → IsOver limit s ⊎ IsGoing limit start s
going_by (Some e) limit start s is c = inl (inl (subst (λ (o : Option Ending). IsSome o) (sym is) refl))
going_by None limit start s is c = elim (cases_lt s.steps limit) [
  | inl left ↦ inr (record { comes = c; ending = is; left = left })
  | inr most ↦ inl (inr most)
]

-- one part further
further : (start : Flat) (parts : ℕ) → (machine_at (stage start parts).place).ending ≡ None
    → stage start (suc parts) ≡ record { steps = steps_after (turn (stage start parts).place) (stage start parts).steps; place = place_after (turn (stage start parts).place) }
unfolding stage
further start parts is = ap (λ (x : Option Ending). next_stage x (stage start parts)) is

goes_or_over : (limit : ℕ) (start : Flat) (parts : ℕ) → IsOver limit (stage start parts) ⊎ IsGoing limit start (stage start parts)
unfolding stage
goes_or_over limit start zero = going_by start.ending limit start (record { steps = 0; place = At start }) refl (starts limit 0 start)
goes_or_over limit start (suc parts) =
    let s = stage start parts in
    elim (goes_or_over limit start parts) [
      | inl over ↦ inl (over_next (machine_at s.place).ending limit s refl over)
      | inr g ↦
          let next = next_stage (machine_at s.place).ending s in
          let c = comes_further (turn s.place) limit start s refl g.ending g.left g.comes in
          going_by (machine_at next.place).ending limit start next refl (subst (Comes limit start) (sym (ap (λ (x : Option Ending). next_stage x s) g.ending)) c)
    ]

-- some parts further the run is over, or another step was completed
record IsAhead (limit : ℕ) (start : Flat) (parts : ℕ) : Type 0 where
  pub more : ℕ
  pub ahead : IsOver limit (stage start (more + parts)) ⊎ ((stage start parts).steps < (stage start (more + parts)).steps)

over_here : (limit : ℕ) (start : Flat) (parts : ℕ) → IsOver limit (stage start parts) → IsAhead limit start parts
over_here limit start parts over =
    let k : 0 + parts ≡ parts = omega arith in
    record { more = 0; ahead = inl (subst (λ (n : ℕ). IsOver limit (stage start n)) (sym k) over) }

completed : (limit : ℕ) (start next : Flat) (parts : ℕ) → IsGoing limit start (stage start parts) → turn (stage start parts).place ≡ Completes next → IsAhead limit start parts
completed limit start next parts g is =
    let k : 1 + parts ≡ suc parts = omega arith in
    let s = ap (λ (z : Stage). z.steps) (ap (stage start) k ∙ further start parts g.ending) ∙ ap (λ (t : Turn). steps_after t (stage start parts).steps) is in
    record { more = 1; ahead = inr (omega (arith, s)) }

one_more : (limit : ℕ) (start : Flat) (parts : ℕ) → (stage start (suc parts)).steps ≡ (stage start parts).steps → IsAhead limit start (suc parts) → IsAhead limit start parts
one_more limit start parts same h =
    let k : suc h.more + parts ≡ h.more + suc parts = omega arith in
    record {
      more = suc h.more;
      ahead = elim h.ahead [
        | inl over ↦ inl (subst (λ (n : ℕ). IsOver limit (stage start n)) (sym k) over)
        | inr far ↦ let e = ap (λ (n : ℕ). (stage start n).steps) k in inr (omega (arith, far, same, e))
      ];
    }

left_on : (limit : ℕ) (start : Flat) (parts : ℕ) (q : Partway) → IsGoing limit start (stage start parts) → turn (stage start parts).place ≡ Leaves q → ((stage start (suc parts)).place ≡ Within q → IsAhead limit start (suc parts)) → IsAhead limit start parts
left_on limit start parts q g is more =
    let f = further start parts g.ending in
    let same = ap (λ (z : Stage). z.steps) f ∙ ap (λ (t : Turn). steps_after t (stage start parts).steps) is in
    let there = ap (λ (z : Stage). z.place) f ∙ ap place_after is in
    one_more limit start parts same (more there)

by_turn : (t : Turn) (limit : ℕ) (start : Flat) (parts : ℕ) → IsGoing limit start (stage start parts) → turn (stage start parts).place ≡ t → ((q : Partway) → turn (stage start parts).place ≡ Leaves q → (stage start (suc parts)).place ≡ Within q → IsAhead limit start (suc parts)) → IsAhead limit start parts
by_turn (Completes next) limit start parts g is more = completed limit start next parts g is
by_turn (Leaves q) limit start parts g is more = left_on limit start parts q g is (more q is)

inside : (fuel : ℕ) (limit : ℕ) (start : Flat) (parts : ℕ) (q : Partway) → (stage start parts).place ≡ Within q → remaining_in q.opcode q.now.core < fuel → IsAhead limit start parts
inside zero limit start parts q at few = absurd (omega (arith, few))
inside (suc fuel) limit start parts q at few = elim (goes_or_over limit start parts) [
  | inl over ↦ over_here limit start parts over
  | inr g ↦ by_turn (turn (stage start parts).place) limit start parts g refl (λ p is there.
      let goes = subst (λ (z : Place). GoesBy (run (stage start parts).steps start) z) at g.comes.reaches.goes in
      let less = parts_less (run (stage start parts).steps start) q p goes (ap turn (sym at) ∙ is) in
      inside fuel limit start (suc parts) p there (omega (arith, less, few)))
]

step_ahead : (limit : ℕ) (start : Flat) (parts : ℕ) → IsAhead limit start parts
step_ahead limit start parts = elim (goes_or_over limit start parts) [
  | inl over ↦ over_here limit start parts over
  | inr g ↦ by_turn (turn (stage start parts).place) limit start parts g refl (λ q is there. inside (suc (remaining_in q.opcode q.now.core)) limit start (suc parts) q there (omega arith))
]

over_in : (left limit : ℕ) (start : Flat) (parts : ℕ) → limit ≤ (stage start parts).steps + left → (n : ℕ) × IsOver limit (stage start n)
over_in zero limit start parts few = (parts, inr (omega (arith, few)))
over_in (suc left) limit start parts few =
    let h = step_ahead limit start parts in
    elim h.ahead [
      | inl over ↦ (h.more + parts, over)
      | inr far ↦ over_in left limit start (h.more + parts) (omega (arith, far, few))
    ]

pub run_over : (limit : ℕ) (start : Flat) → (n : ℕ) × IsOver limit (stage start n)
run_over limit start = over_in limit limit start 0 (omega arith)

-- Moves at their start.
use Rattle.std.proofs.Common.{ℕ, ◌≡◌, ◌≤◌, ◌⊎◌, Bool, true, false, Option, Some, None, List, refl, sym, ap, ◌∙◌, inl, inr}
use Rattle.std.proofs.lemmas.Bool.{cases_Bool}
use Rattle.vax_space.specs.declared.Access.TheVariants.{Read, Write}
use Rattle.vax_space.specs.declared.Area.{Area}
use Rattle.vax_space.specs.declared.Violation.{Violation}
use Rattle.vax_space.specs.Reference.{violation}
use Rattle.vax_strpart.specs.declared.packing.Progress.{Progress}
use Rattle.vax_strpart.specs.Packing.{IsProper}
use Rattle.vax_flat.specs.declared.Exception.{Exception}
use Rattle.vax_flat.specs.declared.Exception.TheVariants as exception
use Rattle.vax_flat.specs.declared.Flow.{Flow}
use Rattle.vax_flat.specs.State.{State, mode}
use Rattle.vax_flat.specs.Accesses.{Accesses, Raises, Leaf}
use Rattle.vax_flat.specs.Outcome.{Raised, outcome_of, unless_violated}
use Rattle.vax_flat.specs.Operand.{check_at}
use Rattle.vax_flat.specs.String.{from_registers, IsReady}
use Rattle.vax_flat.specs.StringMove.{moved_count, by_table, is_reserved, table_checked, move_checked, move_rest, whole_move, move_start, IsMove}
use Rattle.vax_flat.specs.StringEscape.{is_escape_reserved, escape_rest, whole_escape, escape_start}
use Rattle.vax_flat.specs.StringAgree.{and_rest, IsBehind}
use Rattle.vax_flat.proofs.StringMove.{move_agrees, table_due}
use Rattle.vax_flat.proofs.StringEscape.{escape_agrees}

check_is : (addr len : ℕ) (s : State) (m : List Area) (k : State → Accesses Leaf) → outcome_of (check_at addr len Read s k) m ≡ unless_violated (violation m addr len (mode s) Read) (outcome_of (k s) m)
unfolding check_at outcome_of
check_is addr len s m k = refl

check_written : (addr len : ℕ) (s : State) (m : List Area) (k : State → Accesses Leaf) → outcome_of (check_at addr len Write s k) m ≡ unless_violated (violation m addr len (mode s) Write) (outcome_of (k s) m)
unfolding check_at outcome_of
check_written addr len s m k = refl

with_table : (translate : Bool) (p : Progress) (s : State) (k : State → Accesses Leaf) → by_table translate p ≡ true → table_checked translate p s k ≡ check_at p.table 256 Read s k
unfolding table_checked
with_table translate p s k e = rw e refl

no_table : (translate : Bool) (p : Progress) (s : State) (k : State → Accesses Leaf) → by_table translate p ≡ false → table_checked translate p s k ≡ k s
unfolding table_checked
no_table translate p s k e = rw e refl

module _ (translate : Bool) (p : Progress) (written : ℕ) (s : State) (m : List Area) where
  -- the checks raise an exception, or all is allowed and the rest goes on
  pub record Passes : Type 0 where
    pub goes : (k : State → Accesses Leaf) → outcome_of (move_checked translate p written s k) m ≡ outcome_of (k s) m
    pub source : violation m p.addr1 (moved_count p) (mode s) Read ≡ None
    pub table : by_table translate p ≡ true → violation m p.table 256 (mode s) Read ≡ None
    pub destination : violation m p.addr2 written (mode s) Write ≡ None

  abbrev source : Option Violation
  source = violation m p.addr1 (moved_count p) (mode s) Read

  abbrev table : Option Violation
  table = violation m p.table 256 (mode s) Read

  abbrev destination : Option Violation
  destination = violation m p.addr2 written (mode s) Write

  checks_with : (k : State → Accesses Leaf) → by_table translate p ≡ true → outcome_of (move_checked translate p written s k) m ≡ unless_violated source (unless_violated table (unless_violated destination (outcome_of (k s) m)))
  unfolding move_checked
  checks_with k e =
      check_is p.addr1 (moved_count p) s m _
      ∙ ap (unless_violated source) (ap (λ t. outcome_of t m) (with_table translate p s _ e) ∙ (check_is p.table 256 s m _ ∙ ap (unless_violated table) (check_written p.addr2 written s m k)))

  checks_without : (k : State → Accesses Leaf) → by_table translate p ≡ false → outcome_of (move_checked translate p written s k) m ≡ unless_violated source (unless_violated destination (outcome_of (k s) m))
  unfolding move_checked
  checks_without k e =
      check_is p.addr1 (moved_count p) s m _
      ∙ ap (unless_violated source) (ap (λ t. outcome_of t m) (no_table translate p s _ e) ∙ check_written p.addr2 written s m k)

  pub checks : ((e : Exception) × ((k : State → Accesses Leaf) → outcome_of (move_checked translate p written s k) m ≡ Raised e)) ⊎ Passes
  checks = by source refl (by_table translate p) refl table refl destination refl
    where
      by : (v : Option Violation) → source ≡ v → (b : Bool) → by_table translate p ≡ b → (w : Option Violation) → table ≡ w → (x : Option Violation) → destination ≡ x → ((e : Exception) × ((k : State → Accesses Leaf) → outcome_of (move_checked translate p written s k) m ≡ Raised e)) ⊎ Passes
      by (Some v) e true f w g x h = inl (exception.Access v, λ k. checks_with k f ∙ ap (λ o. unless_violated o (unless_violated table (unless_violated destination (outcome_of (k s) m)))) e)
      by (Some v) e false f w g x h = inl (exception.Access v, λ k. checks_without k f ∙ ap (λ o. unless_violated o (unless_violated destination (outcome_of (k s) m))) e)
      by None e true f (Some w) g x h = inl (exception.Access w, λ k. checks_with k f ∙ (ap (λ o. unless_violated o (unless_violated table (unless_violated destination (outcome_of (k s) m)))) e ∙ ap (λ o. unless_violated o (unless_violated destination (outcome_of (k s) m))) g))
      by None e true f None g (Some x) h = inl (exception.Access x, λ k. checks_with k f ∙ (ap (λ o. unless_violated o (unless_violated table (unless_violated destination (outcome_of (k s) m)))) e ∙ (ap (λ o. unless_violated o (unless_violated destination (outcome_of (k s) m))) g ∙ ap (λ o. unless_violated o (outcome_of (k s) m)) h)))
      by None e true f None g None h = inr (record {
        goes = λ k. checks_with k f ∙ (ap (λ o. unless_violated o (unless_violated table (unless_violated destination (outcome_of (k s) m)))) e ∙ (ap (λ o. unless_violated o (unless_violated destination (outcome_of (k s) m))) g ∙ ap (λ o. unless_violated o (outcome_of (k s) m)) h));
        source = e;
        table = λ t. g;
        destination = h;
      })
      by None e false f w g (Some x) h = inl (exception.Access x, λ k. checks_without k f ∙ (ap (λ o. unless_violated o (unless_violated destination (outcome_of (k s) m))) e ∙ ap (λ o. unless_violated o (outcome_of (k s) m)) h))
      by None e false f w g None h = inr (record {
        goes = λ k. checks_without k f ∙ (ap (λ o. unless_violated o (unless_violated destination (outcome_of (k s) m))) e ∙ ap (λ o. unless_violated o (outcome_of (k s) m)) h);
        source = e;
        table = λ t. absurd (cc);
        destination = h;
      })

raised : Exception → Accesses Leaf
raised e = Raises e

reserved_same : (rest : State → Accesses Leaf) (m : List Area) (e : Exception) → outcome_of (raised e) m ≡ and_rest rest (outcome_of (raised e) m)
unfolding outcome_of raised
reserved_same rest m e = refl

pub move_starts : (translate : Bool) (p : Progress) (s : State) (m : List Area) (next : Flow → State → Accesses Leaf) → IsBehind next → IsReady s → IsProper p → IsMove translate p → p.done ≤ p.len2 → outcome_of (whole_move translate p s next) m ≡ and_rest (λ t. from_registers p.op (move_rest translate) t next) (outcome_of (move_start translate p s next) m)
unfolding whole_move move_start raised
move_starts translate p s m next behind ready proper is few = elim (cases_Bool (is_reserved translate p)) [
  | inl reserved ↦ rw reserved (reserved_same _ m exception.Operand)
  | inr fine ↦ rw fine (elim (checks translate p p.len2 s m) [
    | inl stopped ↦ stopped.1 _ ∙ ap (and_rest (λ t. from_registers p.op (move_rest translate) t next)) (sym (stopped.1 _))
    | inr passes ↦
        passes.goes _
        ∙ (move_agrees translate p s m next behind ready proper is (record { source = passes.source; table = passes.table; apart = fine; destination = passes.destination }) few
        ∙ ap (and_rest (λ t. from_registers p.op (move_rest translate) t next)) (sym (passes.goes _)))
  ])
]

pub escape_starts : (p : Progress) (s : State) (m : List Area) (next : Flow → State → Accesses Leaf) → IsBehind next → IsReady s → IsProper p → IsMove true p → p.done ≤ moved_count p → outcome_of (whole_escape p s next) m ≡ and_rest (λ t. from_registers p.op escape_rest t next) (outcome_of (escape_start p s next) m)
unfolding whole_escape escape_start raised
escape_starts p s m next behind ready proper is few = elim (cases_Bool (is_escape_reserved p)) [
  | inl reserved ↦ rw reserved (reserved_same _ m exception.Operand)
  | inr fine ↦ rw fine (elim (checks true p (moved_count p) s m) [
    | inl stopped ↦ stopped.1 _ ∙ ap (and_rest (λ t. from_registers p.op escape_rest t next)) (sym (stopped.1 _))
    | inr passes ↦
        passes.goes _
        ∙ (escape_agrees p s m next behind ready proper is (record { source = passes.source; table = λ h. passes.table (table_due true (moved_count p) refl h); apart = fine; destination = passes.destination }) few
        ∙ ap (and_rest (λ t. from_registers p.op escape_rest t next)) (sym (passes.goes _)))
  ])
]

-- Orders that name each process.
use Rattle.std.proofs.Common.{◌≡◌, ◌<◌, ℕ, zero, suc, ◌+◌, true, false, List, refl, subst, arith, inl, inr}
use Rattle.std.proofs.lemmas.Bool.{cases_eq, and_left, and_right, and_from}
use Rattle.std.specs.List.{list_any}
use Rattle.vax_order.specs.declared.line.Line.{Line}
use Rattle.vax_order.specs.Orders.{is_of, names_all}

pub missing : (jobs job : ℕ) (order : List Line) → job < jobs → list_any (is_of job) order ≡ false → names_all jobs order ≡ false
unfolding names_all
missing zero job order l e = absurd (omega arith)
missing (suc n) job order l e = elim (cases_eq job n) [
  | inl same ↦ and_left (list_any (is_of n) order) (names_all n order) (subst (λ (k : ℕ). list_any (is_of k) order ≡ false) same e)
  | inr other ↦ and_right (list_any (is_of n) order) (names_all n order) (missing n job order (omega arith) e)
]

-- one process more is named
pub named_more : (job more : ℕ) (order : List Line) → more ≡ job + 1 → names_all job order ≡ true → list_any (is_of job) order ≡ true → names_all more order ≡ true
unfolding names_all
named_more job more order next before here =
    let one : names_all (suc job) order ≡ true = and_from _ _ here before in
    let same : suc job ≡ more = omega arith in
    subst (λ (k : ℕ). names_all k order ≡ true) same one

pub named_none : (order : List Line) → names_all 0 order ≡ true
unfolding names_all
named_none order = refl

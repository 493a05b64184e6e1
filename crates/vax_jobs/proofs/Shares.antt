-- The resident pages of a pool, and those of each process.
use Rattle.std.proofs.Common.{◌≡◌, ◌<◌, ◌≤◌, ℕ, zero, suc, ◌==◌, true, false, List, [], ◌∷◌, ◌++◌, Some, length, refl, sym, ap, ◌∙◌, subst, arith, inl, inr, if◌then◌else◌}
use Rattle.std.specs.Prelude.{slice_get}
use Rattle.std.specs.List.{list_all, remove}
use Rattle.std.proofs.lemmas.Bool.{cases_Bool, eq-eqb, ne_eqb, eqb-true, and_from, and_parts}
use Rattle.vax_pager.specs.Listing.{AreOnce, is_listed, leave_out}
use Rattle.vax_jobs.specs.declared.pool.Pair.{Pair}
use Rattle.vax_jobs.specs.Pooling.{is_among, is_pair, is_there, pages_in, without}

-- the pages of a process

pub pages_in-push : (job : ℕ) (pairs : List Pair) (pair : Pair) → pages_in job (pairs ++ pair ∷ []) ≡ (if pair.job == job then pages_in job pairs ++ pair.page ∷ [] else pages_in job pairs)
unfolding pages_in
pages_in-push job [] pair = refl
pages_in-push job (x ∷ pairs) pair = elim (cases_Bool (x.job == job)) [
  | inl its ↦ rw (its, pages_in-push job pairs pair) (elim (cases_Bool (pair.job == job)) [ inl t ↦ rw t refl | inr f ↦ rw f refl ])
  | inr other ↦ rw (other, pages_in-push job pairs pair) refl
]

pub its_push : (job page : ℕ) (pairs : List Pair) → pages_in job (pairs ++ record { job = job; page = page } ∷ []) ≡ pages_in job pairs ++ page ∷ []
its_push job page pairs = pages_in-push job pairs (record { job = job; page = page }) ∙ rw (eq-eqb job job refl) refl

pub others_push : (i job page : ℕ) (pairs : List Pair) → (i ≡ job → ⊥) → pages_in i (pairs ++ record { job = job; page = page } ∷ []) ≡ pages_in i pairs
others_push i job page pairs other = pages_in-push i pairs (record { job = job; page = page }) ∙ rw (ne_eqb job i (λ e. other (sym e))) refl

pub its_without : (job page : ℕ) (pairs : List Pair) → pages_in job (without job page pairs) ≡ leave_out page (pages_in job pairs)
unfolding pages_in without leave_out
its_without job page [] = refl
its_without job page (x ∷ pairs) = elim (cases_Bool (x.job == job)) [
  | inl its ↦ elim (cases_Bool (x.page == page)) [
    | inl same ↦ rw (its, same) (its_without job page pairs)
    | inr apart ↦ rw (its, apart) (rw its (ap (λ ps. x.page ∷ ps) (its_without job page pairs)))
  ]
  | inr other ↦ rw other (rw other (its_without job page pairs))
]

pub others_without : (i job page : ℕ) (pairs : List Pair) → (i ≡ job → ⊥) → pages_in i (without job page pairs) ≡ pages_in i pairs
unfolding pages_in without
others_without i job page [] apart = refl
others_without i job page (x ∷ pairs) apart = elim (cases_Bool (is_pair job page x)) [
  | inl same ↦
      let its : x.job ≡ job = eqb-true x.job job (and_parts (x.job == job) (x.page == page) same).0 in
      let other : (x.job == i) ≡ false = ne_eqb x.job i (λ e. apart (sym e ∙ its)) in
      rw (same, other) (others_without i job page pairs apart)
  | inr kept ↦ rw kept (elim (cases_Bool (x.job == i)) [
    | inl t ↦ rw t (ap (λ ps. x.page ∷ ps) (others_without i job page pairs apart))
    | inr f ↦ rw f (others_without i job page pairs apart)
  ])
]

pub there_is : (job page : ℕ) (pairs : List Pair) → is_there pairs job page ≡ is_listed page (pages_in job pairs)
unfolding pages_in is_listed
there_is job page [] = refl
there_is job page (x ∷ pairs) = elim (cases_Bool (x.job == job)) [
  | inl its ↦ rw (its, there_is job page pairs) refl
  | inr other ↦ rw (other, there_is job page pairs) refl
]

pub without-length : (job page : ℕ) (pairs : List Pair) → length (without job page pairs) ≤ length pairs
unfolding without
without-length job page [] = omega arith
without-length job page (x ∷ pairs) =
    let h = without-length job page pairs in
    elim (cases_Bool (is_pair job page x)) [ inl e ↦ rw e (omega (arith, h)) | inr e ↦ rw e (omega (arith, h)) ]

pub fewer : (job page : ℕ) (pairs : List Pair) → is_there pairs job page ≡ true → length (without job page pairs) < length pairs
unfolding without
fewer job page [] h = cc
fewer job page (x ∷ pairs) h = elim (cases_Bool (is_pair job page x)) [
  | inl e ↦ let k = without-length job page pairs in rw e (omega (arith, k))
  | inr e ↦ let k = fewer job page pairs (rw e at h) in rw e (omega (arith, k))
]

pub all_without : (count job page : ℕ) (pairs : List Pair) → list_all (is_among count) pairs ≡ true → list_all (is_among count) (without job page pairs) ≡ true
unfolding without
all_without count job page [] h = refl
all_without count job page (x ∷ pairs) h =
    let parts = and_parts (is_among count x) (list_all (is_among count) pairs) h in
    let rest = all_without count job page pairs parts.1 in
    elim (cases_Bool (is_pair job page x)) [ inl e ↦ rw e rest | inr e ↦ rw e (and_from _ _ parts.0 rest) ]

-- a page that stands once is the only one that is taken out

absent_without : (job page : ℕ) (pairs : List Pair) → is_there pairs job page ≡ false → without job page pairs ≡ pairs
unfolding without
absent_without job page [] h = refl
absent_without job page (x ∷ pairs) h = elim (cases_Bool (is_pair job page x)) [
  | inl e ↦ let no_way : true ≡ false = rw e at h in cc
  | inr e ↦ rw e (ap (λ ps. x ∷ ps) (absent_without job page pairs (rw e at h)))
]

later_once : (job : ℕ) (x : Pair) (pairs : List Pair) → AreOnce (pages_in job (x ∷ pairs)) → AreOnce (pages_in job pairs)
unfolding pages_in AreOnce
later_once job x pairs once = elim (cases_Bool (x.job == job)) [ inl t ↦ (rw t at once).1 | inr f ↦ rw f at once ]

here_once : (x : Pair) (pairs : List Pair) → AreOnce (pages_in x.job (x ∷ pairs)) → is_there pairs x.job x.page ≡ false
unfolding pages_in AreOnce
here_once x pairs once = there_is x.job x.page pairs ∙ (rw (eq-eqb x.job x.job refl) at once).0

itself : (x : Pair) → is_pair x.job x.page x ≡ true
itself x = and_from _ _ (eq-eqb x.job x.job refl) (eq-eqb x.page x.page refl)

at_place : (pairs : List Pair) (place : ℕ) (pair : Pair) → slice_get pairs place ≡ Some pair → is_there pairs pair.job pair.page ≡ true
at_place [] place pair e = cc
at_place (x ∷ pairs) zero pair e =
    let same : x ≡ pair = cc in
    subst (λ (p : Pair). is_there (x ∷ pairs) p.job p.page ≡ true) same (rw (itself x) refl)
at_place (x ∷ pairs) (suc place) pair e = elim (cases_Bool (is_pair pair.job pair.page x)) [
  | inl t ↦ rw t refl
  | inr f ↦ rw f (at_place pairs place pair e)
]

pub there_at : (pairs : List Pair) (place : ℕ) (pair : Pair) → slice_get pairs place ≡ Some pair → is_there pairs pair.job pair.page ≡ true
there_at pairs place pair e = at_place pairs place pair e

two_apart : (x pair : Pair) (pairs : List Pair) → is_pair pair.job pair.page x ≡ true → is_there pairs pair.job pair.page ≡ true → AreOnce (pages_in pair.job (x ∷ pairs)) → ⊥
unfolding pages_in AreOnce
two_apart x pair pairs same there once =
    let parts = and_parts (x.job == pair.job) (x.page == pair.page) same in
    let page : x.page ≡ pair.page = eqb-true x.page pair.page parts.1 in
    let first : is_listed x.page (pages_in pair.job pairs) ≡ false = (rw parts.0 at once).0 in
    let again : is_listed x.page (pages_in pair.job pairs) ≡ true = ap (λ (k : ℕ). is_listed k (pages_in pair.job pairs)) page ∙ sym (there_is pair.job pair.page pairs) ∙ there in
    let no_way : false ≡ true = sym first ∙ again in
    cc

pub removed : (pairs : List Pair) (place : ℕ) (pair : Pair) → slice_get pairs place ≡ Some pair → AreOnce (pages_in pair.job pairs) → remove pairs place ≡ without pair.job pair.page pairs
unfolding without
removed [] place pair e once = cc
removed (x ∷ pairs) zero pair e once =
    let same : x ≡ pair = cc in
    subst (λ (p : Pair). pairs ≡ without p.job p.page (x ∷ pairs)) same
    (rw (itself x) (sym (absent_without x.job x.page pairs (here_once x pairs (subst (λ (p : Pair). AreOnce (pages_in p.job (x ∷ pairs))) (sym same) once)))))
removed (x ∷ pairs) (suc place) pair e once = elim (cases_Bool (is_pair pair.job pair.page x)) [
  | inl t ↦ absurd (two_apart x pair pairs t (at_place pairs place pair e) once)
  | inr f ↦ rw f (ap (λ ps. x ∷ ps) (removed pairs place pair e (later_once pair.job x pairs once)))
]

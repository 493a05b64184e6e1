-- A pool that is full has a page that isn't pinned; and what turns leave is a pool.
use Rattle.std.proofs.Common.{◌≡◌, ◌<◌, ◌≤◌, ℕ, zero, suc, ◌+◌, ◌*◌, ◌==◌, true, List, [], ◌∷◌, ◌++◌, Some, None, length, refl, sym, ap, ◌∙◌, subst, arith, inl, inr, length-append}
use Rattle.std.specs.Prelude.{nat_lt, slice_get, slice_set}
use Rattle.std.specs.List.{list_all}
use Rattle.std.proofs.lemmas.Bool.{cases_Bool, cases_eq, eq-eqb, ne_eqb, and_from, and_parts}
use Rattle.std.proofs.lemmas.Bool.Decides.{nat_tests}
use Rattle.std.proofs.lemmas.List.{length-set}
use Rattle.std.proofs.lemmas.List.Folds.{list_all-append}
use Rattle.std.proofs.lemmas.Option.{slice_get_within}
use Rattle.vax_pager.specs.Listing.{AreOnce, is_listed, leave_out}
use Rattle.vax_machine.proofs.Lists.{fits}
use Rattle.vax_machine.specs.Machine.{Keeping}
use Rattle.vax_machine.specs.Residence.{Residence, served, taken_out, victim}
use Rattle.vax_jobs.specs.declared.pool.Pair.{Pair}
use Rattle.vax_jobs.specs.Pooling.{IsPooling, IsShare, Pooling, altered, came, first_free, given, is_among, is_pinned, pages_in, pins_at, taken, with_out, without}
use Rattle.vax_jobs.proofs.Shares.{all_without, its_push, its_without, others_push, others_without, without-length}

pub less : (a b : ℕ) → nat_lt a b ≡ true → a < b
less a b h = grind (arith, nat_tests)

is_less : (a b : ℕ) → a < b → nat_lt a b ≡ true
is_less a b h = grind (arith, nat_tests)

-- a list is as long as the pages of all processes

abbrev total : ℕ → List Pair → ℕ
total zero pairs = 0
total (suc n) pairs = length (pages_in n pairs) + total n pairs

total_none : (n : ℕ) → total n [] ≡ 0
unfolding pages_in
total_none zero = refl
total_none (suc n) = omega (arith, total_none n)

pages_other : (n : ℕ) (x : Pair) (pairs : List Pair) → (x.job ≡ n → ⊥) → pages_in n (x ∷ pairs) ≡ pages_in n pairs
unfolding pages_in
pages_other n x pairs other = rw (ne_eqb x.job n other) refl

pages_one : (x : Pair) (n : ℕ) (pairs : List Pair) → x.job ≡ n → length (pages_in n (x ∷ pairs)) ≡ length (pages_in n pairs) + 1
unfolding pages_in
pages_one x n pairs its = rw (eq-eqb x.job n its) (omega arith)

total_other : (n : ℕ) (x : Pair) (pairs : List Pair) → n ≤ x.job → total n (x ∷ pairs) ≡ total n pairs
total_other zero x pairs l = refl
total_other (suc n) x pairs l =
    omega (arith, ap length (pages_other n x pairs (λ e. omega arith)), total_other n x pairs (omega arith))

total_one : (n : ℕ) (x : Pair) (pairs : List Pair) → x.job < n → total n (x ∷ pairs) ≡ total n pairs + 1
total_one zero x pairs l = absurd (omega arith)
total_one (suc n) x pairs l = elim (cases_eq x.job n) [
  | inl its ↦ omega (arith, pages_one x n pairs its, total_other n x pairs (omega arith))
  | inr other ↦ omega (arith, ap length (pages_other n x pairs other), total_one n x pairs (omega arith))
]

total_all : (n : ℕ) (pairs : List Pair) → list_all (is_among n) pairs ≡ true → length pairs ≡ total n pairs
total_all n [] h = sym (total_none n)
total_all n (x ∷ pairs) h =
    let parts = and_parts (is_among n x) (list_all (is_among n) pairs) h in
    let here = less x.job n parts.0 in
    omega (arith, total_one n x pairs here, total_all n pairs parts.1)

total_few : (n : ℕ) (pairs : List Pair) → ((j : ℕ) → j < n → length (pages_in j pairs) ≤ 40) → total n pairs ≤ 40 * n
total_few zero pairs few = omega arith
total_few (suc n) pairs few =
    let here = few n (omega arith) in
    let rest = total_few n pairs (λ j l. few j (omega arith)) in
    omega (arith, here, rest)

-- where no page is free, all are pinned

none_free : (processes : List Keeping) (pairs : List Pair) → first_free processes pairs ≡ None → (job page : ℕ) → is_listed page (pages_in job pairs) ≡ true → is_listed page (pins_at processes job) ≡ true
unfolding first_free pages_in is_listed
none_free processes [] e job page h = cc
none_free processes (x ∷ pairs) e job page h = elim (cases_Bool (is_pinned processes x)) [
  | inl held ↦ elim (cases_eq x.job job) [
    | inl its ↦ elim (cases_eq x.page page) [
      | inl same ↦ subst (λ (k : ℕ). is_listed k (pins_at processes job) ≡ true) same (subst (λ (j : ℕ). is_listed x.page (pins_at processes j) ≡ true) its held)
      | inr apart ↦ none_free processes pairs (rw held at e) job page (rw (eq-eqb x.job job its, ne_eqb x.page page apart) at h)
    ]
    | inr other ↦ none_free processes pairs (rw held at e) job page (rw (ne_eqb x.job job other) at h)
  ]
  | inr free ↦ let no_way : Some x ≡ None = rw free at e in cc
]

-- what is so of what each machine keeps
pub record IsFine (k : Keeping) : Type 0 where
  pub once : AreOnce k.residence.order
  pub pins : length k.residence.pinned ≤ 40

pins_is : (processes : List Keeping) (job : ℕ) (k : Keeping) → slice_get processes job ≡ Some k → pins_at processes job ≡ k.residence.pinned
pins_is processes job k e = rw e refl

few_pages : (p : Pooling) (job : ℕ) (k : Keeping) → IsPooling p → IsFine k → first_free p.processes p.resident ≡ None → slice_get p.processes job ≡ Some k → length (pages_in job p.resident) ≤ 40
few_pages p job k h fine none e =
    let order = (h.shares job k e).order in
    let count = fits (pages_in job p.resident) (pins_at p.processes job) (subst AreOnce order fine.once) (none_free p.processes p.resident none job) in
    omega (arith, count, ap length (pins_is p.processes job k e), fine.pins)

pub found : {A : Type 0} (xs : List A) (n : ℕ) → n < length xs → (x : A) × (slice_get xs n ≡ Some x)
found [] n l = absurd (omega arith)
found (x ∷ xs) zero l = (x, refl)
found (x ∷ xs) (suc n) l = found xs n (omega arith)

pub some_free : (p : Pooling) → IsPooling p → ((job : ℕ) → (k : Keeping) → slice_get p.processes job ≡ Some k → IsFine k) → p.most ≤ length p.resident → first_free p.processes p.resident ≡ None → ⊥
some_free p h fine full none =
    let all = total_all (length p.processes) p.resident h.named in
    let few = total_few (length p.processes) p.resident (λ j l. let k = found p.processes j l in few_pages p j k.0 h (fine j k.0 k.1) none k.1) in
    omega (arith, all, few, full, h.least, h.some)

-- a list of which one element was changed

pub get_same : {A : Type 0} (xs : List A) (n : ℕ) (x y : A) → slice_get xs n ≡ Some x → slice_get (slice_set xs n y) n ≡ Some y
get_same [] n x y e = cc
get_same (z ∷ xs) zero x y e = refl
get_same (z ∷ xs) (suc n) x y e = get_same xs n x y e

pub get_other : {A : Type 0} (xs : List A) (n i : ℕ) (y : A) → (i ≡ n → ⊥) → slice_get (slice_set xs n y) i ≡ slice_get xs i
get_other [] n i y other = refl
get_other (z ∷ xs) zero zero y other = absurd (other refl)
get_other (z ∷ xs) zero (suc i) y other = refl
get_other (z ∷ xs) (suc n) zero y other = refl
get_other (z ∷ xs) (suc n) (suc i) y other = get_other xs n i y (λ e. other (ap suc e))

some_same : (x y : Keeping) → Some x ≡ Some y → x ≡ y
some_same x y e = cc

pub altered_is : (job : ℕ) (f : Keeping → Keeping) (processes : List Keeping) (k : Keeping) → slice_get processes job ≡ Some k → altered job f processes ≡ slice_set processes job (f k)
altered_is job f processes k e = rw e refl

-- the shares of a pool of which one process and the list changed
shares_after : (p : Pooling) (job : ℕ) (k new : Keeping) (pairs : List Pair) → IsPooling p → slice_get p.processes job ≡ Some k → IsShare p.most job pairs new.residence → ((i : ℕ) → (i ≡ job → ⊥) → pages_in i pairs ≡ pages_in i p.resident) → (i : ℕ) → (n : Keeping) → slice_get (slice_set p.processes job new) i ≡ Some n → IsShare p.most i pairs n.residence
shares_after p job k new pairs h e own others i n is = elim (cases_eq i job) [
  | inl same ↦
      let it : new ≡ n = some_same new n (sym (get_same p.processes job k new e) ∙ ap (slice_get (slice_set p.processes job new)) (sym same) ∙ is) in
      subst (λ (j : ℕ). IsShare p.most j pairs n.residence) (sym same) (subst (λ (m : Keeping). IsShare p.most job pairs m.residence) it own)
  | inr other ↦
      let share = h.shares i n (sym (get_other p.processes job i new other) ∙ is) in
      record { order = share.order ∙ sym (others i other); frames = share.frames }
]

-- a process changed, and nothing of its list of pages
pub same_pool : (p : Pooling) (job : ℕ) (k : Keeping) (f : Keeping → Keeping) → IsPooling p → slice_get p.processes job ≡ Some k → (f k).residence.order ≡ k.residence.order → (f k).residence.frames ≡ k.residence.frames → IsPooling (record p { processes = altered job f p.processes })
same_pool p job k f h e order frames =
    let is = altered_is job f p.processes k e in
    let count : length (altered job f p.processes) ≡ length p.processes = ap length is ∙ length-set p.processes job (f k) in
    let share = h.shares job k e in
    record {
      some = rw count h.some;
      few = rw count h.few;
      least = rw count h.least;
      most = h.most;
      held = h.held;
      named = rw count h.named;
      shares = λ i n here. shares_after p job k (f k) p.resident h e (record { order = order ∙ share.order; frames = frames ∙ share.frames }) (λ j other. refl) i n (ap (λ ks. slice_get ks i) (sym is) ∙ here);
    }

out_order : (page : ℕ) (r : Residence) → is_listed page r.order ≡ true → (taken_out page r).order ≡ leave_out page r.order
unfolding taken_out
out_order page r there = rw there refl

out_frames : (page : ℕ) (r : Residence) → (taken_out page r).frames ≡ r.frames
unfolding taken_out
out_frames page r = elim (cases_Bool (is_listed page r.order)) [ inl t ↦ rw t refl | inr f ↦ rw f refl ]

pub pool_without : (p : Pooling) (job page : ℕ) (k : Keeping) → IsPooling p → slice_get p.processes job ≡ Some k → is_listed page k.residence.order ≡ true → IsPooling (with_out job page p)
pool_without p job page k h e there =
    let is = altered_is job (taken page) p.processes k e in
    let count : length (altered job (taken page) p.processes) ≡ length p.processes = ap length is ∙ length-set p.processes job (taken page k) in
    let share = h.shares job k e in
    let pairs = without job page p.resident in
    record {
      some = rw count h.some;
      few = rw count h.few;
      least = rw count h.least;
      most = h.most;
      held = omega (arith, h.held, without-length job page p.resident);
      named = rw count (all_without (length p.processes) job page p.resident h.named);
      shares = λ i n here. shares_after p job k (taken page k) pairs h e
          (record { order = out_order page k.residence there ∙ ap (leave_out page) share.order ∙ sym (its_without job page p.resident); frames = out_frames page k.residence ∙ share.frames })
          (λ j other. others_without j job page p.resident other) i n (ap (λ ks. slice_get ks i) (sym is) ∙ here);
    }

pages-length : (job : ℕ) (pairs : List Pair) → length (pages_in job pairs) ≤ length pairs
unfolding pages_in
pages-length job [] = omega arith
pages-length job (x ∷ pairs) =
    let h = pages-length job pairs in
    elim (cases_Bool (x.job == job)) [ inl e ↦ rw e (omega (arith, h)) | inr e ↦ rw e (omega (arith, h)) ]

served_order : (page : ℕ) (r : Residence) → length r.order < r.frames → (served page r).order ≡ r.order ++ page ∷ []
unfolding served victim
served_order page r room = rw (is_less _ _ room) refl

served_frames : (page : ℕ) (r : Residence) → length r.order < r.frames → (served page r).frames ≡ r.frames
unfolding served victim
served_frames page r room = rw (is_less _ _ room) refl

pub no_victim : (r : Residence) → length r.order < r.frames → victim r ≡ None
unfolding victim
no_victim r room = rw (is_less _ _ room) refl

pub room_left : (p : Pooling) (job : ℕ) (k : Keeping) → IsPooling p → slice_get p.processes job ≡ Some k → length p.resident < p.most → length k.residence.order < k.residence.frames
room_left p job k h e room =
    let share = h.shares job k e in
    omega (arith, ap length share.order, share.frames, pages-length job p.resident, room)

pub pool_with : (p : Pooling) (job page : ℕ) (k : Keeping) → IsPooling p → slice_get p.processes job ≡ Some k → length p.resident < p.most → IsPooling (came job page p)
pool_with p job page k h e room =
    let is = altered_is job (given page) p.processes k e in
    let count : length (altered job (given page) p.processes) ≡ length p.processes = ap length is ∙ length-set p.processes job (given page k) in
    let share = h.shares job k e in
    let left = room_left p job k h e room in
    let pairs = p.resident ++ record { job = job; page = page } ∷ [] in
    let within = slice_get_within p.processes job k e in
    record {
      some = rw count h.some;
      few = rw count h.few;
      least = rw count h.least;
      most = h.most;
      held = omega (arith, length-append p.resident (record { job = job; page = page } ∷ []), room);
      named = rw count (list_all-append (is_among (length p.processes)) p.resident (record { job = job; page = page } ∷ []) ∙ and_from _ _ h.named (and_from _ true (is_less _ _ within) refl));
      shares = λ i n here. shares_after p job k (given page k) pairs h e
          (record { order = served_order page k.residence left ∙ ap (λ ps. ps ++ page ∷ []) share.order ∙ sym (its_push job page p.resident); frames = served_frames page k.residence left ∙ share.frames })
          (λ j other. others_push j job page p.resident other) i n (ap (λ ks. slice_get ks i) (sym is) ∙ here);
    }

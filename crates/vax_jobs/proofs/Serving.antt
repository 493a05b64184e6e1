-- Evictions, services and flushes of one process among several.
use Rattle.std.proofs.Common.{◌≡◌, ◌<◌, ◌≤◌, ℕ, zero, suc, Bool, true, false, List, [], ◌∷◌, ◌++◌, Option, Some, None, Result, Ok, Err, length, map, refl, sym, ap, ◌∙◌, subst, arith, inl, inr}
use Rattle.std.specs.Prelude.{OnOk, OnErr, nat_lt, slice_get, slice_set}
use Rattle.std.specs.Option.{option_and_then, option_map_or}
use Rattle.std.specs.List.{remove}
use Rattle.std.proofs.lemmas.Bool.Decides.{nat_tests}
use Rattle.vax_outside.specs.Blocks.{BlockFile}
use Rattle.vax_pager.specs.Listing.{AreOnce, is_listed}
use Rattle.vax_machine.specs.Machine.{Evicts, Flushes, Keeping, Serves, residence}
use Rattle.vax_machine.specs.Meaning.{engine}
use Rattle.vax_machine.specs.Residence.{victim}
use Rattle.vax_machine.specs.declared.event.Applied.{Applied}
use Rattle.vax_machine.specs.declared.event.Applied.TheVariants.{Served, Evicted, Flushed, Nothing, Failed}
use Rattle.vax_machine.specs.declared.event.Event.{Event}
use Rattle.vax_machine.specs.declared.event.Event.TheVariants as event
use Rattle.vax_machine.specs.declared.machine.Machine.{Machine}
use Rattle.vax_jobs.proofs.Rooms.{IsFine, pool_with, pool_without}
use Rattle.vax_jobs.proofs.Shares.{fewer, removed, there_at, there_is}
use Rattle.vax_jobs.proofs.Turns.{all_keep, fine_machine, nothing_kept, now_kept, was_kept}
use Rattle.vax_jobs.specs.Pool.{AllKeep, HasApplied, keeps_of}
use Rattle.vax_jobs.specs.Pooling.{IsPooling, Pooling, TakesOut, altered, came, first_free, given, pages_in, made_room, room_of, taken, wanted_at, with_out, with_room, without}
use Rattle.vax_jobs.specs.declared.pool.Pair.{Pair}

-- what an eviction, a service and a flush keep

evicted_kept : (page : ℕ) (b : Bool) (k n : Keeping) → Evicts page b k Evicted n → n ≡ taken page k
evicted_kept page false k n e = absurd (let no_way : Evicted ≡ Nothing = e.0 in cc)
evicted_kept page true k n (inl e) = absurd (let no_way : Evicted ≡ Failed = e.0 in cc)
evicted_kept page true k n (inr e) = e.1

-- a resident page isn't evicted: a call failed, and all is as it was
pub record HasFailed (answer : Applied) (k n : Keeping) : Type 0 where
  pub is : answer ≡ Failed
  pub same : n ≡ k

unevicted : (page : ℕ) (b : Bool) (answer : Applied) (k n : Keeping) → b ≡ true → (answer ≡ Evicted → ⊥) → Evicts page b k answer n → HasFailed answer k n
unevicted page false answer k n there other e = absurd (let no_way : false ≡ true = there in cc)
unevicted page true answer k n there other (inl e) = record { is = e.0; same = e.1 }
unevicted page true answer k n there other (inr e) = absurd (other e.0)

served_kept : (page : ℕ) (want v : Option ℕ) (k n : Keeping) → want ≡ Some page → Serves want k (Served v) n → n ≡ given page k
served_kept page None v k n wants e = absurd (let no_way : None ≡ Some page = wants in cc)
served_kept page (Some other) v k n wants (inl e) = absurd (let no_way : Served v ≡ Failed = e.0 in cc)
served_kept page (Some other) v k n wants (inr e) =
    let same : other ≡ page = cc in
    subst (λ (x : ℕ). n ≡ given x k) same e.1

unserved : (page : ℕ) (want : Option ℕ) (answer : Applied) (k n : Keeping) → want ≡ Some page → ((v : Option ℕ) → answer ≡ Served v → ⊥) → Serves want k answer n → HasFailed answer k n
unserved page None answer k n wants other e = absurd (let no_way : None ≡ Some page = wants in cc)
unserved page (Some x) answer k n wants other (inl e) = record { is = e.0; same = e.1 }
unserved page (Some x) answer k n wants other (inr e) = absurd (other (victim k.residence) e.0)

flush_kept : (b : Bool) (answer : Applied) (k n : Keeping) → Flushes b k answer n → n ≡ k
flush_kept false answer k n e = e.1
flush_kept true answer k n e = e.1

pub unflushed : (b : Bool) (answer : Applied) (k n : Keeping) → b ≡ true → (answer ≡ Flushed → ⊥) → Flushes b k answer n → answer ≡ Failed
unflushed false answer k n there other e = absurd (let no_way : false ≡ true = there in cc)
unflushed true answer k n there other (inl e, same) = e
unflushed true answer k n there other (inr e, same) = absurd (other e)

module _ (job : ℕ) (old : List Machine) (before : Option BlockFile) (new : List Machine) (after : Option BlockFile) where
  pub out_kept : (page : ℕ) → HasApplied job (event.Evict page) Evicted old before new after → map keeps_of new ≡ altered job (taken page) (map keeps_of old)
  out_kept page h = now_kept job (event.Evict page) Evicted old before new after (taken page) h (evicted_kept page _ (keeps_of h.was) (keeps_of h.is) h.applies.0)

  pub not_out : (page : ℕ) (answer : Applied) → (h : HasApplied job (event.Evict page) answer old before new after) → is_listed page (residence (engine h.was)).order ≡ true → (answer ≡ Evicted → ⊥) → (answer ≡ Failed) × (map keeps_of new ≡ map keeps_of old)
  not_out page answer h there other =
      let failed = unevicted page _ answer (keeps_of h.was) (keeps_of h.is) there other h.applies.0 in
      (failed.is, nothing_kept job (event.Evict page) answer old before new after h failed.same)

  pub out_keeps : (page : ℕ) (answer : Applied) → HasApplied job (event.Evict page) answer old before new after → AllKeep old before new after
  out_keeps page answer h = all_keep job (event.Evict page) answer old before new after h h.applies.1

  pub in_kept : (page : ℕ) (v : Option ℕ) → (h : HasApplied job event.Serve (Served v) old before new after) → (engine h.was).wanted ≡ Some page → map keeps_of new ≡ altered job (given page) (map keeps_of old)
  in_kept page v h wants = now_kept job event.Serve (Served v) old before new after (given page) h (served_kept page (engine h.was).wanted v (keeps_of h.was) (keeps_of h.is) wants h.applies.0)

  pub not_in : (page : ℕ) (answer : Applied) → (h : HasApplied job event.Serve answer old before new after) → (engine h.was).wanted ≡ Some page → ((v : Option ℕ) → answer ≡ Served v → ⊥) → (answer ≡ Failed) × (map keeps_of new ≡ map keeps_of old)
  not_in page answer h wants other =
      let failed = unserved page (engine h.was).wanted answer (keeps_of h.was) (keeps_of h.is) wants other h.applies.0 in
      (failed.is, nothing_kept job event.Serve answer old before new after h failed.same)

  pub in_keeps : (answer : Applied) → HasApplied job event.Serve answer old before new after → AllKeep old before new after
  in_keeps answer h = all_keep job event.Serve answer old before new after h h.applies.1

  pub clean_kept : (page : ℕ) (answer : Applied) → HasApplied job (event.Flush page) answer old before new after → map keeps_of new ≡ map keeps_of old
  clean_kept page answer h = nothing_kept job (event.Flush page) answer old before new after h (flush_kept _ answer (keeps_of h.was) (keeps_of h.is) h.applies.0)

  pub clean_keeps : (page : ℕ) (answer : Applied) → HasApplied job (event.Flush page) answer old before new after → AllKeep old before new after
  clean_keeps page answer h = all_keep job (event.Flush page) answer old before new after h h.applies.1

  pub wants_it : (page : ℕ) (answer : Applied) → (h : HasApplied job event.Serve answer old before new after) → option_and_then (λ (k : Keeping). k.wanted) (slice_get (map keeps_of old) job) ≡ Some page → (engine h.was).wanted ≡ Some page
  wants_it page answer h e = sym (ap (option_and_then (λ (k : Keeping). k.wanted)) (was_kept job event.Serve answer old before new after h)) ∙ e

-- where the pool is full

nat_not : (a b : ℕ) → b ≤ a → nat_lt a b ≡ false
nat_not a b l = grind (arith, nat_tests)

nat_is : (a b : ℕ) → a < b → nat_lt a b ≡ true
nat_is a b l = grind (arith, nat_tests)

pub no_room_needed : (p : Pooling) → length p.resident < p.most → with_room p ≡ p
unfolding room_of
no_room_needed p room = rw (nat_is _ _ room) refl

pub room_at : (p : Pooling) (pair : Pair) → p.most ≤ length p.resident → first_free p.processes p.resident ≡ Some pair → with_room p ≡ with_out pair.job pair.page p
unfolding room_of
room_at p pair full free = rw (nat_not _ _ full, free) refl

pub room_taken : (p q : Pooling) (place : ℕ) (pair : Pair) → p.most ≤ length p.resident → first_free p.processes p.resident ≡ slice_get p.resident place → slice_get p.resident place ≡ Some pair → TakesOut place p q → q ≡ with_room p
room_taken p q place pair full free there takes = takes pair there ∙ sym (room_at p pair full (free ∙ there))

pub room_left_by : (p q : Pooling) (place : ℕ) (pair : Pair) → IsPooling p → slice_get p.resident place ≡ Some pair → TakesOut place p q → length q.resident < q.most
room_left_by p q place pair sound there takes =
    let less = fewer pair.job pair.page p.resident (there_at p.resident place pair there) in
    let held = sound.held in
    subst (λ (x : Pooling). length x.resident < x.most) (sym (takes pair there)) (omega (arith, less, held))

pub all_fine : (ms : List Machine) (job : ℕ) (k : Keeping) → slice_get (map keeps_of ms) job ≡ Some k → IsFine k
all_fine [] job k e = cc
all_fine (m ∷ ms) zero k e = let same : keeps_of m ≡ k = cc in subst IsFine same (fine_machine m)
all_fine (m ∷ ms) (suc job) k e = all_fine ms job k e

pub on_ok : {A E : Type 0} {P Q : Type 0} (r : Result A E) → (P → Q) → OnOk r P → OnOk r Q
on_ok (Ok x) f h = f h
on_ok (Err e) f h = tt

-- the pool behind an eviction, a service or a flush: the parts that these leave alone
pub record IsBehind (p q : Pooling) (old new : List Machine) : Type 0 where
  pub before : p.processes ≡ map keeps_of old
  pub behind : q.processes ≡ map keeps_of new
  pub most : q.most ≡ p.most

pub same_pooling : (p q : Pooling) (old new : List Machine) → IsBehind p q old new → q.resident ≡ p.resident → map keeps_of new ≡ map keeps_of old → q ≡ p
same_pooling p q old new b resident same =
    let processes : q.processes ≡ p.processes = b.behind ∙ same ∙ sym b.before in
    let most = b.most in
    λ i. record { most = most i; resident = resident i; processes = processes i }

-- a resident page of a pool, and its process
pub record IsIn (p : Pooling) (old : List Machine) (pair : Pair) (k : Keeping) : Type 0 where
  pub there : slice_get p.processes pair.job ≡ Some k
  pub listed : is_listed pair.page k.residence.order ≡ true
  pub once : AreOnce (pages_in pair.job p.resident)

module _ (p q : Pooling) (old : List Machine) (before : Option BlockFile) (new : List Machine) (after : Option BlockFile) (b : IsBehind p q old new) (sound : IsPooling p) where
  pub is_in : (place : ℕ) (pair : Pair) (event : Event) (answer : Applied) → slice_get p.resident place ≡ Some pair → (h : HasApplied pair.job event answer old before new after) → IsIn p old pair (keeps_of h.was)
  is_in place pair event answer at_place h =
      let there : slice_get p.processes pair.job ≡ Some (keeps_of h.was) = ap (λ ks. slice_get ks pair.job) b.before ∙ was_kept pair.job event answer old before new after h in
      let share = sound.shares pair.job (keeps_of h.was) there in
      record {
        there = there;
        listed = ap (is_listed pair.page) share.order ∙ sym (there_is pair.job pair.page p.resident) ∙ there_at p.resident place pair at_place;
        once = subst AreOnce share.order (fine_machine h.was).once;
      }

  pub out_done : (place : ℕ) (pair : Pair) → slice_get p.resident place ≡ Some pair → q.resident ≡ remove p.resident place → HasApplied pair.job (event.Evict pair.page) Evicted old before new after → q ≡ with_out pair.job pair.page p
  out_done place pair at_place gone h =
      let it = is_in place pair (event.Evict pair.page) Evicted at_place h in
      let resident : q.resident ≡ without pair.job pair.page p.resident = gone ∙ removed p.resident place pair at_place it.once in
      let processes : q.processes ≡ altered pair.job (taken pair.page) p.processes = b.behind ∙ out_kept pair.job old before new after pair.page h ∙ ap (altered pair.job (taken pair.page)) (sym b.before) in
      let most = b.most in
      λ i. record { most = most i; resident = resident i; processes = processes i }

  pub out_sound : (place : ℕ) (pair : Pair) → slice_get p.resident place ≡ Some pair → q.resident ≡ remove p.resident place → HasApplied pair.job (event.Evict pair.page) Evicted old before new after → IsPooling q
  out_sound place pair at_place gone h =
      let it = is_in place pair (event.Evict pair.page) Evicted at_place h in
      subst IsPooling (sym (out_done place pair at_place gone h)) (pool_without p pair.job pair.page (keeps_of h.was) sound it.there it.listed)

  pub out_takes : (place : ℕ) (pair : Pair) → slice_get p.resident place ≡ Some pair → q.resident ≡ remove p.resident place → HasApplied pair.job (event.Evict pair.page) Evicted old before new after → TakesOut place p q
  out_takes place pair at_place gone h = λ other there.
      let same : pair ≡ other = let e : Some pair ≡ Some other = sym at_place ∙ there in cc in
      subst (λ (x : Pair). q ≡ with_out x.job x.page p) same (out_done place pair at_place gone h)

  pub out_failed : (place : ℕ) (pair : Pair) (answer : Applied) → slice_get p.resident place ≡ Some pair → q.resident ≡ p.resident → (answer ≡ Evicted → ⊥) → HasApplied pair.job (event.Evict pair.page) answer old before new after → (answer ≡ Failed) × (q ≡ p)
  out_failed place pair answer at_place resident other h =
      let it = is_in place pair (event.Evict pair.page) answer at_place h in
      let failed = not_out pair.job old before new after pair.page answer h it.listed other in
      (failed.0, same_pooling p q old new b resident failed.1)

  wanted_here : (job page : ℕ) (answer : Applied) → option_and_then (λ (k : Keeping). k.wanted) (slice_get p.processes job) ≡ Some page → (h : HasApplied job event.Serve answer old before new after) → (engine h.was).wanted ≡ Some page
  wanted_here job page answer wants h =
      wants_it job old before new after page answer h (ap (λ ks. option_and_then (λ (k : Keeping). k.wanted) (slice_get ks job)) (sym b.before) ∙ wants)

  pub in_done : (job page : ℕ) (v : Option ℕ) → option_and_then (λ (k : Keeping). k.wanted) (slice_get p.processes job) ≡ Some page → q.resident ≡ p.resident ++ record { job = job; page = page } ∷ [] → HasApplied job event.Serve (Served v) old before new after → q ≡ came job page p
  in_done job page v wants resident h =
      let processes : q.processes ≡ altered job (given page) p.processes = b.behind ∙ in_kept job old before new after page v h (wanted_here job page (Served v) wants h) ∙ ap (altered job (given page)) (sym b.before) in
      let most = b.most in
      λ i. record { most = most i; resident = resident i; processes = processes i }

  pub in_sound : (job page : ℕ) (v : Option ℕ) → option_and_then (λ (k : Keeping). k.wanted) (slice_get p.processes job) ≡ Some page → length p.resident < p.most → q.resident ≡ p.resident ++ record { job = job; page = page } ∷ [] → HasApplied job event.Serve (Served v) old before new after → IsPooling q
  in_sound job page v wants room resident h =
      let there : slice_get p.processes job ≡ Some (keeps_of h.was) = ap (λ ks. slice_get ks job) b.before ∙ was_kept job event.Serve (Served v) old before new after h in
      subst IsPooling (sym (in_done job page v wants resident h)) (pool_with p job page (keeps_of h.was) sound there room)

  pub in_failed : (job page : ℕ) (answer : Applied) → option_and_then (λ (k : Keeping). k.wanted) (slice_get p.processes job) ≡ Some page → q.resident ≡ p.resident → ((v : Option ℕ) → answer ≡ Served v → ⊥) → HasApplied job event.Serve answer old before new after → (answer ≡ Failed) × (q ≡ p)
  in_failed job page answer wants resident other h =
      let failed = not_in job old before new after page answer h (wanted_here job page answer wants h) other in
      (failed.0, same_pooling p q old new b resident failed.1)

pub on_err : {A E : Type 0} {P : Type 0} (r : Result A E) → P → OnErr r P
on_err (Ok x) p = tt
on_err (Err e) p = p

-- what a process wants is wanted behind the page that made room

within_set : (processes : List Keeping) (job other page : ℕ) (k : Keeping) → slice_get processes other ≡ Some k → option_and_then (λ (n : Keeping). n.wanted) (slice_get (slice_set processes other (taken page k)) job) ≡ option_and_then (λ (n : Keeping). n.wanted) (slice_get processes job)
within_set [] job other page k e = refl
within_set (x ∷ xs) zero zero page k e = let same : x ≡ k = cc in ap (λ (n : Keeping). n.wanted) (sym same)
within_set (x ∷ xs) (suc job) zero page k e = refl
within_set (x ∷ xs) zero (suc other) page k e = refl
within_set (x ∷ xs) (suc job) (suc other) page k e = within_set xs job other page k e

taken_by : (processes : List Keeping) (job other page : ℕ) (o : Option Keeping) → slice_get processes other ≡ o → option_and_then (λ (n : Keeping). n.wanted) (slice_get (option_map_or (λ k. slice_set processes other (taken page k)) o processes) job) ≡ option_and_then (λ (n : Keeping). n.wanted) (slice_get processes job)
taken_by processes job other page None e = refl
taken_by processes job other page (Some k) e = within_set processes job other page k e

still_wanted : (p : Pooling) (job : ℕ) (o : Option Pair) → wanted_at job (made_room o p) ≡ wanted_at job p
still_wanted p job None = refl
still_wanted p job (Some pair) = taken_by p.processes job pair.job pair.page (slice_get p.processes pair.job) refl

pub wants_room : (p q : Pooling) (job page : ℕ) → q ≡ with_room p → wanted_at job p ≡ Some page → wanted_at job q ≡ Some page
wants_room p q job page e wants = ap (wanted_at job) e ∙ still_wanted p job (room_of p) ∙ wants

pub wants_within : (ms : List Machine) (job page : ℕ) → option_and_then (λ (k : Keeping). k.wanted) (slice_get (map keeps_of ms) job) ≡ Some page → job < length ms
wants_within [] job page e = absurd (let no_way : None ≡ Some page = e in cc)
wants_within (m ∷ ms) zero page e = omega arith
wants_within (m ∷ ms) (suc job) page e = let less = wants_within ms job page e in omega (arith, less)

-- Few turns are made in vain.
use Rattle.std.proofs.Common.{◌≡◌, ◌==◌, ◌<◌, ◌≤◌, ◌^◌, ℕ, zero, suc, ◌+◌, ◌*◌, Bool, true, false, List, [], ◌∷◌, ◌++◌, Option, Some, None, length, length-append, map, refl, sym, ap, ◌∙◌, subst, arith, inl, inr}
use Rattle.std.specs.Prelude.{◌⊎◌, nat_lt, slice_get, slice_set}
use Rattle.std.specs.Option.{option_map, option_map_or}
use Rattle.std.specs.List.{list_any}
use Rattle.std.proofs.lemmas.Bool.{cases_Bool, cases_eq, eq-eqb, ne_eqb}
use Rattle.std.proofs.lemmas.Bool.Decides.{nat_tests}
use Rattle.std.proofs.lemmas.List.{length-map}
use Rattle.std.proofs.lemmas.Option.{same_Some, slice_get-map, slice_get_within}
use Rattle.vax_space.specs.declared.Area.{Area}
use Rattle.vax_flat.specs.Outcome.{first_missing}
use Rattle.vax_flat.specs.Parts.{machine_at, touches_at}
use Rattle.vax_flat.specs.Step.{Flat}
use Rattle.vax_pager.specs.Listing.{AreOnce, is_listed, leave_out}
use Rattle.vax_pager.proofs.Listing.{in_push, in_without}
use Rattle.vax_machine.proofs.Bound.{IsBounded, begun_bounded, paged_bounded}
use Rattle.vax_machine.proofs.Running.{pinned_or, served_pins}
use Rattle.vax_machine.proofs.Touching.{few_pins}
use Rattle.vax_machine.specs.Paged.{Paged, all_evicted, attempted, attempted_by, begun_at, marked, paged}
use Rattle.vax_machine.specs.Residence.{Residence, is_resident, served}
use Rattle.vax_machine.specs.Touched.{PinsTouched}
use Rattle.vax_jobs.proofs.Alone.{next_goes}
use Rattle.vax_jobs.proofs.Rooms.{found, get_other, get_same, no_victim}
use Rattle.vax_jobs.proofs.Shares.{its_push, its_without, others_push, others_without, there_is}
use Rattle.vax_jobs.proofs.Trying.{going_process, tried_is}
use Rattle.vax_jobs.specs.Alone.{after_turns}
use Rattle.vax_jobs.specs.Pooling.{is_there, pages_in, without}
use Rattle.vax_jobs.specs.Running.{IsTouching}
use Rattle.vax_jobs.specs.Shared.{AllDone, ByTurns, Process, Setting, Shared, begun, by_missing, completed, first_unpinned, given_page, goes, goes_on, job_at, moved_on, next_position, pins_of, shared, starting, stops, tried, turned_by, victim, without_victim}
use Rattle.vax_jobs.specs.declared.pool.Pair.{Pair}
use Rattle.vax_jobs.specs.declared.position.Position.{Position}
use Rattle.vax_jobs_bound.specs.Few.{HasSpace, HaveSpaces, IsPaid, most_turns, paid}

late : (a b : ℕ) → nat_lt a b ≡ false → b ≤ a
late a b h = grind (arith, nat_tests)

-- what is so of a process where turns begin
pub record IsFit (resident : List Pair) (job : ℕ) (p : Process) : Type 0 where
  pub space : HasSpace (machine_at p.place)
  pub touching : IsTouching p
  pub once : AreOnce p.pinned
  pub held : (page : ℕ) → is_listed page p.pinned ≡ true → is_there resident job page ≡ true
  pub small : (page : ℕ) → is_there resident job page ≡ true → page < 2 ^ 23

pub record AreFit (s : Shared) : Type 0 where
  pub each : (job : ℕ) → (p : Process) → slice_get s.processes job ≡ Some p → IsFit s.resident job p

-- The process as a machine alone, with a frame for one page more. What it is behind an attempt is what the process is.

abbrev its_residence : List Pair → ℕ → Process → Residence
its_residence resident job p = record { frames = length (pages_in job resident) + 1; order = pages_in job resident; pinned = p.pinned; kept = []; spoiled = 0 }

abbrev alone : List Pair → ℕ → Process → Paged
alone resident job p = record (begun_at 64 p.steps p.place) { residence = its_residence resident job p }

attempted_alone : (p : Paged) (m : Option ℕ) → (machine_at p.place).ending ≡ None → first_missing (is_resident p.residence) (touches_at p.place) ≡ m → attempted p ≡ attempted_by m (marked p)
unfolding attempted
attempted_alone p m going e = rw (going, e) refl

turned_alone : (areas : List Area) (p : Paged) → paged areas (λ n. []) 1 p ≡ attempted p
unfolding paged all_evicted
turned_alone areas p = refl

-- the pages that it has pinned are few, since the attempt that comes touches each
module _ (resident : List Pair) (job : ℕ) (p : Process) (f : IsFit resident job p) where
  fit_touched : PinsTouched (its_residence resident job p) p.place
  fit_touched = record { touched = λ page h. f.touching page h }

  fit_held : (page : ℕ) → is_listed page p.pinned ≡ true → is_listed page (pages_in job resident) ≡ true
  fit_held page h = sym (there_is job page resident) ∙ f.held page h

  fit_small : (page : ℕ) → is_listed page (pages_in job resident) ≡ true → page < 2 ^ 23
  fit_small page h = f.small page (there_is job page resident ∙ h)

  fit_pins : length p.pinned ≤ 40
  fit_pins = few_pins (its_residence resident job p) p.place f.once fit_held fit_small fit_touched

  missing_alone : (m : Option ℕ) → first_missing (is_there resident job) (touches_at p.place) ≡ m → first_missing (is_resident (its_residence resident job p)) (touches_at p.place) ≡ m
  missing_alone m e =
      let same : is_there resident job ≡ is_resident (its_residence resident job p) = λ i page. there_is job page resident i in
      ap (λ (r : ℕ → Bool). first_missing r (touches_at p.place)) (sym same) ∙ e

  fit_behind : (m : Option ℕ) → (machine_at p.place).ending ≡ None → first_missing (is_there resident job) (touches_at p.place) ≡ m → IsBounded f.space.areas (alone resident job p) (attempted_by m (marked (alone resident job p)))
  fit_behind m going e =
      let q = alone resident job p in
      let start = begun_bounded f.space.areas q f.space.memory fit_touched f.once fit_held fit_small in
      subst (IsBounded f.space.areas q) (turned_alone f.space.areas q ∙ attempted_alone q m going (missing_alone m e))
      (paged_bounded f.space.areas (λ n. []) 1 q q f.space.space start)

-- a part is completed
fit_completed : (resident : List Pair) (job : ℕ) (p : Process) → (machine_at p.place).ending ≡ None → first_missing (is_there resident job) (touches_at p.place) ≡ None → IsFit resident job p → IsFit resident job (completed p)
unfolding AreOnce is_listed
fit_completed resident job p going e f = record {
  space = record { areas = f.space.areas; space = f.space.space; memory = (fit_behind resident job p f None going e).memory };
  touching = λ page h. let no : false ≡ true = h in cc;
  once = tt;
  held = λ page h. let no : false ≡ true = h in cc;
  small = f.small;
}

-- lists of pages

out_of : (other page : ℕ) (xs : List ℕ) → is_listed other (leave_out page xs) ≡ true → is_listed other xs ≡ true
out_of other page xs h =
    let k = sym (in_without other page xs) ∙ h in
    elim (cases_Bool (other == page)) [
      | inl e ↦ let no : false ≡ true = rw e at k in cc
      | inr e ↦ rw e at k
    ]

still_in : (other page : ℕ) (xs : List ℕ) → is_listed other xs ≡ true → is_listed other (xs ++ page ∷ []) ≡ true
still_in other page xs h = elim (cases_Bool (other == page)) [
  | inl e ↦ in_push other page xs ∙ rw e refl
  | inr e ↦ in_push other page xs ∙ rw e h
]

last_in : (page : ℕ) (xs : List ℕ) → is_listed page (xs ++ page ∷ []) ≡ true
last_in page xs = in_push page page xs ∙ rw (eq-eqb page page refl) refl

-- a page comes in, and none goes that is pinned
record Brings (resident new : List Pair) (pins : ℕ → List ℕ) (job page : ℕ) : Type 0 where
  pub kept : (i other : ℕ) → is_listed other (pins i) ≡ true → is_there resident i other ≡ true → is_there new i other ≡ true
  pub from : (i other : ℕ) → is_there new i other ≡ true → ((i ≡ job) × (other ≡ page)) ⊎ (is_there resident i other ≡ true)
  pub here : is_there new job page ≡ true

-- what is left where room was made
record Leaves (resident left : List Pair) (pins : ℕ → List ℕ) : Type 0 where
  pub kept : (i other : ℕ) → is_listed other (pins i) ≡ true → is_there resident i other ≡ true → is_there left i other ≡ true
  pub from : (i other : ℕ) → is_there left i other ≡ true → is_there resident i other ≡ true

unpinned_first : (pins : ℕ → List ℕ) (pairs : List Pair) (pair : Pair) → first_unpinned pins pairs ≡ Some pair → is_listed pair.page (pins pair.job) ≡ false
unfolding first_unpinned
unpinned_first pins [] pair e = cc
unpinned_first pins (x ∷ pairs) pair e = elim (cases_Bool (is_listed x.page (pins x.job))) [
  | inl t ↦ unpinned_first pins pairs pair (rw t at e)
  | inr f ↦
      let same : Some x ≡ Some pair = rw f at e in
      let q : x ≡ pair = cc in
      subst (λ (z : Pair). is_listed z.page (pins z.job) ≡ false) q f
]

unpinned_victim : (most : ℕ) (ps : List Process) (pairs : List Pair) (pair : Pair) → victim most ps pairs ≡ Some pair → is_listed pair.page (pins_of ps pair.job) ≡ false
unfolding victim
unpinned_victim most ps pairs pair e = elim (cases_Bool (nat_lt (length pairs) most)) [
  | inl t ↦ let no : None ≡ Some pair = rw t at e in cc
  | inr f ↦ unpinned_first (pins_of ps) pairs pair (rw f at e)
]

listed_there : (i other : ℕ) (pairs : List Pair) → is_there pairs i other ≡ true → is_listed other (pages_in i pairs) ≡ true
listed_there i other pairs h = sym (there_is i other pairs) ∙ h

there_listed : (i other : ℕ) (pairs : List Pair) → is_listed other (pages_in i pairs) ≡ true → is_there pairs i other ≡ true
there_listed i other pairs h = there_is i other pairs ∙ h

stays_in : (other page : ℕ) (xs : List ℕ) → (other ≡ page → ⊥) → is_listed other xs ≡ true → is_listed other (leave_out page xs) ≡ true
stays_in other page xs apart h = in_without other page xs ∙ rw (ne_eqb other page apart) h

leaves_without : (resident : List Pair) (pins : ℕ → List ℕ) (v : Pair) → is_listed v.page (pins v.job) ≡ false → Leaves resident (without v.job v.page resident) pins
leaves_without resident pins v free = record {
  kept = λ i other pinned h. elim (cases_eq i v.job) [
    | inl its ↦ elim (cases_eq other v.page) [
      | inl same ↦
          let no : false ≡ true = sym free ∙ (ap (λ (z : ℕ). is_listed z (pins v.job)) (sym same) ∙ (ap (λ (z : ℕ). is_listed other (pins z)) (sym its) ∙ pinned)) in
          cc
      | inr apart ↦
          let there : is_listed other (pages_in v.job resident) ≡ true = ap (λ (z : ℕ). is_listed other (pages_in z resident)) (sym its) ∙ listed_there i other resident h in
          there_listed i other (without v.job v.page resident)
          (ap (λ (z : ℕ). is_listed other (pages_in z (without v.job v.page resident))) its
          ∙ (ap (is_listed other) (its_without v.job v.page resident) ∙ stays_in other v.page (pages_in v.job resident) apart there))
    ]
    | inr apart ↦
        there_listed i other (without v.job v.page resident)
        (ap (is_listed other) (others_without i v.job v.page resident apart) ∙ listed_there i other resident h)
  ];
  from = λ i other h. elim (cases_eq i v.job) [
    | inl its ↦
        let there : is_listed other (leave_out v.page (pages_in v.job resident)) ≡ true =
        ap (is_listed other) (sym (its_without v.job v.page resident))
        ∙ (ap (λ (z : ℕ). is_listed other (pages_in z (without v.job v.page resident))) (sym its) ∙ listed_there i other (without v.job v.page resident) h) in
        there_listed i other resident (ap (λ (z : ℕ). is_listed other (pages_in z resident)) its ∙ out_of other v.page (pages_in v.job resident) there)
    | inr apart ↦
        there_listed i other resident
        (ap (is_listed other) (sym (others_without i v.job v.page resident apart)) ∙ listed_there i other (without v.job v.page resident) h)
  ];
}

leaves_victim : (resident : List Pair) (pins : ℕ → List ℕ) (o : Option Pair) → ((v : Pair) → o ≡ Some v → is_listed v.page (pins v.job) ≡ false) → Leaves resident (without_victim o resident) pins
leaves_victim resident pins None free = record { kept = λ i other pinned h. h; from = λ i other h. h }
leaves_victim resident pins (Some v) free = leaves_without resident pins v (free v refl)

push_there : (job page i other : ℕ) (left : List Pair) → is_there left i other ≡ true → is_there (left ++ record { job = job; page = page } ∷ []) i other ≡ true
push_there job page i other left h =
    let new = left ++ record { job = job; page = page } ∷ [] in
    elim (cases_eq i job) [
      | inl its ↦
          let there : is_listed other (pages_in job left) ≡ true = ap (λ (z : ℕ). is_listed other (pages_in z left)) (sym its) ∙ listed_there i other left h in
          there_listed i other new (ap (λ (z : ℕ). is_listed other (pages_in z new)) its ∙ (ap (is_listed other) (its_push job page left) ∙ still_in other page (pages_in job left) there))
      | inr apart ↦ there_listed i other new (ap (is_listed other) (others_push i job page left apart) ∙ listed_there i other left h)
    ]

push_from : (job page i other : ℕ) (left : List Pair) → is_there (left ++ record { job = job; page = page } ∷ []) i other ≡ true → ((i ≡ job) × (other ≡ page)) ⊎ (is_there left i other ≡ true)
push_from job page i other left h =
    let new = left ++ record { job = job; page = page } ∷ [] in
    elim (cases_eq i job) [
      | inl its ↦
          let there : is_listed other (pages_in job left ++ page ∷ []) ≡ true =
          ap (is_listed other) (sym (its_push job page left)) ∙ (ap (λ (z : ℕ). is_listed other (pages_in z new)) (sym its) ∙ listed_there i other new h) in
          elim (pinned_or page other (pages_in job left) there) [
            | inl same ↦ inl (its, same)
            | inr old ↦ inr (there_listed i other left (ap (λ (z : ℕ). is_listed other (pages_in z left)) its ∙ old))
          ]
      | inr apart ↦ inr (there_listed i other left (ap (is_listed other) (sym (others_push i job page left apart)) ∙ listed_there i other new h))
    ]

push_here : (job page : ℕ) (left : List Pair) → is_there (left ++ record { job = job; page = page } ∷ []) job page ≡ true
push_here job page left =
    there_listed job page (left ++ record { job = job; page = page } ∷ [])
    (ap (is_listed page) (its_push job page left) ∙ last_in page (pages_in job left))

brings : (most job page : ℕ) (ps : List Process) (resident : List Pair) → Brings resident (without_victim (victim most ps resident) resident ++ record { job = job; page = page } ∷ []) (pins_of ps) job page
brings most job page ps resident =
    let v = victim most ps resident in
    let left = without_victim v resident in
    let l = leaves_victim resident (pins_of ps) v (unpinned_victim most ps resident) in
    record {
      kept = λ i other pinned h. push_there job page i other left (l.kept i other pinned h);
      from = λ i other h. elim (push_from job page i other left h) [
        | inl here ↦ inl here
        | inr there ↦ inr (l.from i other there)
      ];
      here = push_here job page left;
    }

-- a process that had another page served, or itself

served_last : (page : ℕ) (r : Residence) → length r.order < r.frames → (served page r).order ≡ r.order ++ page ∷ []
unfolding served
served_last page r room = rw (no_victim r room) refl

new_page : (resident : List Pair) (job : ℕ) (p : Process) (page : ℕ) → (machine_at p.place).ending ≡ None → IsFit resident job p → first_missing (is_there resident job) (touches_at p.place) ≡ Some page → page < 2 ^ 23
new_page resident job p page going f e =
    let r = its_residence resident job p in
    (fit_behind resident job p f (Some page) going e).small page
    (ap (is_listed page) (served_last page r (omega arith)) ∙ last_in page (pages_in job resident))

fit_other : (resident new : List Pair) (pins : ℕ → List ℕ) (job page i : ℕ) (p : Process) → page < 2 ^ 23 → Brings resident new pins job page → pins i ≡ p.pinned → IsFit resident i p → IsFit new i p
fit_other resident new pins job page i p low b is f = record {
  space = f.space;
  touching = f.touching;
  once = f.once;
  held = λ other h. b.kept i other (ap (is_listed other) is ∙ h) (f.held other h);
  small = λ other h. elim (b.from i other h) [
    | inl here ↦ subst (λ (z : ℕ). z < 2 ^ 23) (sym here.1) low
    | inr there ↦ f.small other there
  ];
}

fit_given : (resident new : List Pair) (pins : ℕ → List ℕ) (job page : ℕ) (p : Process) → (machine_at p.place).ending ≡ None → Brings resident new pins job page → pins job ≡ p.pinned → first_missing (is_there resident job) (touches_at p.place) ≡ Some page → IsFit resident job p → IsFit new job (given_page page p)
fit_given resident new pins job page p going b is e f =
    let behind = fit_behind resident job p f (Some page) going e in
    let pinned = served_pins page (its_residence resident job p) in
    let old = fit_other resident new pins job page job p (new_page resident job p page going f e) b is f in
    record {
      space = f.space;
      touching = λ other h. behind.pins.touched other (ap (is_listed other) pinned ∙ h);
      once = subst AreOnce pinned behind.once;
      held = λ other h. elim (pinned_or page other p.pinned h) [
        | inl same ↦ ap (is_there new job) same ∙ b.here
        | inr there ↦ old.held other there
      ];
      small = old.small;
    }

pins_is : (ps : List Process) (job : ℕ) (p : Process) → slice_get ps job ≡ Some p → pins_of ps job ≡ p.pinned
pins_is ps job p e = ap (λ o. option_map_or (λ (q : Process). q.pinned) o []) e

-- one process is replaced, and the resident pages are others
fit_set : (ps : List Process) (new : List Pair) (job : ℕ) (x changed : Process) → slice_get ps job ≡ Some x → IsFit new job changed → ((i : ℕ) → (p : Process) → (i ≡ job → ⊥) → slice_get ps i ≡ Some p → IsFit new i p) → (i : ℕ) → (p : Process) → slice_get (slice_set ps job changed) i ≡ Some p → IsFit new i p
fit_set ps new job x changed there fit others i p is = elim (cases_eq i job) [
  | inl same ↦
      let first : Some changed ≡ Some p = sym (get_same ps job x changed there) ∙ ap (slice_get (slice_set ps job changed)) (sym same) ∙ is in
      let this : changed ≡ p = cc in
      subst (λ (k : ℕ). IsFit new k p) (sym same) (subst (λ (q : Process). IsFit new job q) this fit)
  | inr other ↦ others i p other (sym (get_other ps job i changed other) ∙ is)
]

fit_by : (most job : ℕ) (x : Process) (s : Shared) (o : Option ℕ) → slice_get s.processes job ≡ Some x → (machine_at x.place).ending ≡ None → first_missing (is_there s.resident job) (touches_at x.place) ≡ o → AreFit s → AreFit (by_missing most job x s o)
fit_by most job x s None there going e h = record {
  each = fit_set s.processes s.resident job x (completed x) there (fit_completed s.resident job x going e (h.each job x there)) (λ i p other is. h.each i p is);
}
fit_by most job x s (Some page) there going e h =
    let new = (by_missing most job x s (Some page)).resident in
    let b = brings most job page s.processes s.resident in
    let low = new_page s.resident job x page going (h.each job x there) e in
    record {
      each = fit_set s.processes new job x (given_page page x) there
          (fit_given s.resident new (pins_of s.processes) job page x going b (pins_is s.processes job x there) e (h.each job x there))
          (λ i p other is. fit_other s.resident new (pins_of s.processes) job page i p low b (pins_is s.processes i p is) (h.each i p is));
    }

-- what was paid

paid_set : (ps : List Process) (job : ℕ) (x new : Process) → slice_get ps job ≡ Some x → paid (slice_set ps job new) + 41 * x.parts + length x.pinned ≡ paid ps + 41 * new.parts + length new.pinned
unfolding paid
paid_set [] job x new e = cc
paid_set (p ∷ ps) zero x new e = let same : p ≡ x = cc in subst (λ (q : Process). 41 * new.parts + length new.pinned + paid ps + 41 * q.parts + length q.pinned ≡ 41 * p.parts + length p.pinned + paid ps + 41 * new.parts + length new.pinned) same (omega arith)
paid_set (p ∷ ps) (suc job) x new e = let rest = paid_set ps job x new e in omega (arith, rest)

pays_by : (most job : ℕ) (x : Process) (s : Shared) (o : Option ℕ) → slice_get s.processes job ≡ Some x → IsFit s.resident job x → (by_missing most job x s o).turns + paid s.processes ≤ s.turns + paid (by_missing most job x s o).processes
pays_by most job x s None there f =
    let pins = fit_pins s.resident job x f in
    let p = paid_set s.processes job x (completed x) there in
    omega (arith, pins, p)
pays_by most job x s (Some page) there f =
    let p = paid_set s.processes job x (given_page page x) there in
    let l = length-append x.pinned (page ∷ []) in
    omega (arith, l, p)

few_paid : (ps : List Process) → ((job : ℕ) → (p : Process) → slice_get ps job ≡ Some p → length p.pinned ≤ 40) → paid ps ≤ most_turns ps
unfolding paid most_turns
few_paid [] h = omega arith
few_paid (p ∷ ps) h =
    let here = h 0 p refl in
    let rest = few_paid ps (λ job q e. h (suc job) q e) in
    omega (arith, here, rest)

-- turns

record PaysOn (b s : Shared) : Type 0 where
  pub fit : AreFit s
  pub turns : s.turns + paid b.processes ≤ b.turns + paid s.processes

pays_tried : (limit most job : ℕ) (b s : Shared) → goes limit s.processes job ≡ true → PaysOn b s → PaysOn b (tried most job s)
pays_tried limit most job b s goes_on h =
    let p = going_process limit s.processes job goes_on in
    let o = first_missing (is_there s.resident job) (touches_at p.x.place) in
    let now = pays_by most job p.x s o p.there (h.fit.each job p.x p.there) in
    let before = h.turns in
    subst (PaysOn b) (sym (tried_is most job s p.x o p.there refl))
    (record { fit = fit_by most job p.x s o p.there p.going refl h.fit; turns = omega (arith, now, before) })

pays_at : (x : Setting) (b s : Shared) (o : Option Position) → next_position (goes x.steps s.processes) x.order s.at ≡ o → PaysOn b s → PaysOn b (turned_by x o s)
pays_at x b s None e h = h
pays_at x b s (Some at) e h =
    pays_tried x.steps x.most (job_at x.order at.line) b (record s { at = moved_on at }) (next_goes (goes x.steps s.processes) x.order s.at at e)
    (record { fit = record { each = h.fit.each }; turns = h.turns })

pays_on : (x : Setting) (count : ℕ) (s : Shared) → AreFit s → PaysOn s (shared x count s)
unfolding shared
pays_on x zero s fit = record { fit = fit; turns = omega arith }
pays_on x (suc count) s fit =
    let t = shared x count s in
    pays_at x s t (next_position (goes x.steps t.processes) x.order t.at) refl (pays_on x count s fit)

pub paid_all : (x : Setting) (count : ℕ) (s : Shared) → AreFit s → IsPaid s (shared x count s)
paid_all x count s fit =
    let h = pays_on x count s fit in
    let t = shared x count s in
    record { turns = h.turns; most = few_paid t.processes (λ job p e. fit_pins t.resident job p (h.fit.each job p e)) }

-- at the start

paid_none : (starts : List Flat) → paid (map starting starts) ≡ 0
unfolding paid
paid_none [] = refl
paid_none (m ∷ starts) = let rest = paid_none starts in omega (arith, rest)

fit_start : (m : Flat) (job : ℕ) → HasSpace m → IsFit [] job (starting m)
unfolding AreOnce is_listed
fit_start m job space = record {
  space = space;
  touching = λ page h. let no : false ≡ true = h in cc;
  once = tt;
  held = λ page h. let no : false ≡ true = h in cc;
  small = λ page h. let no : false ≡ true = h in cc;
}

start_at : (starts : List Flat) (job : ℕ) (p : Process) → HaveSpaces starts → slice_get (map starting starts) job ≡ Some p → IsFit [] job p
start_at starts job p spaces e =
    let within = slice_get_within (map starting starts) job p e in
    let count = length-map starts starting in
    let m = found starts job (omega (arith, within, count)) in
    let here : Some (starting m.0) ≡ Some p = sym (slice_get-map starting starts job ∙ ap (option_map starting) m.1) ∙ e in
    subst (IsFit [] job) (same_Some (starting m.0) p here) (fit_start m.0 job (spaces.each job m.0 m.1))

pub few_from_start : (x : Setting) (starts : List Flat) (count : ℕ) → HaveSpaces starts → (after_turns x starts count).turns ≤ most_turns (after_turns x starts count).processes
few_from_start x starts count all =
    let h = paid_all x count (begun x.order starts) (record { each = λ job p e. start_at starts job p all e }) in
    let none = paid_none starts in
    omega (arith, h.turns, h.most, none)

-- where the limit of turns stops

stops_late : (x : Setting) (s : Shared) → stops x s ≡ Some ByTurns → x.turns ≤ s.turns
unfolding stops
stops_late x s h = elim (cases_Bool (list_any (goes_on x.steps) s.processes)) [
  | inl t ↦ elim (cases_Bool (nat_lt s.turns x.turns)) [
    | inl l ↦ let no : None ≡ Some ByTurns = rw (t, l) at h in cc
    | inr m ↦ late s.turns x.turns m
  ]
  | inr n ↦ let no : Some AllDone ≡ Some ByTurns = rw n at h in cc
]

pub few_run_out : (x : Setting) (starts : List Flat) (count : ℕ) → HaveSpaces starts → stops x (after_turns x starts count) ≡ Some ByTurns → x.turns ≤ most_turns (after_turns x starts count).processes
few_run_out x starts count all stopped =
    let few = few_from_start x starts count all in
    let over = stops_late x (after_turns x starts count) stopped in
    omega (arith, few, over)

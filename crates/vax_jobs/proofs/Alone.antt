-- Each process is the run of its own flat machine.
use Rattle.std.proofs.Common.{◌≡◌, ◌<◌, ℕ, zero, suc, ◌+◌, Bool, true, List, [], ◌∷◌, Option, Some, None, map, drop, refl, sym, ap, ◌∙◌, subst, arith, inl, inr}
use Rattle.std.specs.Prelude.{◌&&◌, nat_lt, slice_get, slice_set}
use Rattle.std.specs.Option.{option_map}
use Rattle.std.proofs.lemmas.Bool.{cases_Bool, cases_eq, and_parts}
use Rattle.std.proofs.lemmas.Option.{slice_get-map}
use Rattle.vax_flat.proofs.Parts.{turns_agree}
use Rattle.vax_flat.specs.Outcome.{first_missing}
use Rattle.vax_flat.specs.Parts.{Turn, Completes, Leaves, GoesBy, machine_at, touches_at, turn}
use Rattle.vax_flat.specs.Step.{Flat, run}
use Rattle.vax_machine.proofs.Following.{goes_ending, goes_further, one_further}
use Rattle.vax_machine.specs.Paged.{place_after, steps_after}
use Rattle.vax_order.specs.declared.line.Line.{Line}
use Rattle.vax_jobs.proofs.Ordering.{job_is}
use Rattle.vax_jobs.proofs.Rooms.{get_other, get_same}
use Rattle.vax_jobs.proofs.Trying.{going_process, tried_is}
use Rattle.vax_jobs.specs.Alone.{FollowTheirRuns, after_turns}
use Rattle.vax_jobs.specs.Pooling.{is_there}
use Rattle.vax_jobs.specs.Shared.{Process, Setting, Shared, begun, by_missing, completed, first_going, given_page, goes, job_at, moved_on, next_position, or_first, shared, starting, tried, turned_by}
use Rattle.vax_jobs.specs.declared.position.Position.{Position}

-- the process of the next turn goes on

get_at : (xs : List Line) (n : ℕ) (x : Line) (ys : List Line) → drop n xs ≡ x ∷ ys → slice_get xs n ≡ Some x
get_at [] zero x ys e = cc
get_at [] (suc n) x ys e = cc
get_at (y ∷ xs) zero x ys e = let same : y ≡ x = cc in ap (λ z. Some z) same
get_at (y ∷ xs) (suc n) x ys e = get_at xs n x ys e

rest_at : (xs : List Line) (n : ℕ) (x : Line) (ys : List Line) → drop n xs ≡ x ∷ ys → drop (suc n) xs ≡ ys
rest_at [] zero x ys e = cc
rest_at [] (suc n) x ys e = cc
rest_at (y ∷ xs) zero x ys e = cc
rest_at (y ∷ xs) (suc n) x ys e = rest_at xs n x ys e

first_goes : (going : ℕ → Bool) (order ls : List Line) (line : ℕ) (at : Position) → drop line order ≡ ls → first_going going line ls ≡ Some at → going (job_at order at.line) ≡ true
unfolding first_going
first_goes going order [] line at is e = cc
first_goes going order (l ∷ ls) line at is e = elim (cases_Bool (going l.job)) [
  | inl t ↦
      let found : Some (record { line = line; left = l.count }) ≡ Some at = rw t at e in
      let same : record { line = line; left = l.count } ≡ at = cc in
      let number : line ≡ at.line = ap (λ (p : Position). p.line) same in
      subst (λ (n : ℕ). going (job_at order n) ≡ true) number (ap going (job_is order line l (get_at order line l ls is)) ∙ t)
  | inr f ↦
      let one : suc line ≡ line + 1 = omega arith in
      first_goes going order ls (line + 1) at (ap (λ n. drop n order) (sym one) ∙ rest_at order line l ls is) (rw f at e)
]

or_goes : (going : ℕ → Bool) (order : List Line) (a b : Option Position) (at : Position) → ((p : Position) → a ≡ Some p → going (job_at order p.line) ≡ true) → ((p : Position) → b ≡ Some p → going (job_at order p.line) ≡ true) → or_first a b ≡ Some at → going (job_at order at.line) ≡ true
or_goes going order None b at f g e = g at e
or_goes going order (Some p) b at f g e = f at e

drop_none : (xs : List Line) → drop 0 xs ≡ xs
drop_none [] = refl
drop_none (x ∷ xs) = refl

pub next_goes : (going : ℕ → Bool) (order : List Line) (at next : Position) → next_position going order at ≡ Some next → going (job_at order next.line) ≡ true
unfolding next_position
next_goes going order at next e = elim (cases_Bool (nat_lt 0 at.left && going (job_at order at.line))) [
  | inl t ↦
      let found : Some at ≡ Some next = rw t at e in
      let same : at ≡ next = cc in
      subst (λ (p : Position). going (job_at order p.line) ≡ true) same (and_parts (nat_lt 0 at.left) (going (job_at order at.line)) t).1
  | inr f ↦ or_goes going order (first_going going (at.line + 1) (drop (at.line + 1) order)) (first_going going 0 order) next
      (λ p h. first_goes going order (drop (at.line + 1) order) (at.line + 1) p refl h)
      (λ p h. first_goes going order order 0 p (drop_none order) h) (rw f at e)
]

-- What is so of a process and its start, and stays so where it completes a part and where a page is served, is so of each process after any number of turns.

module _ (Has : Flat → Process → Type 0) (limit : ℕ) (more : (start : Flat) (p : Process) → (machine_at p.place).ending ≡ None → p.steps < limit → Has start p → Has start (completed p)) (pages : (start : Flat) (p : Process) (page : ℕ) → Has start p → Has start (given_page page p)) (starts : List Flat) where
  pub record AllHave (processes : List Process) : Type 0 where
    pub each : (job : ℕ) → (start : Flat) → (p : Process) → slice_get starts job ≡ Some start → slice_get processes job ≡ Some p → Has start p

  have_set : (ps : List Process) (job : ℕ) (x new : Process) → slice_get ps job ≡ Some x → ((start : Flat) → Has start x → Has start new) → AllHave ps → AllHave (slice_set ps job new)
  have_set ps job x new there leads h = record {
    each = λ i start p at is. elim (cases_eq i job) [
      | inl same ↦
          let first : Some new ≡ Some p = sym (get_same ps job x new there) ∙ ap (slice_get (slice_set ps job new)) (sym same) ∙ is in
          let this : new ≡ p = cc in
          let here : slice_get ps i ≡ Some x = ap (slice_get ps) same ∙ there in
          subst (λ (q : Process). Has start q) this (leads start (h.each i start x at here))
      | inr other ↦ h.each i start p at (sym (get_other ps job i new other) ∙ is)
    ];
  }

  have_by : (most job : ℕ) (x : Process) (s : Shared) (o : Option ℕ) → slice_get s.processes job ≡ Some x → (machine_at x.place).ending ≡ None → x.steps < limit → AllHave s.processes → AllHave (by_missing most job x s o).processes
  have_by most job x s None there going left h = have_set s.processes job x (completed x) there (λ start g. more start x going left g) h
  have_by most job x s (Some page) there going left h = have_set s.processes job x (given_page page x) there (λ start g. pages start x page g) h

  have_tried : (most job : ℕ) (s : Shared) → goes limit s.processes job ≡ true → AllHave s.processes → AllHave (tried most job s).processes
  have_tried most job s goes_on h =
      let p = going_process limit s.processes job goes_on in
      subst (λ (k : Shared). AllHave k.processes) (sym (tried_is most job s p.x (first_missing (is_there s.resident job) (touches_at p.x.place)) p.there refl))
      (have_by most job p.x s (first_missing (is_there s.resident job) (touches_at p.x.place)) p.there p.going p.few h)

  have_turn : (x : Setting) (s : Shared) (o : Option Position) → x.steps ≡ limit → next_position (goes limit s.processes) x.order s.at ≡ o → AllHave s.processes → AllHave (turned_by x o s).processes
  have_turn x s None is e h = h
  have_turn x s (Some at) is e h = have_tried x.most (job_at x.order at.line) (record s { at = moved_on at }) (next_goes (goes limit s.processes) x.order s.at at e) h

  pub have_all : (x : Setting) (s : Shared) (count : ℕ) → x.steps ≡ limit → AllHave s.processes → AllHave (shared x count s).processes
  unfolding shared
  have_all x s zero is h = h
  have_all x s (suc count) is h =
      let t = shared x count s in
      have_turn x t (next_position (goes x.steps t.processes) x.order t.at) is (ap (λ l. next_position (goes l t.processes) x.order t.at) (sym is)) (have_all x s count is h)

-- at the start
pub starting_at : (Has : Flat → Process → Type 0) (starts : List Flat) (job : ℕ) (start : Flat) (p : Process) → ((m : Flat) → Has m (starting m)) → slice_get starts job ≡ Some start → slice_get (map starting starts) job ≡ Some p → Has start p
starting_at Has starts job start p has a b =
    let both : Some (starting start) ≡ Some p = sym (slice_get-map starting starts job ∙ ap (option_map starting) a) ∙ b in
    let same : starting start ≡ p = cc in
    subst (λ (q : Process). Has start q) same (has start)

-- a part of a step leads on

abbrev Follows : Flat → Process → Type 0
Follows start p = GoesBy (run p.steps start) p.place

part_follows : (t : Turn) (p : Process) (start : Flat) → turn p.place ≡ t → GoesBy (run p.steps start) p.place → (machine_at p.place).ending ≡ None → GoesBy (run (steps_after t p.steps) start) (place_after t)
part_follows (Completes next) p start is g going =
    let alive : (run p.steps start).ending ≡ None = sym (goes_ending (run p.steps start) p.place g) ∙ going in
    one_further p.steps (p.steps + 1) start next refl (turns_agree (run p.steps start) p.place next alive g is)
part_follows (Leaves q) p start is g going = goes_further (run p.steps start) p.place q g is

follows_start : (m : Flat) → Follows m (starting m)
unfolding run
follows_start m = refl

pub follow_all : (x : Setting) (starts : List Flat) (count : ℕ) → FollowTheirRuns starts (after_turns x starts count).processes
follow_all x starts count =
    let all = have_all Follows x.steps (λ start p going left g. part_follows (turn p.place) p start refl g going) (λ start p page g. g) starts x (begun x.order starts) count refl
    (record { each = λ job start p a b. starting_at Follows starts job start p follows_start a b }) in
    record { each = all.each }

-- Turns of several processes in an order.
use Rattle.std.proofs.Common.{◌≡◌, ◌<◌, ◌≤◌, ℕ, zero, suc, ◌+◌, ◌-◌, ◌^◌, Bool, true, List, [], Option, Some, None, length, map, refl, sym, ap, ◌∙◌, subst, arith, inl, inr}
use Rattle.std.proofs.lemmas.Bool.{cases_eq}
use Rattle.vax_outside.specs.Channels.{Channels, GrewByPrefix, only}
use Rattle.vax_outside.specs.declared.faults.Failures.{Failures}
use Rattle.vax_outside.specs.declared.traits.Chan.TheVariants.{Out}
use Rattle.std.specs.Prelude.{slice_get}
use Rattle.vax_order.specs.Orders.{names_all}
use Rattle.vax_order.specs.declared.line.Line.{Line}
use Rattle.vax_jobs.proofs.Marks.{count_is, going_same}
use Rattle.vax_jobs.proofs.Advancing.{touching_times}
use Rattle.vax_jobs.proofs.Ordering.{less_is, stops_done, stops_not, stops_turns}
use Rattle.vax_jobs.proofs.Sends.{nothing_sent, sends_all, sends_part}
use Rattle.vax_jobs.proofs.Trying.{going_process, tried_is}
use Rattle.vax_jobs.specs.Pool.{keeps_of}
use Rattle.vax_jobs.specs.Pooling.{is_there}
use Rattle.vax_jobs.specs.Running.{AreTouching, Ends, IsAt, IsLost, IsReady, IsStuck, IsWhole, MayGo, Runs, System, Tracks, going}
use Rattle.vax_jobs.specs.Several.{HasMade, IsBroken, IsCaught, KeepsGoing, tried_times}
use Rattle.vax_jobs.specs.Sending.{Finishes, Sends}
use Rattle.vax_jobs.specs.Shared.{Process, Setting, Shared, Why, AllDone, ByTurns, by_missing, bytes_sent, goes, job_at, moved_on, next_position, next_turn, shared, stops, tried, tried_by, turned_by}
use Rattle.vax_jobs.specs.declared.ends.JobsEnd.{JobsEnd}
use Rattle.vax_jobs.specs.declared.ends.JobsEnd.TheVariants.{Done, Turns, PageFault}
use Rattle.vax_jobs.specs.declared.position.Position.{Position}
use Rattle.vax_flat.specs.Outcome.{first_missing}
use Rattle.vax_flat.specs.Parts.{touches_at}

-- where a run is after so many turns
pub record IsUnder (x : Setting) (s : Shared) (made : ℕ) (at : Position) (y : System) (held : List ℕ) (first now : Option Channels) : Type 0 where
  pub runs : Runs x s made
  pub here : IsAt first (shared x made s) y held now
  pub position : (shared x made s).at ≡ at
  pub turns : (shared x made s).turns ≡ made
  pub touching : AreTouching (shared x made s).processes

pub under_begun : (x : Setting) (s : Shared) (at : Position) (y : System) (held : List ℕ) (first : Option Channels) → s.at ≡ at → held ≡ [] → IsReady x y s → IsUnder x s 0 at y held first first
unfolding shared
under_begun x s at y held first is none h = record {
  runs = record { going = λ i l. absurd (omega arith) };
  here = record { tracks = h.tracks; sends = nothing_sent first (bytes_sent s) held (ap (map (λ x. x.byte)) h.sent) none };
  position = is;
  turns = h.turns;
  touching = h.touching;
}

-- the next place of the order is the same for the pool and for the flat machines
position_same : (x : Setting) (s : Shared) (y : System) (at : Position) (next : Option Position) → Tracks y s → s.at ≡ at → next ≡ next_position (going x.steps y.pooling) x.order at → next_position (goes x.steps s.processes) x.order s.at ≡ next
position_same x s y at next t is e =
    let same : (job : ℕ) → going x.steps y.pooling job ≡ goes x.steps s.processes job = going_same x.steps y.pooling s.processes t.stands.marks in
    let fn : going x.steps y.pooling ≡ goes x.steps s.processes = λ i job. same job i in
    ap (λ f. next_position f x.order s.at) (sym fn) ∙ ap (next_position (going x.steps y.pooling) x.order) is ∙ sym e

-- the processes after so many turns are as many as the machines
names_same : (x : Setting) (y : System) (s : Shared) (jobs : ℕ) → y.pooling.processes ≡ map keeps_of y.machines → Tracks y s → length y.machines ≡ jobs → names_all jobs x.order ≡ true → names_all (length s.processes) x.order ≡ true
names_same x y s jobs is t count names =
    subst (λ (n : ℕ). names_all n x.order ≡ true) (sym count ∙ count_is y s.processes is t.stands) names

-- processes that are where turns lead are there with no page made absent for the next
stuck_there : (s : Shared) (y : System) → Tracks y s → IsStuck s y
stuck_there s y t = record { stands = t.stands; resident = inl t.resident }

finish_whole : (end result : JobsEnd) (why : Why) (x : Setting) (s : Shared) (made : ℕ) (at : Position) (y : System) (held : List ℕ) (first now new : Option Channels) (a b : Failures) → ((r : JobsEnd) → r ≡ end → IsWhole x s why y first new → Ends r x s y first new) → IsUnder x s made at y held first now → stops x (shared x made s) ≡ Some why → Finishes end result held now new a b → Ends result x s y first new
finish_whole end result why x s made at y held first now new a b whole u stopped (inl f) =
    whole result f.answer (record {
      count = made;
      runs = u.runs;
      stopped = stopped;
      tracks = u.here.tracks;
      wrote = sends_all first now new (bytes_sent (shared x made s)) held u.here.sends f.wrote;
    })
finish_whole end result why x s made at y held first now new a b whole u stopped (inr f) =
    subst (λ (r : JobsEnd). Ends r x s y first new) (sym f.answer)
    (record { count = made; runs = u.runs; stands = stuck_there (shared x made s) y u.here.tracks; wrote = sends_part first now new (bytes_sent (shared x made s)) held u.here.sends f.wrote })

pub ends_done : (result : JobsEnd) (x : Setting) (s : Shared) (made jobs : ℕ) (at : Position) (y : System) (held : List ℕ) (first now new : Option Channels) (a b : Failures) → y.pooling.processes ≡ map keeps_of y.machines → length y.machines ≡ jobs → names_all jobs x.order ≡ true → None ≡ next_position (going x.steps y.pooling) x.order at → IsUnder x s made at y held first now → Finishes Done result held now new a b → Ends result x s y first new
ends_done result x s made jobs at y held first now new a b is count names next u f =
    let names = names_same x y (shared x made s) jobs is u.here.tracks count names in
    let none = position_same x (shared x made s) y at None u.here.tracks u.position next in
    finish_whole Done result AllDone x s made at y held first now new a b (λ r e w. subst (λ (k : JobsEnd). Ends k x s y first new) (sym e) w) u
    (stops_done x (shared x made s) (shared x made s).at names none) f

-- a turn that is to come: its place in the order, and its process, which goes on
pub record IsNext (x : Setting) (s : Shared) (at next : Position) (y : System) : Type 0 where
  pub position : Some next ≡ next_position (going x.steps y.pooling) x.order at
  pub goes : going x.steps y.pooling (job_at x.order next.line) ≡ true

flat_goes : (x : Setting) (s : Shared) (y : System) (job : ℕ) → Tracks y s → going x.steps y.pooling job ≡ true → goes x.steps s.processes job ≡ true
flat_goes x s y job t h = sym (going_same x.steps y.pooling s.processes t.stands.marks job) ∙ h

pub ends_turns : (result : JobsEnd) (x : Setting) (s : Shared) (made : ℕ) (at next : Position) (y : System) (held : List ℕ) (first now new : Option Channels) (a b : Failures) → IsNext x s at next y → x.turns ≤ made → IsUnder x s made at y held first now → Finishes Turns result held now new a b → Ends result x s y first new
ends_turns result x s made at next y held first now new a b n l u f =
    let t = u.turns in
    finish_whole Turns result ByTurns x s made at y held first now new a b (λ r e w. subst (λ (k : JobsEnd). Ends k x s y first new) (sym e) w) u
    (stops_turns x (shared x made s) (job_at x.order next.line) (flat_goes x (shared x made s) y (job_at x.order next.line) u.here.tracks n.goes) (omega (arith, t, l))) f

pub may_go : (x : Setting) (s : Shared) (made : ℕ) (at next : Position) (y : System) (held : List ℕ) (first now : Option Channels) → x.steps < 2 ^ 64 → IsNext x s at next y → IsUnder x s made at y held first now → MayGo x.steps (job_at x.order next.line) (shared x made s)
may_go x s made at next y held first now few n u = record {
  goes = flat_goes x (shared x made s) y (job_at x.order next.line) u.here.tracks n.goes;
  few = few;
  touching = u.touching;
}

runs_more : (x : Setting) (s : Shared) (made : ℕ) → Runs x s made → stops x (shared x made s) ≡ None → Runs x s (suc made)
runs_more x s made runs none = record {
  going = λ i l. elim (cases_eq i made) [
    | inl same ↦ subst (λ (k : ℕ). stops x (shared x k s) ≡ None) (sym same) none
    | inr other ↦ runs.going i (omega (arith, l))
  ];
}

-- where an order stands counts for no attempt

abbrev moved_to : Shared → Position → Shared
moved_to s at = record s { at = at }

by_moved : (most job : ℕ) (p : Process) (s : Shared) (at : Position) (o : Option ℕ) → by_missing most job p (moved_to s at) o ≡ moved_to (by_missing most job p s o) at
by_moved most job p s at None = refl
by_moved most job p s at (Some page) = refl

tried_by_moved : (most job : ℕ) (s : Shared) (at : Position) (o : Option Process) → tried_by most job o (moved_to s at) ≡ moved_to (tried_by most job o s) at
tried_by_moved most job s at None = refl
tried_by_moved most job s at (Some p) = by_moved most job p s at (first_missing (is_there s.resident job) (touches_at p.place))

tried_moved : (most job : ℕ) (s : Shared) (at : Position) → tried most job (moved_to s at) ≡ moved_to (tried most job s) at
unfolding tried
tried_moved most job s at = tried_by_moved most job s at (slice_get s.processes job)

by_turns : (most job : ℕ) (p : Process) (s : Shared) (o : Option ℕ) → (by_missing most job p s o).turns ≡ s.turns + 1
by_turns most job p s None = refl
by_turns most job p s (Some page) = refl

tried_turns : (limit most job : ℕ) (s : Shared) → goes limit s.processes job ≡ true → (tried most job s).turns ≡ s.turns + 1
tried_turns limit most job s h =
    let p = going_process limit s.processes job h in
    let o = first_missing (is_there s.resident job) (touches_at p.x.place) in
    ap (λ (k : Shared). k.turns) (tried_is most job s p.x o p.there refl) ∙ by_turns most job p.x s o

times_turns : (limit most job count : ℕ) (s : Shared) → KeepsGoing limit most job count s → (tried_times most job count s).turns ≡ s.turns + count
unfolding tried_times
times_turns limit most job zero s h = omega arith
times_turns limit most job (suc count) s h =
    let before = times_turns limit most job count s (record { goes = λ i l. h.goes i (omega (arith, l)) }) in
    let one = tried_turns limit most job (tried_times most job count s) (h.goes count (omega arith)) in
    omega (arith, before, one)

-- so many turns of a line

abbrev at_line : Position → ℕ → Position
at_line next count = record { line = next.line; left = next.left - count }

next_at : (x : Setting) (s : Shared) (at : Position) → next_position (goes x.steps s.processes) x.order s.at ≡ Some at → next_turn x s ≡ moved_to (tried x.most (job_at x.order at.line) s) (moved_on at)
next_at x s at e = ap (λ o. turned_by x o s) e ∙ tried_moved x.most (job_at x.order at.line) s (moved_on at)

shared_next : (x : Setting) (s : Shared) (made : ℕ) → shared x (suc made) s ≡ next_turn x (shared x made s)
unfolding shared
shared_next x s made = refl

still_here : (going : ℕ → Bool) (order : List Line) (at : Position) → 0 < at.left → going (job_at order at.line) ≡ true → next_position going order at ≡ Some at
unfolding next_position
still_here going order at l h = rw (less_is 0 at.left l, h) refl

-- they were made, and none of them was stopped before
record IsRow (x : Setting) (s : Shared) (made count : ℕ) (next : Position) : Type 0 where
  pub is : shared x (made + count) s ≡ moved_to (tried_times x.most (job_at x.order next.line) count (shared x made s)) (at_line next count)
  pub runs : Runs x s (made + count)

module _ (x : Setting) (s : Shared) (made : ℕ) (at next : Position) (y : System) (held : List ℕ) (first now : Option Channels) (n : IsNext x s at next y) (u : IsUnder x s made at y held first now) where
  abbrev job : ℕ
  job = job_at x.order next.line

  abbrev from : Shared
  from = shared x made s

  is_first : next_position (goes x.steps from.processes) x.order from.at ≡ Some next
  is_first = position_same x from y at (Some next) u.here.tracks u.position n.position

  first_row : made < x.turns → IsRow x s made 1 next
  unfolding tried_times
  first_row l =
      let t = u.turns in
      let one : suc made ≡ made + 1 = omega arith in
      let none = stops_not x from job (flat_goes x from y job u.here.tracks n.goes) (omega (arith, t, l)) in
      record {
        is = subst (λ (k : ℕ). shared x k s ≡ moved_to (tried x.most job from) (moved_on next)) one (shared_next x s made ∙ next_at x from next is_first);
        runs = subst (Runs x s) one (runs_more x s made u.runs none);
      }

  more_rows : (count : ℕ) → 0 < next.left - count → made + count < x.turns → KeepsGoing x.steps x.most job (suc count) from → IsRow x s made count next → IsRow x s made (suc count) next
  unfolding tried_times
  more_rows count left l h r =
      let t = tried_times x.most job count from in
      let here = moved_to t (at_line next count) in
      let goes_here : goes x.steps t.processes job ≡ true = h.goes count (omega arith) in
      let turns = times_turns x.steps x.most job count from (record { goes = λ i k. h.goes i (omega (arith, k)) }) in
      let start = u.turns in
      let one : suc (made + count) ≡ made + suc count = omega arith in
      let none : stops x here ≡ None = stops_not x here job goes_here (omega (arith, turns, start, l)) in
      let stays = still_here (goes x.steps t.processes) x.order (at_line next count) left goes_here in
      let step : next_turn x here ≡ moved_to (tried x.most job t) (moved_on (at_line next count)) = next_at x here (at_line next count) stays ∙ ap (λ (k : Shared). moved_to k (moved_on (at_line next count))) (tried_moved x.most job t (at_line next count)) in
      let place : moved_on (at_line next count) ≡ at_line next (suc count) = let l : next.left - count - 1 ≡ next.left - suc count = omega arith in λ i. record { line = next.line; left = l i } in
      record {
        is =
            subst (λ (k : ℕ). shared x k s ≡ moved_to (tried x.most job t) (at_line next (suc count))) one
            (shared_next x s (made + count) ∙ (ap (next_turn x) r.is ∙ (step ∙ ap (moved_to (tried x.most job t)) place)));
        runs = subst (Runs x s) one (runs_more x s (made + count) r.runs (ap (stops x) r.is ∙ none));
      }

  rows : (count : ℕ) → suc count ≤ next.left → made + suc count ≤ x.turns → KeepsGoing x.steps x.most job (suc count) from → IsRow x s made (suc count) next
  rows zero left l h = first_row (omega (arith, l))
  rows (suc count) left l h =
      more_rows (suc count) (omega (arith, left)) (omega (arith, l)) h
      (rows count (omega (arith, left)) (omega (arith, l)) (record { goes = λ i k. h.goes i (omega (arith, k)) }))

  -- the turns of a line are whole
  pub under_more : (more times count : ℕ) (z : System) (left : List ℕ) (new : Option Channels) → more ≡ made + count → z.pooling.most ≡ x.most → count ≤ next.left → made + count ≤ x.turns → HasMade times x.steps job count first from z left new → IsUnder x s more (at_line next count) z left first new
  under_more more times zero z left new m most few l h = absurd (let some = h.some in omega (arith, some))
  under_more more times (suc count) z left new m most few l h =
      let going = subst (λ (k : ℕ). KeepsGoing x.steps k job (suc count) from) most h.going in
      let here = subst (λ (k : ℕ). IsAt first (tried_times k job (suc count) from) z left new) most h.at in
      let r = rows count few l going in
      let turns = times_turns x.steps x.most job (suc count) from going in
      let before = u.turns in
      subst (λ (k : ℕ). IsUnder x s k (at_line next (suc count)) z left first new) (sym m) (record {
        runs = r.runs;
        here = subst (λ (k : Shared). IsAt first k z left new) (sym r.is) (record {
          tracks = record { stands = here.tracks.stands; resident = here.tracks.resident };
          sends = here.sends;
        });
        position = ap (λ (k : Shared). k.at) r.is;
        turns = let e = ap (λ (k : Shared). k.turns) r.is in omega (arith, e, turns, before);
        touching = subst (λ (k : Shared). AreTouching k.processes) (sym r.is) (touching_times x.most job (suc count) from u.touching);
      })

  -- before the attempt behind so many of them
  record IsBehind (count : ℕ) : Type 0 where
    pub place : Position
    pub is : shared x (made + count) s ≡ moved_to (tried_times x.most job count from) place

  behind : (count : ℕ) → count < next.left → made + count < x.turns → KeepsGoing x.steps x.most job (suc count) from → IsBehind count
  unfolding tried_times
  behind zero left l h = let none : made + 0 ≡ made = omega arith in record { place = from.at; is = ap (λ k. shared x k s) none }
  behind (suc count) left l h =
      let r = rows count (omega (arith, left)) (omega (arith, l)) (record { goes = λ i k. h.goes i (omega (arith, k)) }) in
      record { place = at_line next (suc count); is = r.is }

  cut_by : (result : JobsEnd) (count : ℕ) (z : System) (left : List ℕ) (between new : Option Channels) (a b : Failures) → Runs x s (suc count) → IsStuck (shared x count s) z → Sends first (bytes_sent (shared x count s)) left between → Finishes PageFault result left between new a b → Ends result x s z first new
  cut_by result count z left between new a b runs stuck sends (inl f) =
      subst (λ (r : JobsEnd). Ends r x s z first new) (sym f.answer) (record {
        count = count;
        runs = runs;
        stuck = stuck;
        wrote = sends_all first between new (bytes_sent (shared x count s)) left sends f.wrote;
      })
  cut_by result count z left between new a b runs stuck sends (inr f) =
      subst (λ (r : JobsEnd). Ends r x s z first new) (sym f.answer) (record {
        count = count;
        runs = record { going = λ i l. runs.going i (omega (arith, l)) };
        stands = stuck;
        wrote = sends_part first between new (bytes_sent (shared x count s)) left sends f.wrote;
      })

  -- a call of the page file failed in it
  pub ends_cut : (result : JobsEnd) (times : ℕ) (z : System) (left : List ℕ) (between new : Option Channels) (a b : Failures) → z.pooling.most ≡ x.most → times ≤ next.left → made + times ≤ x.turns → IsCaught times x.steps job first from z left between → Finishes PageFault result left between new a b → Ends result x s z first new
  ends_cut result times z left between new a b most few l c f =
      let low = c.few in
      let count = c.count in
      let going = subst (λ (k : ℕ). KeepsGoing x.steps k job (suc count) from) most c.going in
      let stuck = subst (λ (k : ℕ). IsStuck (tried_times k job count from) z) most c.stuck in
      let sends = subst (λ (k : ℕ). Sends first (bytes_sent (tried_times k job count from)) left between) most c.sends in
      let h = behind count (omega (arith, low, few)) (omega (arith, low, l)) going in
      let r = rows count (omega (arith, low, few)) (omega (arith, low, l)) going in
      let one : made + suc count ≡ suc (made + count) = omega arith in
      cut_by result (made + count) z left between new a b (subst (Runs x s) one r.runs)
      (subst (λ (k : Shared). IsStuck k z) (sym h.is) (record { stands = stuck.stands; resident = stuck.resident }))
      (subst (λ (k : Shared). Sends first (bytes_sent k) left between) (sym h.is) sends) f

  -- a write failed in it
  pub ends_lost : (times : ℕ) (z : System) (new : Option Channels) → z.pooling.most ≡ x.most → times ≤ next.left → made + times ≤ x.turns → IsBroken times x.steps job first from z new → IsLost x s z first new
  ends_lost times z new most few l b =
      let low = b.few in
      let count = b.count in
      let going = subst (λ (k : ℕ). KeepsGoing x.steps k job (suc count) from) most b.going in
      let r = rows count (omega (arith, low, few)) (omega (arith, low, l)) going in
      let tracks = subst (λ (k : ℕ). Tracks z (tried_times k job (suc count) from)) most b.tracks in
      let wrote = subst (λ (k : ℕ). GrewByPrefix first new (only Out (bytes_sent (tried_times k job (suc count) from)))) most b.wrote in
      record {
        count = made + suc count;
        runs = r.runs;
        stands = subst (λ (k : Shared). IsStuck k z) (sym r.is) (record { stands = tracks.stands; resident = inl tracks.resident });
        wrote = subst (λ (k : Shared). GrewByPrefix first new (only Out (bytes_sent k))) (sym r.is) wrote;
      }

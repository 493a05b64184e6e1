-- Turns come to an end, and what they send only grows.
use Rattle.std.proofs.Common.{◌≡◌, ◌<◌, ◌≤◌, ℕ, zero, suc, ◌+◌, true, false, List, [], ◌∷◌, ◌++◌, Option, Some, None, length, map, refl, sym, ap, ◌∙◌, subst, arith, inl, inr, ◌⊎◌, append_assoc}
use Rattle.std.specs.Prelude.{nat_lt, slice_get}
use Rattle.std.specs.List.{list_all, list_any}
use Rattle.std.specs.Option.{option_map_or}
use Rattle.std.proofs.lemmas.Bool.{cases_Bool, cases_eq}
use Rattle.std.proofs.lemmas.Bool.Decides.{nat_tests}
use Rattle.std.proofs.lemmas.List.{length-set, map-append}
use Rattle.vax_flat.specs.Outcome.{first_missing}
use Rattle.vax_flat.specs.Parts.{touches_at}
use Rattle.vax_order.specs.Orders.{IsOrder, is_line}
use Rattle.vax_order.specs.declared.line.Line.{Line}
use Rattle.vax_jobs.proofs.Ordering.{line_in, stops_done}
use Rattle.vax_jobs.proofs.Rooms.{found}
use Rattle.vax_jobs.proofs.Trying.{bytes_nil, tried_is}
use Rattle.vax_jobs.specs.Pooling.{is_there}
use Rattle.vax_jobs.specs.Running.{Runs}
use Rattle.vax_jobs.specs.Shared.{Process, Sent, Setting, Shared, Why, AllDone, ByTurns, by_missing, bytes_sent, completed, given_page, goes, goes_on, job_at, moved_on, next_position, sent_by, shared, stops, tried, tried_by, turned_by}
use Rattle.vax_jobs.specs.declared.position.Position.{Position}

-- a turn leaves as many processes

missing_count : (most job : ℕ) (p : Process) (s : Shared) (o : Option ℕ) → length (by_missing most job p s o).processes ≡ length s.processes
missing_count most job p s None = length-set s.processes job (completed p)
missing_count most job p s (Some page) = length-set s.processes job (given_page page p)

count_by : (most job : ℕ) (s : Shared) (o : Option Process) → length (tried_by most job o s).processes ≡ length s.processes
count_by most job s None = refl
count_by most job s (Some p) = missing_count most job p s (first_missing (is_there s.resident job) (touches_at p.place))

count_tried : (most job : ℕ) (s : Shared) → length (tried most job s).processes ≡ length s.processes
unfolding tried
count_tried most job s = count_by most job s (slice_get s.processes job)

count_at : (x : Setting) (s : Shared) (o : Option Position) → length (turned_by x o s).processes ≡ length s.processes
count_at x s None = refl
count_at x s (Some at) = count_tried x.most (job_at x.order at.line) (record s { at = moved_on at })

count_after : (x : Setting) (s : Shared) (count : ℕ) → length (shared x count s).processes ≡ length s.processes
unfolding shared
count_after x s zero = refl
count_after x s (suc count) = count_at x (shared x count s) (next_position (goes x.steps (shared x count s).processes) x.order (shared x count s).at) ∙ count_after x s count

-- what was sent stays

abbrev Grows : Shared → Shared → Type 0
Grows s t = (more : List ℕ) × (bytes_sent t ≡ bytes_sent s ++ more)

missing_grows : (most job : ℕ) (p : Process) (s : Shared) (o : Option ℕ) → Grows s (by_missing most job p s o)
missing_grows most job p s None = (map (λ (x : Sent). x.byte) (sent_by job p), map-append (λ (x : Sent). x.byte) s.sent (sent_by job p))
missing_grows most job p s (Some page) = ([], bytes_nil (bytes_sent s))

grows_by : (most job : ℕ) (s : Shared) (o : Option Process) → Grows s (tried_by most job o s)
grows_by most job s None = ([], bytes_nil (bytes_sent s))
grows_by most job s (Some p) = missing_grows most job p s (first_missing (is_there s.resident job) (touches_at p.place))

grows_tried : (most job : ℕ) (s : Shared) → Grows s (tried most job s)
unfolding tried
grows_tried most job s = grows_by most job s (slice_get s.processes job)

grows_at : (x : Setting) (s : Shared) (o : Option Position) → Grows s (turned_by x o s)
grows_at x s None = ([], bytes_nil (bytes_sent s))
grows_at x s (Some at) = grows_tried x.most (job_at x.order at.line) (record s { at = moved_on at })

grows_after : (x : Setting) (s : Shared) (made : ℕ) → Grows (shared x made s) (shared x (suc made) s)
unfolding shared
grows_after x s made = grows_at x (shared x made s) (next_position (goes x.steps (shared x made s).processes) x.order (shared x made s).at)

-- a turn that isn't stopped is counted

is_less : (a b : ℕ) → nat_lt a b ≡ true → a < b
is_less a b h = grind (arith, nat_tests)

not_over : (x : Setting) (s : Shared) → stops x s ≡ None → s.turns < x.turns
unfolding stops
not_over x s e = elim (cases_Bool (list_any (goes_on x.steps) s.processes)) [
  | inl t ↦ elim (cases_Bool (nat_lt s.turns x.turns)) [
    | inl l ↦ is_less s.turns x.turns l
    | inr f ↦ let no : Some ByTurns ≡ None = rw (t, f) at e in cc
  ]
  | inr f ↦ let no : Some AllDone ≡ None = rw f at e in cc
]

any_some : (limit : ℕ) (ps : List Process) → list_any (goes_on limit) ps ≡ true → 0 < length ps
any_some limit [] h = let no : false ≡ true = h in cc
any_some limit (p ∷ ps) h = omega arith

some_left : (x : Setting) (s : Shared) → stops x s ≡ None → 0 < length s.processes
unfolding stops
some_left x s e = elim (cases_Bool (list_any (goes_on x.steps) s.processes)) [
  | inl t ↦ any_some x.steps s.processes t
  | inr f ↦ let no : Some AllDone ≡ None = rw f at e in cc
]

job_by : (jobs : ℕ) (order : List Line) (line : ℕ) (o : Option Line) → 0 < jobs → list_all (is_line jobs) order ≡ true → slice_get order line ≡ o → option_map_or (λ (l : Line). l.job) o 0 < jobs
job_by jobs order line None some proper e = some
job_by jobs order line (Some l) some proper e = (line_in jobs order line l proper e).job

by_turns : (most job : ℕ) (p : Process) (s : Shared) (o : Option ℕ) → (by_missing most job p s o).turns ≡ s.turns + 1
by_turns most job p s None = refl
by_turns most job p s (Some page) = refl

by_next : (x : Setting) (s : Shared) (o : Option Position) → IsOrder (length s.processes) x.order → stops x s ≡ None → next_position (goes x.steps s.processes) x.order s.at ≡ o → (turned_by x o s).turns ≡ s.turns + 1
by_next x s None order none e = let no : Some AllDone ≡ None = sym (stops_done x s s.at order.named e) ∙ none in cc
by_next x s (Some at) order none e =
    let job = job_at x.order at.line in
    let t : Shared = record s { at = moved_on at } in
    let p = found s.processes job (job_by (length s.processes) x.order at.line (slice_get x.order at.line) (some_left x s none) order.proper refl) in
    let o = first_missing (is_there t.resident job) (touches_at p.0.place) in
    ap (λ (k : Shared). k.turns) (tried_is x.most job t p.0 o p.1 refl) ∙ by_turns x.most job p.0 t o

turns_after : (x : Setting) (s : Shared) (made : ℕ) → IsOrder (length (shared x made s).processes) x.order → stops x (shared x made s) ≡ None → (shared x (suc made) s).turns ≡ (shared x made s).turns + 1
unfolding shared
turns_after x s made order none = by_next x (shared x made s) (next_position (goes x.steps (shared x made s).processes) x.order (shared x made s).at) order none refl

runs_more : (x : Setting) (s : Shared) (made : ℕ) → Runs x s made → stops x (shared x made s) ≡ None → Runs x s (suc made)
runs_more x s made runs none = record {
  going = λ i l. elim (cases_eq i made) [
    | inl same ↦ subst (λ (k : ℕ). stops x (shared x k s) ≡ None) (sym same) none
    | inr other ↦ runs.going i (omega (arith, l))
  ];
}

-- where turns behind so many stop by themselves
pub record Later (x : Setting) (s : Shared) (made : ℕ) : Type 0 where
  pub count : ℕ
  pub why : Why
  pub runs : Runs x s count
  pub stopped : stops x (shared x count s) ≡ Some why
  pub more : List ℕ
  pub grows : bytes_sent (shared x count s) ≡ bytes_sent (shared x made s) ++ more

stop_cases : (o : Option Why) → (o ≡ None) ⊎ ((why : Why) × (o ≡ Some why))
stop_cases None = inl refl
stop_cases (Some why) = inr (why, refl)

stops_here : (x : Setting) (s : Shared) (made : ℕ) (why : Why) → Runs x s made → stops x (shared x made s) ≡ Some why → Later x s made
stops_here x s made why runs e = record { count = made; why = why; runs = runs; stopped = e; more = []; grows = bytes_nil (bytes_sent (shared x made s)) }

-- so many turns more are enough
pub later : (left : ℕ) (x : Setting) (s : Shared) (made : ℕ) → IsOrder (length s.processes) x.order → Runs x s made → x.turns ≤ (shared x made s).turns + left → Later x s made
later zero x s made order runs l = elim (stop_cases (stops x (shared x made s))) [
  | inl e ↦ let under = not_over x (shared x made s) e in absurd (omega (arith, l, under))
  | inr w ↦ stops_here x s made w.0 runs w.1
]
later (suc left) x s made order runs l = elim (stop_cases (stops x (shared x made s))) [
  | inl e ↦
      let turns = turns_after x s made (subst (λ (n : ℕ). IsOrder n x.order) (sym (count_after x s made)) order) e in
      let next = later left x s (suc made) order (runs_more x s made runs e) (omega (arith, l, turns)) in
      let grown = grows_after x s made in
      record {
        count = next.count;
        why = next.why;
        runs = next.runs;
        stopped = next.stopped;
        more = grown.0 ++ next.more;
        grows = next.grows ∙ ap (λ z. z ++ next.more) grown.1 ∙ append_assoc (bytes_sent (shared x made s)) grown.0 next.more;
      }
  | inr w ↦ stops_here x s made w.0 runs w.1
]

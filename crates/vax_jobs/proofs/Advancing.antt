-- Attempts of one process, each of which completes a step with no byte sent, and where they lead the flat machines.
use Rattle.std.proofs.Common.{◌≡◌, ◌<◌, ◌≤◌, ℕ, zero, suc, ◌+◌, Bool, true, false, List, [], ◌∷◌, ◌++◌, append_assoc, Option, Some, None, length, map, drop, refl, sym, ap, ◌∙◌, subst, arith, inl, inr}
use Rattle.std.specs.Prelude.{◌⊎◌, Err, is_none, nat_lt, slice_get, slice_set}
use Rattle.std.specs.Option.{option_map, option_map_or}
use Rattle.std.proofs.lemmas.Bool.{cases_eq, and_parts}
use Rattle.std.proofs.lemmas.Bool.Decides.{nat_tests}
use Rattle.std.proofs.lemmas.List.{length-set, map-set}
use Rattle.std.proofs.lemmas.Option.{slice_get-map}
use Rattle.vax_outside.specs.Blocks.{BlockFile}
use Rattle.vax_outside.specs.Channels.{Channels, GrewByPrefix, only}
use Rattle.vax_outside.specs.declared.traits.Chan.TheVariants.{Out}
use Rattle.vax_flat.specs.declared.Ending.{Ending}
use Rattle.vax_flat.specs.Outcome.{first_missing}
use Rattle.vax_flat.specs.Parts.{Completes, At, machine_at, touches_at, turn}
use Rattle.vax_flat.specs.Step.{Flat}
use Rattle.vax_machine.proofs.Halting.{turn_extends}
use Rattle.vax_machine.proofs.Tracking.{several_are}
use Rattle.vax_machine.specs.Batch.{Advances, ComesFar, Spot, several}
use Rattle.vax_machine.specs.Machine.{Keeping, Means, modified_of, residence}
use Rattle.vax_machine.specs.Meaning.{engine}
use Rattle.vax_machine.specs.Paged.{place_after}
use Rattle.vax_machine.specs.Residence.{is_resident}
use Rattle.vax_machine.specs.declared.machine.Machine.{Machine}
use Rattle.vax_window.specs.Windows.{its}
use Rattle.vax_jobs.proofs.Going.{pooling_is, resident_is}
use Rattle.vax_jobs.proofs.Marks.{altered_marks, going_same, set_same}
use Rattle.vax_jobs.proofs.Ordering.{less_is}
use Rattle.vax_jobs.proofs.Rooms.{altered_is, get_other, get_same, same_pool}
use Rattle.vax_jobs.proofs.Trying.{GoingProcess, IsGoing, bytes_more, drop_front, going_process, mark_eq, mark_is, set_stands, touching_tried, tried_is}
use Rattle.vax_jobs.proofs.Turns.{some_machine}
use Rattle.vax_jobs.specs.Pool.{keeps_of}
use Rattle.vax_jobs.specs.Pooling.{IsPooling, Pooling, altered, is_there}
use Rattle.vax_jobs.specs.Running.{AreTouching, IsAt, IsStuck, Mark, MayGo, Stands, System, Tracks, TurnsTo, flat_mark, going, has_left, kept_mark}
use Rattle.vax_jobs.specs.Sending.{Sends}
use Rattle.vax_jobs.specs.Several.{GoesOnAtOnce, HasMade, IsBroken, IsCaught, KeepsGoing, SeveralTo, tried_times}
use Rattle.vax_jobs.specs.Shared.{Process, Shared, by_missing, bytes_sent, completed, finished, goes, goes_on, sent_in, tried}
use Rattle.vax_jobs.specs.declared.ends.Fault.{Fault}
use Rattle.vax_jobs.specs.declared.ends.Fault.TheVariants.{Page, Write}
use Rattle.vax_jobs.specs.declared.pool.Pair.{Pair}

-- a process that goes on, by its machine

pub record HasLeft (limit : ℕ) (m : Machine) : Type 0 where
  pub going : (engine m).ended ≡ None
  pub few : (engine m).steps < limit

none_is : (o : Option Ending) → is_none o ≡ true → o ≡ None
none_is None h = refl
none_is (Some e) h = cc

is_less : (a b : ℕ) → nat_lt a b ≡ true → a < b
is_less a b h = grind (arith, nat_tests)

pub machine_left : (limit : ℕ) (p : Pooling) (ms : List Machine) (job : ℕ) (m : Machine) → p.processes ≡ map keeps_of ms → slice_get ms job ≡ Some m → going limit p job ≡ true → HasLeft limit m
machine_left limit p ms job m is there h =
    let here : slice_get p.processes job ≡ Some (keeps_of m) = ap (λ ks. slice_get ks job) is ∙ slice_get-map keeps_of ms job ∙ ap (option_map keeps_of) there in
    let left : has_left limit (keeps_of m) ≡ true = sym (ap (λ o. option_map_or (has_left limit) o false) here) ∙ h in
    let parts = and_parts (is_none (engine m).ended) (nat_lt (engine m).steps limit) left in
    record { going = none_is (engine m).ended parts.0; few = is_less (engine m).steps limit parts.1 }

-- what such attempts leave of what a machine keeps

pub several_order : (count : ℕ) (k : Keeping) → (several count k).residence.order ≡ k.residence.order
unfolding several
several_order zero k = refl
several_order (suc count) k = several_order count k

pub several_frames : (count : ℕ) (k : Keeping) → (several count k).residence.frames ≡ k.residence.frames
unfolding several
several_frames zero k = refl
several_frames (suc count) k = several_frames count k

pins_behind : ℕ → List ℕ → List ℕ
pins_behind zero pins = pins
pins_behind (suc count) pins = []

several_pins : (count : ℕ) (k : Keeping) → (several count k).residence.pinned ≡ pins_behind count k.residence.pinned
unfolding several pins_behind
several_pins zero k = refl
several_pins (suc count) k = refl

module _ (job count limit : ℕ) (old new : List Machine) (h : GoesOnAtOnce job count limit old new) where
  pub was_there : slice_get (map keeps_of old) job ≡ Some (keeps_of h.was)
  was_there = slice_get-map keeps_of old job ∙ ap (option_map keeps_of) h.there

  pub kept_behind : map keeps_of new ≡ altered job (several count) (map keeps_of old)
  kept_behind =
      ap (map keeps_of) h.changed ∙ map-set keeps_of old job h.is ∙ ap (slice_set (map keeps_of old) job) h.advanced.keeps
      ∙ sym (altered_is job (several count) (map keeps_of old) (keeps_of h.was) was_there)

  pub as_many : length new ≡ length old
  as_many = ap length h.changed ∙ length-set old job h.is

  pub pool_behind : (p q : Pooling) → p.processes ≡ map keeps_of old → q.processes ≡ map keeps_of new → q.most ≡ p.most → q.resident ≡ p.resident → IsPooling p → IsPooling q
  pool_behind p q pe qe most resident sound =
      subst IsPooling (sym (pooling_is p q most resident (altered job (several count) p.processes) (qe ∙ kept_behind ∙ ap (altered job (several count)) (sym pe))))
      (same_pool p job (keeps_of h.was) (several count) sound (ap (λ ks. slice_get ks job) pe ∙ was_there) (several_order count (keeps_of h.was)) (several_frames count (keeps_of h.was)))

-- the flat machines

set_set : {A : Type 0} (xs : List A) (n : ℕ) (x y : A) → slice_set (slice_set xs n x) n y ≡ slice_set xs n y
set_set [] n x y = refl
set_set (z ∷ xs) zero x y = refl
set_set (z ∷ xs) (suc n) x y = ap (λ zs. z ∷ zs) (set_set xs n x y)

-- the process behind so many of them, at this spot, and what was sent
record IsAlong (limit most job count : ℕ) (s : Shared) (x : Process) (to : Spot) : Type 0 where
  pub at : Process
  pub processes : (tried_times most job count s).processes ≡ slice_set s.processes job at
  pub resident : (tried_times most job count s).resident ≡ s.resident
  pub place : at.place ≡ to.place
  pub steps : at.steps ≡ x.steps + count
  pub pinned : at.pinned ≡ pins_behind count x.pinned
  pub going : (machine_at at.place).ending ≡ None
  pub more : List ℕ
  pub sent : bytes_sent (tried_times most job count s) ≡ bytes_sent s ++ more
  pub output : (machine_at to.place).output ≡ (machine_at x.place).output ++ more
  pub goes : (i : ℕ) → i < count → goes limit (tried_times most job i s).processes job ≡ true

goes_at : (limit job : ℕ) (ps : List Process) (p : Process) → slice_get ps job ≡ Some p → (machine_at p.place).ending ≡ None → p.steps < limit → goes limit ps job ≡ true
goes_at limit job ps p there going few =
    ap (λ o. option_map_or (goes_on limit) o false) there ∙ rw (going, less_is p.steps limit few) refl

nothing_more : (xs : List ℕ) → xs ≡ xs ++ []
nothing_more [] = refl
nothing_more (x ∷ xs) = ap (λ ys. x ∷ ys) (nothing_more xs)

along_none : (limit most job : ℕ) (s : Shared) (x : Process) (to : Spot) → slice_get s.processes job ≡ Some x → (machine_at x.place).ending ≡ None → x.place ≡ to.place → IsAlong limit most job 0 s x to
unfolding tried_times pins_behind
along_none limit most job s x to there going is = record {
  at = x;
  processes = sym (set_same s.processes job x there);
  resident = refl;
  place = is;
  steps = omega arith;
  pinned = refl;
  going = going;
  more = [];
  sent = nothing_more (bytes_sent s);
  output = ap (λ p. (machine_at p).output) (sym is) ∙ nothing_more (machine_at x.place).output;
  goes = λ i l. absurd (omega (arith, l));
}

cases_last : (i count : ℕ) → i < suc count → (i < count) ⊎ (i ≡ count)
cases_last i count l = elim (cases_eq i count) [
  | inl e ↦ inr e
  | inr o ↦ inl (omega (arith, l, o))
]

module _ (limit most job count : ℕ) (s : Shared) (x : Process) (mid : Spot) (next : Flat) (to : Spot) (there : slice_get s.processes job ≡ Some x) (h : IsAlong limit most job count s x mid) (low : x.steps + suc count ≤ limit) (none : first_missing (is_there s.resident job) (touches_at mid.place) ≡ None) (is : turn mid.place ≡ Completes next) (going : next.ending ≡ None) (end : to.place ≡ At next) where
  abbrev before : Shared
  before = tried_times most job count s

  at_there : slice_get before.processes job ≡ Some h.at
  at_there = ap (λ ps. slice_get ps job) h.processes ∙ get_same s.processes job x h.at there

  missing : first_missing (is_there before.resident job) (touches_at h.at.place) ≡ None
  missing =
      ap (λ (pairs : List Pair). first_missing (is_there pairs job) (touches_at h.at.place)) h.resident
      ∙ (ap (λ p. first_missing (is_there s.resident job) (touches_at p)) h.place ∙ none)

  turn_is : turn h.at.place ≡ Completes next
  turn_is = ap turn h.place ∙ is

  now_is : tried_times most job (suc count) s ≡ by_missing most job h.at before None
  unfolding tried_times
  now_is = tried_is most job before h.at None at_there missing

  done_is : completed h.at ≡ finished (Completes next) h.at
  done_is = ap (λ t. finished t h.at) turn_is

  abbrev bytes : List ℕ
  bytes = (turn_extends h.at.place).more

  next_output : next.output ≡ (machine_at h.at.place).output ++ bytes
  next_output = sym (ap (λ t. (machine_at (place_after t)).output) turn_is) ∙ (turn_extends h.at.place).is

  sends : sent_in (machine_at h.at.place).output (turn h.at.place) ≡ bytes
  sends =
      ap (sent_in (machine_at h.at.place).output) turn_is
      ∙ (ap (drop (length (machine_at h.at.place).output)) next_output ∙ drop_front (machine_at h.at.place).output bytes)

  goes_earlier : (i : ℕ) → i < suc count → goes limit (tried_times most job i s).processes job ≡ true
  goes_earlier i l = elim (cases_last i count l) [
    | inl earlier ↦ h.goes i earlier
    | inr last ↦
        let steps = h.steps in
        subst (λ (k : ℕ). goes limit (tried_times most job k s).processes job ≡ true) (sym last)
        (goes_at limit job before.processes h.at at_there h.going (omega (arith, steps, low)))
  ]

  along_more : IsAlong limit most job (suc count) s x to
  unfolding pins_behind
  along_more = record {
    at = completed h.at;
    processes =
        ap (λ (k : Shared). k.processes) now_is
        ∙ (ap (λ ps. slice_set ps job (completed h.at)) h.processes ∙ set_set s.processes job h.at (completed h.at));
    resident = ap (λ (k : Shared). k.resident) now_is ∙ h.resident;
    place = ap (λ (p : Process). p.place) done_is ∙ sym end;
    steps = let e = ap (λ (p : Process). p.steps) done_is in let steps = h.steps in omega (arith, e, steps);
    pinned = refl;
    going = ap (λ (p : Process). (machine_at p.place).ending) done_is ∙ going;
    more = h.more ++ bytes;
    sent =
        ap bytes_sent now_is
        ∙ (bytes_more job h.at before bytes sends
        ∙ (ap (λ ys. ys ++ bytes) h.sent ∙ append_assoc (bytes_sent s) h.more bytes));
    output =
        ap (λ p. (machine_at p).output) end
        ∙ (next_output
        ∙ (ap (λ p. (machine_at p).output ++ bytes) h.place
        ∙ (ap (λ ys. ys ++ bytes) h.output ∙ append_assoc (machine_at x.place).output h.more bytes)));
    goes = goes_earlier;
  }

along : (limit most job count : ℕ) (s : Shared) (x : Process) (from to : Spot) → slice_get s.processes job ≡ Some x → (machine_at x.place).ending ≡ None → x.place ≡ from.place → x.steps + count ≤ limit → Advances (is_there s.resident job) count from to → IsAlong limit most job count s x to
unfolding Advances
along limit most job zero s x from to there going is low a = along_none limit most job s x to there going (is ∙ ap (λ (k : Spot). k.place) (sym a))
along limit most job (suc count) s x from to there going is low a =
    let earlier = along limit most job count s x from a.0 there going is (omega (arith, low)) a.2 in
    along_more limit most job count s x a.0 a.1 to there earlier low a.3 a.4 a.5 (ap (λ (k : Spot). k.place) a.6)

-- what was sent by steps that sent nothing

no_more : (xs ys : List ℕ) → xs ++ ys ≡ xs → ys ≡ []
no_more [] ys e = e
no_more (x ∷ xs) ys e = no_more xs ys (let same : x ∷ (xs ++ ys) ≡ x ∷ xs = e in cc)

pub touching_times : (most job count : ℕ) (s : Shared) → AreTouching s.processes → AreTouching (tried_times most job count s).processes
unfolding tried_times
touching_times most job zero s h = h
touching_times most job (suc count) s h = touching_tried most job (tried_times most job count s) (touching_times most job count s h)

-- where they lead the flat machines
pub record LeadsFar (limit job count : ℕ) (first : Option Channels) (s : Shared) (z : System) (held : List ℕ) (now : Option Channels) : Type 0 where
  pub going : KeepsGoing limit z.pooling.most job count s
  pub at : IsAt first (tried_times z.pooling.most job count s) z held now

module _ (limit job count : ℕ) (y z : System) (held : List ℕ) (first now : Option Channels) (s : Shared) (was : y.pooling.processes ≡ map keeps_of y.machines) (kept : z.pooling.processes ≡ map keeps_of z.machines) (same_most : z.pooling.most ≡ y.pooling.most) (same_resident : z.pooling.resident ≡ y.pooling.resident) (same_file : z.file ≡ y.file) (sound : IsPooling y.pooling) (h : GoesOnAtOnce job count limit y.machines z.machines) (may : MayGo limit job s) (here : IsAt first s y held now) where
  process : GoingProcess limit job s.processes
  process = going_process limit s.processes job may.goes

  machine_there : slice_get z.machines job ≡ Some h.is
  machine_there = ap (λ ms. slice_get ms job) h.changed ∙ get_same y.machines job h.was h.is h.there

  is_going : IsGoing job y z s h.was h.is process.x
  is_going = record {
    was = was;
    now = kept;
    tracks = here.tracks;
    machine = h.there;
    new = machine_there;
    process = process.there;
    going = process.going;
    few = let a = process.few in let b = may.few in omega (arith, a, b);
    others = λ i other a b there is.
        let same : a ≡ b = some_machine a b (sym there ∙ (sym (ap (λ ms. slice_get ms i) h.changed ∙ get_other y.machines job i h.is other) ∙ is)) in
        λ place means. subst (λ (f : Option BlockFile). Means (engine b) (its i f) place) (sym same_file) (subst (λ (m : Machine). Means (engine m) (its i y.file) place) same means);
  }

  mark : kept_mark (keeps_of h.was) ≡ flat_mark process.x
  mark = mark_is job y z s h.was h.is process.x is_going

  means_was : Means (engine h.was) (its job y.file) process.x.place
  means_was = here.tracks.stands.means job h.was process.x h.there process.there

  kept_was : slice_get y.pooling.processes job ≡ Some (keeps_of h.was)
  kept_was = ap (λ ks. slice_get ks job) was ∙ was_there job count limit y.machines z.machines h

  resident_same : is_resident (residence (engine h.was)) ≡ is_there s.resident job
  resident_same =
      resident_is y.pooling.most job y.pooling.resident (residence (engine h.was)) (sound.shares job (keeps_of h.was) kept_was)
      ∙ ap (λ (pairs : List Pair). is_there pairs job) here.tracks.resident

  far : ComesFar count (engine h.was) (engine h.is) (its job y.file) process.x.place
  far = h.advanced.goes (its job y.file) process.x.place means_was

  steps_same : (engine h.was).steps ≡ process.x.steps
  steps_same = ap (λ (k : Mark). k.steps) mark

  went : IsAlong limit z.pooling.most job count s process.x far.here
  went =
      along limit z.pooling.most job count s process.x (record { place = process.x.place; modified = modified_of (engine h.was) }) far.here process.there process.going refl
      (let a = h.within in let b = steps_same in omega (arith, a, b))
      (subst (λ (f : ℕ → Bool). Advances f count (record { place = process.x.place; modified = modified_of (engine h.was) }) far.here) resident_same far.advances)

  none_sent : went.more ≡ []
  none_sent = no_more (machine_at process.x.place).output went.more (sym went.output ∙ far.silent)

  mark_now : kept_mark (several count (keeps_of h.was)) ≡ flat_mark went.at
  mark_now =
      let k = several_are count (keeps_of h.was) (let a = h.within in let b = may.few in omega (arith, a, b)) h.counted in
      mark_eq _ _ _ _ _ _ (let a = k.steps in let b = steps_same in let c = went.steps in omega (arith, a, b, c))
      (several_pins count (keeps_of h.was) ∙ (ap (λ (m : Mark). pins_behind count m.pinned) mark ∙ sym went.pinned))
      (k.ended ∙ (ap (λ (m : Mark). m.ended) mark ∙ (process.going ∙ sym went.going)))

  marks_now : map kept_mark z.pooling.processes ≡ slice_set (map kept_mark y.pooling.processes) job (flat_mark went.at)
  marks_now =
      ap (map kept_mark) (kept ∙ kept_behind job count limit y.machines z.machines h ∙ ap (altered job (several count)) (sym was))
      ∙ (altered_marks y.pooling.processes job (several count) (keeps_of h.was) kept_was
      ∙ ap (slice_set (map kept_mark y.pooling.processes) job) mark_now)

  means_now : Means (engine h.is) (its job z.file) went.at.place
  means_now =
      subst (λ (f : Option BlockFile). Means (engine h.is) (its job f) went.at.place) (sym same_file)
      (subst (λ p. Means (engine h.is) (its job y.file) p) (sym went.place) far.means)

  stands_now : Stands z (tried_times z.pooling.most job count s).processes
  stands_now =
      subst (Stands z) (sym went.processes)
      (set_stands job y z s h.was h.is process.x is_going went.at marks_now means_now)

  pub leads_far : LeadsFar limit job count first s z held now
  leads_far = record {
    going = record { goes = went.goes };
    at = record {
      tracks = record { stands = stands_now; resident = same_resident ∙ (here.tracks.resident ∙ sym went.resident) };
      sends = subst (λ (bytes : List ℕ). Sends first bytes held now) (nothing_more (bytes_sent s) ∙ (ap (λ ys. bytes_sent s ++ ys) (sym none_sent) ∙ sym went.sent)) here.sends;
    };
  }

-- some were made where the process doesn't go on

none_altered : (ks : List Keeping) (job : ℕ) (k : Keeping) → slice_get ks job ≡ Some k → altered job (several 0) ks ≡ ks
unfolding several
none_altered ks job k e = altered_is job (λ k. k) ks k e ∙ set_same ks job k e

pub some_made : (job count limit : ℕ) (p q : Pooling) (old new : List Machine) → p.processes ≡ map keeps_of old → q.processes ≡ map keeps_of new → GoesOnAtOnce job count limit old new → going limit p job ≡ true → going limit q job ≡ false → 1 ≤ count
some_made job (suc count) limit p q old new pe qe h on off = omega arith
some_made job zero limit p q old new pe qe h on off =
    let same : q.processes ≡ p.processes = qe ∙ (kept_behind job 0 limit old new h ∙ (none_altered (map keeps_of old) job (keeps_of h.was) (was_there job 0 limit old new h) ∙ sym pe)) in
    let both : true ≡ false = sym on ∙ (ap (λ ks. option_map_or (has_left limit) (slice_get ks job) false) (sym same) ∙ off) in
    cc

-- one attempt more behind them

module _ (limit job count : ℕ) (first : Option Channels) (s : Shared) (z : System) (held : List ℕ) (now : Option Channels) (l : LeadsFar limit job count first s z held now) (on : going limit z.pooling job ≡ true) where
  abbrev behind : Shared
  behind = tried_times z.pooling.most job count s

  goes_behind : goes limit behind.processes job ≡ true
  goes_behind = sym (going_same limit z.pooling behind.processes l.at.tracks.stands.marks job) ∙ on

  pub may_again : MayGo limit job s → MayGo limit job behind
  may_again may = record { goes = goes_behind; few = may.few; touching = touching_times z.pooling.most job count s may.touching }

  goes_all : KeepsGoing limit z.pooling.most job (suc count) s
  goes_all = record {
    goes = λ i below. elim (cases_last i count below) [
      | inl earlier ↦ l.going.goes i earlier
      | inr last ↦ subst (λ (k : ℕ). goes limit (tried_times z.pooling.most job k s).processes job ≡ true) (sym last) goes_behind
    ];
  }

  module _ (times : ℕ) (w : System) (left : List ℕ) (new : Option Channels) (most : w.pooling.most ≡ z.pooling.most) (below : count < times) where
    going_now : KeepsGoing limit w.pooling.most job (suc count) s
    going_now = subst (λ (k : ℕ). KeepsGoing limit k job (suc count) s) (sym most) goes_all

    pub made_more : (more : ℕ) → more ≡ count + 1 → IsAt first (tried w.pooling.most job behind) w left new → HasMade times limit job more first s w left new
    unfolding tried_times
    made_more more is at =
        let one : suc count ≡ more = omega (arith, is) in
        subst (λ (k : ℕ). HasMade times limit job k first s w left new) one (record {
          some = omega arith;
          few = omega (arith, below);
          going = going_now;
          at = subst (λ (k : ℕ). IsAt first (tried w.pooling.most job (tried_times k job count s)) w left new) (sym most) at;
        })

    pub caught_behind : IsStuck behind w × Sends first (bytes_sent behind) left new → IsCaught times limit job first s w left new
    caught_behind (stuck, sends) = record {
      count = count;
      few = below;
      going = going_now;
      stuck = subst (λ (k : ℕ). IsStuck (tried_times k job count s) w) (sym most) stuck;
      sends = subst (λ (k : ℕ). Sends first (bytes_sent (tried_times k job count s)) left new) (sym most) sends;
    }

    pub broken_behind : Tracks w (tried w.pooling.most job behind) × GrewByPrefix first new (only Out (bytes_sent (tried w.pooling.most job behind))) → IsBroken times limit job first s w new
    unfolding tried_times
    broken_behind (tracks, wrote) = record {
      count = count;
      few = below;
      going = going_now;
      tracks = subst (λ (k : ℕ). Tracks w (tried w.pooling.most job (tried_times k job count s))) (sym most) tracks;
      wrote = subst (λ (k : ℕ). GrewByPrefix first new (only Out (bytes_sent (tried w.pooling.most job (tried_times k job count s))))) (sym most) wrote;
    }

    pub fails_behind : (fault : Fault) → TurnsTo (Err fault) job first behind w left new → SeveralTo (Err fault) times limit job first s w left new
    fails_behind Page h = caught_behind h
    fails_behind Write h = broken_behind h

-- and none
pub made_all : (limit job count times : ℕ) (first : Option Channels) (s : Shared) (z : System) (held : List ℕ) (now : Option Channels) → LeadsFar limit job count first s z held now → 1 ≤ count → count ≤ times → HasMade times limit job count first s z held now
made_all limit job count times first s z held now l some few = record { some = some; few = few; going = l.going; at = l.at }

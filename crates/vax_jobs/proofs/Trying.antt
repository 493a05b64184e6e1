-- An attempt of a process, and where it leads the flat machines.
use Rattle.std.proofs.Common.{◌≡◌, ◌<◌, ℕ, ◌+◌, ◌-◌, ◌^◌, Bool, true, false, List, [], ◌∷◌, ◌++◌, Option, Some, None, length, map, drop, refl, sym, ap, ◌∙◌, subst, arith, inl, inr}
use Rattle.std.specs.Prelude.{is_none, nat_lt, slice_get, slice_set}
use Rattle.std.specs.Option.{option_and_then, option_map, option_map_or}
use Rattle.std.proofs.lemmas.Bool.{cases_eq, and_parts}
use Rattle.std.proofs.lemmas.Bool.Decides.{nat_tests}
use Rattle.std.proofs.lemmas.List.{length-map, map-set}
use Rattle.std.proofs.lemmas.Option.{slice_get-map, slice_get_within}
use Rattle.vax_outside.specs.Faults.{raised}
use Rattle.vax_flat.specs.declared.Ending.{Ending}
use Rattle.vax_flat.specs.Outcome.{first_missing}
use Rattle.vax_flat.specs.Parts.{Turn, Completes, Leaves, gone_back, left_by, machine_at, touches_at, turn}
use Rattle.vax_flat.specs.Step.{ended, with_byte_sent}
use Rattle.vax_pager.specs.Listing.{is_listed}
use Rattle.vax_machine.proofs.Following.{part_ending}
use Rattle.vax_machine.proofs.Running.{pinned_or}
use Rattle.vax_machine.proofs.Touching.{missed}
use Rattle.vax_machine.specs.Machine.{Goes, Keeping, Means, residence, tried as keeping_tried}
use Rattle.vax_machine.specs.Meaning.{engine}
use Rattle.vax_machine.specs.Residence.{Residence, eased}
use Rattle.vax_machine.specs.Touched.{is_touched}
use Rattle.vax_machine.specs.declared.event.Applied.{Applied}
use Rattle.vax_machine.specs.declared.event.Applied.TheVariants as applied
use Rattle.vax_machine.specs.declared.machine.Machine.{Machine}
use Rattle.vax_window.specs.Windows.{its}
use Rattle.vax_jobs.proofs.Marks.{altered_count, altered_marks, count_is, count_with, given_mark, left_resident, mark_at, most_with, room_marks, set_same, unaltered_marks}
use Rattle.vax_jobs.proofs.Rooms.{found, get_other, get_same}
use Rattle.vax_jobs.specs.Pool.{Keeps, keeps_of}
use Rattle.vax_jobs.specs.Pooling.{Pooling, came, given, is_there, with_room}
use Rattle.vax_jobs.specs.Running.{AreTouching, IsStuck, IsTouching, Mark, MayGo, Stands, System, Tracks, byte_of, bytes_in, flat_mark, kept_mark}
use Rattle.vax_jobs.specs.Shared.{Process, Sent, Shared, by_missing, bytes_sent, completed, finished, given_page, goes, goes_on, sent_as, sent_by, sent_in, tried, tried_by, victim, without_victim}
use Rattle.vax_jobs.specs.Turning.{DropsNoPins, HasGone, HasTurned, Leads, LeadsUnless, attempted, ending_at, has_missed}
use Rattle.vax_jobs.specs.declared.pool.Pair.{Pair}
use Rattle.vax_jobs.specs.declared.turn.Turn.TheVariants.{Go}
use Rattle.vax_jobs.specs.declared.turn.Turned.{Turned}
use Rattle.vax_jobs.specs.declared.turn.Turned.TheVariants.{Stepped, Parted, Absent, Ended, Moved, Nothing, Failed}

-- what a turn leaves of the counts of processes and of pages

pub gone_count : (job : ℕ) (o : Option Ending) (result : Turned) (p q : Pooling) → HasGone job o result p q → length q.processes ≡ length p.processes
gone_count job (Some e) result p q h = ap (λ (x : Pooling). length x.processes) h.1
gone_count job None (Stepped sent) p q h = ap (λ (x : Pooling). length x.processes) h ∙ altered_count job (keeping_tried (applied.Stepped sent)) p.processes
gone_count job None Parted p q h = ap (λ (x : Pooling). length x.processes) h ∙ altered_count job (keeping_tried applied.Parted) p.processes
gone_count job None (Ended e) p q h = ap (λ (x : Pooling). length x.processes) h ∙ altered_count job (keeping_tried (applied.Ended e)) p.processes
gone_count job None (Absent page) p q h =
    let a = attempted job (applied.Absent page) p in
    ap (λ (x : Pooling). length x.processes) h ∙ altered_count job (given page) (with_room a).processes ∙ count_with a
    ∙ altered_count job (keeping_tried (applied.Absent page)) p.processes
gone_count job None Failed p q (page, inl e) =
    ap (λ (x : Pooling). length x.processes) e ∙ altered_count job (keeping_tried (applied.Absent page)) p.processes
gone_count job None Failed p q (page, inr e) =
    ap (λ (x : Pooling). length x.processes) e ∙ count_with (attempted job (applied.Absent page) p)
    ∙ altered_count job (keeping_tried (applied.Absent page)) p.processes
gone_count job None Moved p q h = absurd h
gone_count job None Nothing p q h = absurd h

pub gone_most : (job : ℕ) (o : Option Ending) (result : Turned) (p q : Pooling) → HasGone job o result p q → q.most ≡ p.most
gone_most job (Some e) result p q h = ap (λ (x : Pooling). x.most) h.1
gone_most job None (Stepped sent) p q h = ap (λ (x : Pooling). x.most) h
gone_most job None Parted p q h = ap (λ (x : Pooling). x.most) h
gone_most job None (Ended e) p q h = ap (λ (x : Pooling). x.most) h
gone_most job None (Absent page) p q h = ap (λ (x : Pooling). x.most) h ∙ most_with (attempted job (applied.Absent page) p)
gone_most job None Failed p q (page, inl e) = ap (λ (x : Pooling). x.most) e
gone_most job None Failed p q (page, inr e) = ap (λ (x : Pooling). x.most) e ∙ most_with (attempted job (applied.Absent page) p)
gone_most job None Moved p q h = absurd h
gone_most job None Nothing p q h = absurd h

-- the bytes that are sent

drop_all : (xs : List ℕ) → drop (length xs) xs ≡ []
drop_all [] = refl
drop_all (x ∷ xs) = drop_all xs

pub drop_front : (xs ys : List ℕ) → drop (length xs) (xs ++ ys) ≡ ys
drop_front [] ys = refl
drop_front (x ∷ xs) ys = drop_front xs ys

behind_sent : (out : List ℕ) (sent : Option ℕ) → drop (length out) (with_byte_sent out sent) ≡ bytes_in sent
behind_sent out None = drop_all out
behind_sent out (Some byte) = drop_front out (byte ∷ [])

abbrev byte_in : Sent → ℕ
byte_in x = x.byte

bytes_as : (job : ℕ) (xs : List ℕ) → map byte_in (map (sent_as job) xs) ≡ xs
bytes_as job [] = refl
bytes_as job (x ∷ xs) = ap (λ ys. x ∷ ys) (bytes_as job xs)

bytes_behind : (xs ys : List Sent) → map byte_in (xs ++ ys) ≡ map byte_in xs ++ map byte_in ys
bytes_behind [] ys = refl
bytes_behind (x ∷ xs) ys = ap (λ zs. x.byte ∷ zs) (bytes_behind xs ys)

pub bytes_nil : (xs : List ℕ) → xs ≡ xs ++ []
bytes_nil [] = refl
bytes_nil (x ∷ xs) = ap (λ zs. x ∷ zs) (bytes_nil xs)

pub bytes_more : (job : ℕ) (x : Process) (s : Shared) (bytes : List ℕ) → sent_in (machine_at x.place).output (turn x.place) ≡ bytes → map byte_in (s.sent ++ sent_by job x) ≡ bytes_sent s ++ bytes
bytes_more job x s bytes e =
    bytes_behind s.sent (sent_by job x)
    ∙ ap (λ zs. map byte_in s.sent ++ zs) (bytes_as job (sent_in (machine_at x.place).output (turn x.place)) ∙ e)

-- the turns of the flat machines

pub tried_is : (most job : ℕ) (s : Shared) (x : Process) (o : Option ℕ) → slice_get s.processes job ≡ Some x → first_missing (is_there s.resident job) (touches_at x.place) ≡ o → tried most job s ≡ by_missing most job x s o
unfolding tried
tried_is most job s x o a b = ap (λ p. tried_by most job p s) a ∙ ap (by_missing most job x s) b

pub mark_eq : (a b : ℕ) (xs ys : List ℕ) (o q : Option Ending) → a ≡ b → xs ≡ ys → o ≡ q → record { steps = a; pinned = xs; ended = o } ≡ (let m : Mark = record { steps = b; pinned = ys; ended = q } in m)
mark_eq a b xs ys o q e f g = λ i. record { steps = e i; pinned = f i; ended = g i }

-- a turn of a process that goes on
pub record IsGoing (job : ℕ) (y z : System) (s : Shared) (m n : Machine) (x : Process) : Type 0 where
  pub was : y.pooling.processes ≡ map keeps_of y.machines
  pub now : z.pooling.processes ≡ map keeps_of z.machines
  pub tracks : Tracks y s
  pub machine : slice_get y.machines job ≡ Some m
  pub new : slice_get z.machines job ≡ Some n
  pub process : slice_get s.processes job ≡ Some x
  pub going : (machine_at x.place).ending ≡ None
  pub few : x.steps < 2 ^ 64 - 1
  pub others : (i : ℕ) → (i ≡ job → ⊥) → (a b : Machine) → slice_get y.machines i ≡ Some a → slice_get z.machines i ≡ Some b → Keeps i a y.file b z.file

-- where it leads, and what was sent
pub record LeadsTo (z : System) (s t : Shared) (bytes : List ℕ) : Type 0 where
  pub tracks : Tracks z t
  pub sent : bytes_sent t ≡ bytes_sent s ++ bytes

module _ (job : ℕ) (y z : System) (s : Shared) (m n : Machine) (x : Process) (g : IsGoing job y z s m n x) where
  kept_at : slice_get y.pooling.processes job ≡ Some (keeps_of m)
  kept_at = ap (λ ks. slice_get ks job) g.was ∙ slice_get-map keeps_of y.machines job ∙ ap (option_map keeps_of) g.machine

  pub mark_is : kept_mark (keeps_of m) ≡ flat_mark x
  mark_is = mark_at y.pooling.processes s.processes job (keeps_of m) x g.tracks.stands.marks kept_at g.process

  steps_is : (keeps_of m).steps ≡ x.steps
  steps_is = ap (λ (k : Mark). k.steps) mark_is

  steps_raised : raised (keeps_of m).steps ≡ x.steps + 1
  steps_raised = let few = g.few in let same = steps_is in omega (arith, few, same)

  pub pins_is : (residence (engine m)).pinned ≡ x.pinned
  pins_is = ap (λ (k : Mark). k.pinned) mark_is

  pub goes_is : (engine m).ended ≡ None
  goes_is = ap (λ (k : Mark). k.ended) mark_is ∙ g.going

  count_same : length y.machines ≡ length s.processes
  count_same = count_is y s.processes g.was g.tracks.stands

  set_means : (new : Process) → Means (engine n) (its job z.file) new.place → (i : ℕ) → (b : Machine) → (p : Process) → slice_get z.machines i ≡ Some b → slice_get (slice_set s.processes job new) i ≡ Some p → Means (engine b) (its i z.file) p.place
  set_means new means i b p there is = elim (cases_eq i job) [
    | inl same ↦
        let first : Some new ≡ Some p = sym (get_same s.processes job x new g.process) ∙ ap (slice_get (slice_set s.processes job new)) (sym same) ∙ is in
        let this : new ≡ p = cc in
        let second : Some n ≡ Some b = sym g.new ∙ ap (slice_get z.machines) (sym same) ∙ there in
        let that : n ≡ b = cc in
        subst (λ (k : ℕ). Means (engine b) (its k z.file) p.place) (sym same)
        (subst (λ (q : Process). Means (engine b) (its job z.file) q.place) this
        (subst (λ (q : Machine). Means (engine q) (its job z.file) new.place) that means))
    | inr other ↦
        let old : slice_get s.processes i ≡ Some p = sym (get_other s.processes job i new other) ∙ is in
        let within : i < length y.machines = let a = slice_get_within s.processes i p old in let c = count_same in omega (arith, a, c) in
        let a = found y.machines i within in
        g.others i other a.0 b a.1 there p.place (g.tracks.stands.means i a.0 p a.1 old)
  ]

  pub set_stands : (new : Process) → map kept_mark z.pooling.processes ≡ slice_set (map kept_mark y.pooling.processes) job (flat_mark new) → Means (engine n) (its job z.file) new.place → Stands z (slice_set s.processes job new)
  set_stands new marks means = record {
    marks = marks ∙ ap (λ ms. slice_set ms job (flat_mark new)) g.tracks.stands.marks ∙ sym (map-set flat_mark s.processes job new);
    means = set_means new means;
  }

  same_stands : map kept_mark z.pooling.processes ≡ map kept_mark y.pooling.processes → Means (engine n) (its job z.file) x.place → Stands z s.processes
  same_stands marks means = subst (Stands z) (set_same s.processes job x g.process) (set_stands x
      (marks ∙ g.tracks.stands.marks
      ∙ sym (set_same (map flat_mark s.processes) job (flat_mark x) (slice_get-map flat_mark s.processes job ∙ ap (option_map flat_mark) g.process))
      ∙ ap (λ ms. slice_set ms job (flat_mark x)) (sym g.tracks.stands.marks)) means)

  -- a part was completed
  part_done : (answer : Applied) (bytes : List ℕ) (t : Turn) → z.pooling ≡ attempted job answer y.pooling → turn x.place ≡ t → kept_mark (keeping_tried answer (keeps_of m)) ≡ flat_mark (finished t x) → first_missing (is_there y.pooling.resident job) (touches_at x.place) ≡ None → sent_in (machine_at x.place).output t ≡ bytes → Means (engine n) (its job z.file) (finished t x).place → LeadsTo z s (tried z.pooling.most job s) bytes
  part_done answer bytes t kept is mark none sent means =
      let here : flat_mark (completed x) ≡ flat_mark (finished t x) = ap (λ k. flat_mark (finished k x)) is in
      let marks : map kept_mark z.pooling.processes ≡ slice_set (map kept_mark y.pooling.processes) job (flat_mark (completed x)) =
      ap (λ (q : Pooling). map kept_mark q.processes) kept ∙ altered_marks y.pooling.processes job (keeping_tried answer) (keeps_of m) kept_at
      ∙ ap (slice_set (map kept_mark y.pooling.processes) job) (mark ∙ sym here) in
      let resident : z.pooling.resident ≡ s.resident = ap (λ (q : Pooling). q.resident) kept ∙ g.tracks.resident in
      let missing : first_missing (is_there s.resident job) (touches_at x.place) ≡ None =
      ap (λ (pairs : List Pair). first_missing (is_there pairs job) (touches_at x.place)) (sym g.tracks.resident) ∙ none in
      let leads : LeadsTo z s (by_missing z.pooling.most job x s None) bytes = record {
        tracks = record {
          stands = set_stands (completed x) marks (subst (λ (k : Turn). Means (engine n) (its job z.file) (finished k x).place) (sym is) means);
          resident = resident;
        };
        sent = bytes_more job x s bytes (ap (sent_in (machine_at x.place).output) is ∙ sent);
      } in
      subst (λ (k : Shared). LeadsTo z s k bytes) (sym (tried_is z.pooling.most job s x None g.process missing)) leads

  goes_stepped : (sent : Option ℕ) → z.pooling ≡ attempted job (applied.Stepped sent) y.pooling → Goes (applied.Stepped sent) (is_there y.pooling.resident job) (engine n) (its job z.file) x.place → LeadsTo z s (tried z.pooling.most job s) (bytes_in sent)
  goes_stepped sent kept goes =
      part_done (applied.Stepped sent) (bytes_in sent) (Completes goes.1.next) kept goes.1.turn
      (mark_eq _ _ [] [] _ _ steps_raised refl (goes_is ∙ sym goes.1.going)) goes.0
      (ap (drop (length (machine_at x.place).output)) goes.1.sends ∙ behind_sent (machine_at x.place).output sent) goes.1.means

  goes_ended : (e : Ending) → z.pooling ≡ attempted job (applied.Ended e) y.pooling → Goes (applied.Ended e) (is_there y.pooling.resident job) (engine n) (its job z.file) x.place → LeadsTo z s (tried z.pooling.most job s) []
  goes_ended e kept goes =
      part_done (applied.Ended e) [] (Completes (ended (gone_back x.place) e)) kept goes.1.turn
      (mark_eq _ _ [] [] _ _ steps_raised refl refl) goes.0 (drop_all (machine_at x.place).output) goes.1.means

  goes_parted : z.pooling ≡ attempted job applied.Parted y.pooling → Goes applied.Parted (is_there y.pooling.resident job) (engine n) (its job z.file) x.place → LeadsTo z s (tried z.pooling.most job s) []
  goes_parted kept goes =
      part_done applied.Parted [] (Leaves goes.1.next) kept goes.1.turn
      (mark_eq _ _ [] [] _ _ steps_is refl (goes_is ∙ sym (part_ending x.place goes.1.next (ap left_by goes.1.turn) ∙ g.going))) goes.0 refl goes.1.means

  -- a page was missed

  missed_marks : (page : ℕ) → eased (residence (engine m)) ≡ residence (engine m) → map kept_mark (attempted job (applied.Absent page) y.pooling).processes ≡ map kept_mark y.pooling.processes
  missed_marks page same =
      unaltered_marks y.pooling.processes job (keeping_tried (applied.Absent page)) (keeps_of m) kept_at
      (ap (λ (r : Residence). record { steps = (keeps_of m).steps; pinned = r.pinned; ended = (keeps_of m).ended }) same)

  missed_left : (page : ℕ) → eased (residence (engine m)) ≡ residence (engine m) → (with_room (attempted job (applied.Absent page) y.pooling)).resident ≡ without_victim (victim y.pooling.most s.processes s.resident) s.resident
  missed_left page same =
      left_resident (attempted job (applied.Absent page) y.pooling) s.processes s.resident (missed_marks page same ∙ g.tracks.stands.marks) g.tracks.resident

  goes_absent : (page : ℕ) → z.pooling ≡ came job page (with_room (attempted job (applied.Absent page) y.pooling)) → eased (residence (engine m)) ≡ residence (engine m) → Goes (applied.Absent page) (is_there y.pooling.resident job) (engine n) (its job z.file) x.place → LeadsTo z s (tried z.pooling.most job s) []
  goes_absent page kept same goes =
      let a = attempted job (applied.Absent page) y.pooling in
      let w = with_room a in
      let before : map kept_mark w.processes ≡ map kept_mark y.pooling.processes = room_marks a ∙ missed_marks page same in
      let within : job < length w.processes =
      let i = slice_get_within s.processes job x g.process in
      let c = sym (length-map w.processes kept_mark) ∙ ap length (before ∙ g.tracks.stands.marks) ∙ length-map s.processes flat_mark in
      omega (arith, i, c) in
      let k = found w.processes job within in
      let mark : kept_mark k.0 ≡ flat_mark x = mark_at w.processes s.processes job k.0 x (before ∙ g.tracks.stands.marks) k.1 g.process in
      let more : kept_mark (given page k.0) ≡ flat_mark (given_page page x) =
      given_mark page k.0 ∙ mark_eq _ _ _ _ _ _ (ap (λ (q : Mark). q.steps) mark) (ap (λ (q : Mark). q.pinned ++ page ∷ []) mark) (ap (λ (q : Mark). q.ended) mark) in
      let marks : map kept_mark z.pooling.processes ≡ slice_set (map kept_mark y.pooling.processes) job (flat_mark (given_page page x)) =
      ap (λ (q : Pooling). map kept_mark q.processes) kept ∙ altered_marks w.processes job (given page) k.0 k.1
      ∙ (ap (slice_set (map kept_mark w.processes) job) more ∙ ap (λ ms. slice_set ms job (flat_mark (given_page page x))) before) in
      let most : z.pooling.most ≡ y.pooling.most = ap (λ (q : Pooling). q.most) kept ∙ most_with a in
      let missing : first_missing (is_there s.resident job) (touches_at x.place) ≡ Some page =
      ap (λ (pairs : List Pair). first_missing (is_there pairs job) (touches_at x.place)) (sym g.tracks.resident) ∙ goes.0 in
      let leads : LeadsTo z s (by_missing y.pooling.most job x s (Some page)) [] = record {
        tracks = record {
          stands = set_stands (given_page page x) marks goes.1;
          resident = ap (λ (q : Pooling). q.resident) kept ∙ ap (λ (pairs : List Pair). pairs ++ record { job = job; page = page } ∷ []) (missed_left page same);
        };
        sent = bytes_nil (bytes_sent s);
      } in
      subst (λ (k : Shared). LeadsTo z s k []) (sym (tried_is z.pooling.most job s x (Some page) g.process missing ∙ ap (λ l. by_missing l job x s (Some page)) most)) leads

  pub goes_by : (result : Turned) → HasGone job None result y.pooling z.pooling → Leads result (is_there y.pooling.resident job) (engine n) (its job z.file) x.place → (has_missed result ≡ true → eased (residence (engine m)) ≡ residence (engine m)) → (result ≡ Failed → ⊥) → LeadsTo z s (tried z.pooling.most job s) (byte_of result)
  goes_by (Stepped sent) kept leads same ok = goes_stepped sent kept leads
  goes_by Parted kept leads same ok = goes_parted kept leads
  goes_by (Ended e) kept leads same ok = goes_ended e kept leads
  goes_by (Absent page) kept leads same ok = goes_absent page kept (same refl) leads
  goes_by Failed kept leads same ok = absurd (ok refl)
  goes_by Moved kept leads same ok = absurd kept
  goes_by Nothing kept leads same ok = absurd kept

  pub stuck_by : HasGone job None Failed y.pooling z.pooling → Means (engine n) (its job z.file) x.place → eased (residence (engine m)) ≡ residence (engine m) → IsStuck s z
  stuck_by (page, inl e) means same = record {
    stands = same_stands (ap (λ (q : Pooling). map kept_mark q.processes) e ∙ missed_marks page same) means;
    resident = inl (ap (λ (q : Pooling). q.resident) e ∙ g.tracks.resident);
  }
  stuck_by (page, inr e) means same =
      let a = attempted job (applied.Absent page) y.pooling in
      let most : z.pooling.most ≡ y.pooling.most = ap (λ (q : Pooling). q.most) e ∙ most_with a in
      record {
        stands = same_stands (ap (λ (q : Pooling). map kept_mark q.processes) e ∙ (room_marks a ∙ missed_marks page same)) means;
        resident = inr (ap (λ (q : Pooling). q.resident) e ∙ missed_left page same ∙ ap (λ l. without_victim (victim l s.processes s.resident) s.resident) (sym most));
      }

-- from the clauses of a turn

pub record GoingProcess (limit job : ℕ) (ps : List Process) : Type 0 where
  pub x : Process
  pub there : slice_get ps job ≡ Some x
  pub going : (machine_at x.place).ending ≡ None
  pub few : x.steps < limit

none_is : (o : Option Ending) → is_none o ≡ true → o ≡ None
none_is None h = refl
none_is (Some e) h = cc

is_less : (a b : ℕ) → nat_lt a b ≡ true → a < b
is_less a b h = grind (arith, nat_tests)

going_by : (limit : ℕ) (ps : List Process) (job : ℕ) (o : Option Process) → slice_get ps job ≡ o → option_map_or (goes_on limit) o false ≡ true → GoingProcess limit job ps
going_by limit ps job None e h = cc
going_by limit ps job (Some x) e h =
    let parts = and_parts (is_none (machine_at x.place).ending) (nat_lt x.steps limit) h in
    record { x = x; there = e; going = none_is (machine_at x.place).ending parts.0; few = is_less x.steps limit parts.1 }

pub going_process : (limit : ℕ) (ps : List Process) (job : ℕ) → goes limit ps job ≡ true → GoingProcess limit job ps
going_process limit ps job h = going_by limit ps job (slice_get ps job) refl h

module _ (job : ℕ) (y z : System) (result : Turned) (was : y.pooling.processes ≡ map keeps_of y.machines) (now : z.pooling.processes ≡ map keeps_of z.machines) (kept : HasGone job (ending_at y.pooling job) result y.pooling z.pooling) (turned : HasTurned (Go job) result y.pooling y.machines y.file z.machines z.file) (pins : DropsNoPins (Go job) result y.machines y.file) (s : Shared) (limit : ℕ) (may : MayGo limit job s) (tracks : Tracks y s) where
  process : GoingProcess limit job s.processes
  process = going_process limit s.processes job may.goes

  count_then : length z.machines ≡ length s.processes
  count_then =
      sym (length-map z.machines keeps_of) ∙ ap length (sym now) ∙ gone_count job (ending_at y.pooling job) result y.pooling z.pooling kept
      ∙ ap length was ∙ length-map y.machines keeps_of ∙ count_is y s.processes was tracks.stands

  machine : (m : Machine) × (slice_get y.machines job ≡ Some m)
  machine =
      let i = slice_get_within s.processes job process.x process.there in
      let c = count_is y s.processes was tracks.stands in
      found y.machines job (omega (arith, i, c))

  new_machine : (n : Machine) × (slice_get z.machines job ≡ Some n)
  new_machine =
      let i = slice_get_within s.processes job process.x process.there in
      let c = count_then in
      found z.machines job (omega (arith, i, c))

  is_going : IsGoing job y z s machine.0 new_machine.0 process.x
  is_going = record {
    was = was;
    now = now;
    tracks = tracks;
    machine = machine.1;
    new = new_machine.1;
    process = process.there;
    going = process.going;
    few = let a = process.few in let b = may.few in omega (arith, a, b);
    others = λ i other a b. turned.others i other a b;
  }

  ended_is : (engine machine.0).ended ≡ None
  ended_is = goes_is job y z s machine.0 new_machine.0 process.x is_going

  kept_on : HasGone job None result y.pooling z.pooling
  kept_on =
      let here : slice_get y.pooling.processes job ≡ Some (keeps_of machine.0) =
      ap (λ ks. slice_get ks job) was ∙ slice_get-map keeps_of y.machines job ∙ ap (option_map keeps_of) machine.1 in
      let none : ending_at y.pooling job ≡ None = ap (option_and_then (λ (k : Keeping). k.ended)) here ∙ ended_is in
      subst (λ (o : Option Ending). HasGone job o result y.pooling z.pooling) none kept

  means_was : Means (engine machine.0) (its job y.file) process.x.place
  means_was = tracks.stands.means job machine.0 process.x machine.1 process.there

  leads_on : Leads result (is_there y.pooling.resident job) (engine new_machine.0) (its job z.file) process.x.place
  leads_on =
      subst (λ (o : Option Ending). LeadsUnless o result (is_there y.pooling.resident job) (engine new_machine.0) (its job z.file) process.x.place) ended_is
      (turned.own machine.0 new_machine.0 machine.1 new_machine.1 process.x.place means_was)

  stays : has_missed result ≡ true → eased (residence (engine machine.0)) ≡ residence (engine machine.0)
  stays =
      let same = pins_is job y z s machine.0 new_machine.0 process.x is_going in
      pins machine.0 process.x.place machine.1 means_was
      (record { touched = λ page h. may.touching.each job process.x process.there page (subst (λ (xs : List ℕ). is_listed page xs ≡ true) same h) })

  pub turn_leads : (result ≡ Failed → ⊥) → LeadsTo z s (tried z.pooling.most job s) (byte_of result)
  turn_leads ok = goes_by job y z s machine.0 new_machine.0 process.x is_going result kept_on leads_on stays ok

pub turn_sticks : (job : ℕ) (y z : System) (was : y.pooling.processes ≡ map keeps_of y.machines) (now : z.pooling.processes ≡ map keeps_of z.machines) (kept : HasGone job (ending_at y.pooling job) Failed y.pooling z.pooling) (turned : HasTurned (Go job) Failed y.pooling y.machines y.file z.machines z.file) (pins : DropsNoPins (Go job) Failed y.machines y.file) (s : Shared) (limit : ℕ) (may : MayGo limit job s) (tracks : Tracks y s) → IsStuck s z
turn_sticks job y z was now kept turned pins s limit may tracks =
    stuck_by job y z s _ _ _ (is_going job y z Failed was now kept turned pins s limit may tracks)
    (kept_on job y z Failed was now kept turned pins s limit may tracks) (leads_on job y z Failed was now kept turned pins s limit may tracks)
    (stays job y z Failed was now kept turned pins s limit may tracks refl)

-- the attempt that comes touches each page that is pinned

none_pinned : (t : Turn) (x : Process) → IsTouching (finished t x)
unfolding is_listed
none_pinned t x page h = cc

more_pinned : (resident : ℕ → Bool) (page : ℕ) (x : Process) → first_missing resident (touches_at x.place) ≡ Some page → IsTouching x → IsTouching (given_page page x)
more_pinned resident page x e h other listed = elim (pinned_or page other x.pinned listed) [
  | inl same ↦ ap (λ (k : ℕ). is_touched k (touches_at x.place)) same ∙ (missed resident (touches_at x.place) page e).0
  | inr there ↦ h other there
]

touching_set : (ps : List Process) (job : ℕ) (x new : Process) → slice_get ps job ≡ Some x → IsTouching new → AreTouching ps → AreTouching (slice_set ps job new)
touching_set ps job x new there touches h = record {
  each = λ i p is. elim (cases_eq i job) [
    | inl same ↦
        let first : Some new ≡ Some p = sym (get_same ps job x new there) ∙ ap (slice_get (slice_set ps job new)) (sym same) ∙ is in
        let this : new ≡ p = cc in
        subst IsTouching this touches
    | inr other ↦ h.each i p (sym (get_other ps job i new other) ∙ is)
  ];
}

touching_by : (most job : ℕ) (x : Process) (s : Shared) (o : Option ℕ) → slice_get s.processes job ≡ Some x → first_missing (is_there s.resident job) (touches_at x.place) ≡ o → AreTouching s.processes → AreTouching (by_missing most job x s o).processes
touching_by most job x s None there e h = touching_set s.processes job x (completed x) there (none_pinned (turn x.place) x) h
touching_by most job x s (Some page) there e h =
    touching_set s.processes job x (given_page page x) there (more_pinned (is_there s.resident job) page x e (h.each job x there)) h

touching_if : (most job : ℕ) (s : Shared) (o : Option Process) → slice_get s.processes job ≡ o → AreTouching s.processes → AreTouching (tried_by most job o s).processes
touching_if most job s None there h = h
touching_if most job s (Some x) there h = touching_by most job x s (first_missing (is_there s.resident job) (touches_at x.place)) there refl h

pub touching_tried : (most job : ℕ) (s : Shared) → AreTouching s.processes → AreTouching (tried most job s).processes
unfolding tried
touching_tried most job s h = touching_if most job s (slice_get s.processes job) refl h

-- What each of several processes sent is its own flat machine's output.
use Rattle.std.proofs.Common.{◌≡◌, ◌<◌, ℕ, zero, suc, ◌+◌, ◌==◌, List, [], ◌∷◌, ◌++◌, Option, Some, None, length, map, drop, refl, sym, ap, ◌∙◌, subst, arith, inl, inr, append_assoc, append-nil}
use Rattle.std.specs.Prelude.{slice_get, slice_set}
use Rattle.std.specs.List.{All, filter}
use Rattle.std.proofs.lemmas.Bool.{cases_eq, eq-eqb, ne_eqb}
use Rattle.std.proofs.lemmas.List.{length-map, length-set, map-append}
use Rattle.std.proofs.lemmas.List.Elements.{All-append, All-map, filter-append}
use Rattle.std.proofs.lemmas.Option.{slice_get_within}
use Rattle.std.proofs.Math.Seq.{drop-append_seam}
use Rattle.vax_flat.specs.declared.Flow.TheVariants as flow
use Rattle.vax_flat.specs.Accesses.{Leaf, Went, Found}
use Rattle.vax_flat.specs.Outcome.{Outcome, Ends, Raised, first_missing}
use Rattle.vax_flat.specs.Parts.{Partway, Place, At, Within, Turn, Completes, Leaves, GoesBy, after_part, gone_back, left_by, machine_at, outcome_at, partway, touches_at, turn, turn_from, units_after, units_done}
use Rattle.vax_flat.specs.Step.{Flat, run}
use Rattle.vax_flat.proofs.Runs.{output_extends}
use Rattle.vax_machine.specs.Paged.{place_after, steps_after}
use Rattle.vax_jobs.proofs.Alone.{follow_all}
use Rattle.vax_jobs.proofs.Rooms.{get_other, get_same}
use Rattle.vax_jobs.specs.Alone.{FollowTheirRuns, after_turns}
use Rattle.vax_jobs.specs.Pooling.{is_there}
use Rattle.vax_jobs.specs.Shared.{Process, Sent, Setting, Shared, by_missing, completed, given_page, goes, job_at, moved_on, next_position, sent_as, sent_by, sent_in, shared, starting, tried, tried_by, turned_by}
use Rattle.vax_jobs.specs.declared.position.Position.{Position}
use Rattle.vax_jobs_laws.specs.Outputs.{HaveSent, bytes_of}

-- a part leaves the output as it was

leaves_output : (m : Flat) (units : ℕ) (o : Outcome Leaf) (q : Partway) → turn_from m units o ≡ Leaves q → q.now.output ≡ m.output
leaves_output m units (Ends (Went flow.Done s) memory) q e = cc
leaves_output m units (Ends (Went flow.Clocked s) memory) q e = cc
leaves_output m units (Ends (Went (flow.Trap kind) s) memory) q e = cc
leaves_output m units (Ends (Went (flow.More opcode more) s) memory) q e = let k : record { opcode = opcode; start = m.core; units = units_after units more; now = record m { core = s.core; memory = memory; taken = s.taken } } ≡ q = cc in ap (λ (z : Partway). z.now.output) (sym k)
leaves_output m units (Ends (Went (flow.Ended x) s) memory) q e = cc
leaves_output m units (Ends (Found operand s) memory) q e = cc
leaves_output m units (Raised x) q e = cc

left_is : (t : Turn) (q : Partway) → left_by t ≡ Some q → t ≡ Leaves q
left_is (Completes m) q e = cc
left_is (Leaves p) q e = let k : p ≡ q = cc in ap (λ (z : Partway). Leaves z) k

part_output : (place : Place) (q : Partway) → left_by (turn place) ≡ Some q → q.now.output ≡ (machine_at place).output
part_output place q e = leaves_output (gone_back place) (units_done place) (outcome_at place) q (left_is (turn place) q e)

after_output : (o : Option Partway) (q : Partway) (output : List ℕ) → ((p : Partway) → o ≡ Some p → p.now.output ≡ output) → after_part o ≡ Some q → q.now.output ≡ output
after_output None q output before e = cc
after_output (Some p) q output before e = part_output (Within p) q e ∙ before p refl

partway_output : (count : ℕ) (m : Flat) (q : Partway) → partway count m ≡ Some q → q.now.output ≡ m.output
unfolding partway
partway_output zero m q e = part_output (At m) q e
partway_output (suc count) m q e = after_output (partway count m) q m.output (λ p is. partway_output count m p is) e

goes_output : (m : Flat) (place : Place) → GoesBy m place → (machine_at place).output ≡ m.output
goes_output m (At n) e = ap (λ (z : Flat). z.output) e
goes_output m (Within q) (count, e) = partway_output count m q e

-- the bytes of one process among those of several

bytes_more : (job : ℕ) (xs ys : List Sent) → bytes_of job (xs ++ ys) ≡ bytes_of job xs ++ bytes_of job ys
bytes_more job xs ys =
    ap (λ (l : List Sent). map (λ (x : Sent). x.byte) l) (filter-append (λ (x : Sent). x.job == job) xs ys)
    ∙ map-append (λ (x : Sent). x.byte) (filter (λ (x : Sent). x.job == job) xs) (filter (λ (x : Sent). x.job == job) ys)

own_bytes : (job : ℕ) (bytes : List ℕ) → bytes_of job (map (sent_as job) bytes) ≡ bytes
own_bytes job [] = refl
own_bytes job (b ∷ bs) = rw (eq-eqb job job refl) (ap (λ l. b ∷ l) (own_bytes job bs))

others_bytes : (i job : ℕ) (bytes : List ℕ) → (i ≡ job → ⊥) → bytes_of i (map (sent_as job) bytes) ≡ []
others_bytes i job [] other = refl
others_bytes i job (b ∷ bs) other = rw (ne_eqb job i (λ e. other (sym e))) (others_bytes i job bs other)

all_named : (job count : ℕ) (bytes : List ℕ) → job < count → (xs : List Sent) → All (λ (x : Sent). x.job < count) xs → All (λ (x : Sent). x.job < count) (xs ++ map (sent_as job) bytes)
all_named job count bytes low xs h =
    All-append (λ (x : Sent). x.job < count) xs (map (sent_as job) bytes) h (All-map (λ (x : Sent). x.job < count) (sent_as job) bytes (λ k d l. low))

-- a part of a step sends what it appends to the output

module _ (start : Flat) (p : Process) where
  abbrev ran : ℕ → Flat
  ran n = run n start

  part_sends : (t : Turn) → GoesBy (ran p.steps) p.place → GoesBy (ran (steps_after t p.steps)) (place_after t) → (machine_at (place_after t)).output ≡ (machine_at p.place).output ++ sent_in (machine_at p.place).output t
  part_sends (Completes next) before after =
      let more = output_extends p.steps 1 start in
      let here : (machine_at p.place).output ≡ (ran p.steps).output = goes_output (ran p.steps) p.place before in
      let number : 1 + p.steps ≡ p.steps + 1 = omega arith in
      let there : next.output ≡ (machine_at p.place).output ++ more.more =
      ap (λ (z : Flat). z.output) after ∙ ap (λ (n : ℕ). (ran n).output) (sym number) ∙ more.is ∙ ap (λ l. l ++ more.more) (sym here) in
      let sent : drop (length (machine_at p.place).output) next.output ≡ more.more =
      ap (drop (length (machine_at p.place).output)) there ∙ drop-append_seam (machine_at p.place).output more.more in
      there ∙ ap (λ l. (machine_at p.place).output ++ l) (sym sent)
  part_sends (Leaves q) before after =
      goes_output (ran p.steps) (Within q) after ∙ sym (goes_output (ran p.steps) p.place before) ∙ sym (append-nil (machine_at p.place).output)

-- a turn

module _ (starts : List Flat) where
  sent_part : (job : ℕ) (p : Process) (s : Shared) → slice_get s.processes job ≡ Some p → (most : ℕ) → FollowTheirRuns starts s.processes → FollowTheirRuns starts (by_missing most job p s None).processes → HaveSent starts s → HaveSent starts (by_missing most job p s None)
  sent_part job p s there most before after h = record {
    count = length-set s.processes job (completed p) ∙ h.count;
    each = λ i start q at is. elim (cases_eq i job) [
      | inl same ↦
          let this : completed p ≡ q =
          (let both : Some (completed p) ≡ Some q = sym (get_same s.processes job p (completed p) there) ∙ ap (slice_get (slice_set s.processes job (completed p))) (sym same) ∙ is in cc) in
          let here : slice_get s.processes i ≡ Some p = ap (slice_get s.processes) same ∙ there in
          let goes = subst (λ (z : Process). GoesBy (run z.steps start) z.place) (sym this) (after.each i start q at is) in
          let sends = part_sends start p (turn p.place) (before.each i start p at here) goes in
          let bytes = sent_in (machine_at p.place).output (turn p.place) in
          let mine : bytes_of i (s.sent ++ sent_by job p) ≡ bytes_of i s.sent ++ bytes =
          bytes_more i s.sent (sent_by job p) ∙ ap (λ l. bytes_of i s.sent ++ l) (ap (λ (n : ℕ). bytes_of n (sent_by job p)) same ∙ own_bytes job bytes) in
          ap (λ (z : Process). (machine_at z.place).output) (sym this) ∙ sends ∙ ap (λ l. l ++ bytes) (h.each i start p at here)
          ∙ append_assoc start.output (bytes_of i s.sent) bytes ∙ ap (λ l. start.output ++ l) (sym mine)
      | inr other ↦
          let old : slice_get s.processes i ≡ Some q = sym (get_other s.processes job i (completed p) other) ∙ is in
          let none : bytes_of i (s.sent ++ sent_by job p) ≡ bytes_of i s.sent =
          bytes_more i s.sent (sent_by job p) ∙ ap (λ l. bytes_of i s.sent ++ l) (others_bytes i job (sent_in (machine_at p.place).output (turn p.place)) other) ∙ append-nil (bytes_of i s.sent) in
          h.each i start q at old ∙ ap (λ l. start.output ++ l) (sym none)
    ];
    only = all_named job (length starts) (sent_in (machine_at p.place).output (turn p.place)) (subst (λ n. job < n) h.count (slice_get_within s.processes job p there)) s.sent h.only;
  }

  sent_page : (job : ℕ) (p : Process) (s : Shared) → slice_get s.processes job ≡ Some p → (most page : ℕ) → HaveSent starts s → HaveSent starts (by_missing most job p s (Some page))
  sent_page job p s there most page h = record {
    count = length-set s.processes job (given_page page p) ∙ h.count;
    each = λ i start q at is. elim (cases_eq i job) [
      | inl same ↦
          let this : given_page page p ≡ q =
          (let both : Some (given_page page p) ≡ Some q = sym (get_same s.processes job p (given_page page p) there) ∙ ap (slice_get (slice_set s.processes job (given_page page p))) (sym same) ∙ is in cc) in
          ap (λ (z : Process). (machine_at z.place).output) (sym this) ∙ h.each i start p at (ap (slice_get s.processes) same ∙ there)
      | inr other ↦ h.each i start q at (sym (get_other s.processes job i (given_page page p) other) ∙ is)
    ];
    only = h.only;
  }

  sent_missing : (job : ℕ) (p : Process) (s : Shared) (o : Option ℕ) → slice_get s.processes job ≡ Some p → (most : ℕ) → FollowTheirRuns starts s.processes → FollowTheirRuns starts (by_missing most job p s o).processes → HaveSent starts s → HaveSent starts (by_missing most job p s o)
  sent_missing job p s None there most before after h = sent_part job p s there most before after h
  sent_missing job p s (Some page) there most before after h = sent_page job p s there most page h

  sent_by_turn : (most job : ℕ) (s : Shared) (o : Option Process) → slice_get s.processes job ≡ o → FollowTheirRuns starts s.processes → FollowTheirRuns starts (tried_by most job o s).processes → HaveSent starts s → HaveSent starts (tried_by most job o s)
  sent_by_turn most job s None is before after h = h
  sent_by_turn most job s (Some p) is before after h = sent_missing job p s (first_missing (is_there s.resident job) (touches_at p.place)) is most before after h

  sent_tried : (most job : ℕ) (s : Shared) → FollowTheirRuns starts s.processes → FollowTheirRuns starts (tried most job s).processes → HaveSent starts s → HaveSent starts (tried most job s)
  unfolding tried
  sent_tried most job s before after h = sent_by_turn most job s (slice_get s.processes job) refl before after h

  sent_turn : (x : Setting) (s : Shared) (o : Option Position) → FollowTheirRuns starts s.processes → FollowTheirRuns starts (turned_by x o s).processes → HaveSent starts s → HaveSent starts (turned_by x o s)
  sent_turn x s None before after h = h
  sent_turn x s (Some at) before after h =
      sent_tried x.most (job_at x.order at.line) (record s { at = moved_on at }) before after (record { count = h.count; each = h.each; only = h.only })

-- at the start nothing was sent

starting_output : (starts : List Flat) (job : ℕ) (start : Flat) (p : Process) → slice_get starts job ≡ Some start → slice_get (map starting starts) job ≡ Some p → (machine_at p.place).output ≡ start.output ++ []
starting_output [] job start p a b = cc
starting_output (m ∷ ms) zero start p a b =
    let one : m ≡ start = cc in
    let two : starting m ≡ p = cc in
    ap (λ (z : Process). (machine_at z.place).output) (sym two) ∙ ap (λ (z : Flat). z.output) one ∙ sym (append-nil start.output)
starting_output (m ∷ ms) (suc job) start p a b = starting_output ms job start p a b

pub sent_all : (x : Setting) (starts : List Flat) (count : ℕ) → HaveSent starts (after_turns x starts count)
unfolding shared
sent_all x starts zero = record {
  count = length-map starts starting;
  each = λ job start p a b. starting_output starts job start p a b;
  only = λ k d l. absurd (omega (arith, l));
}
sent_all x starts (suc count) =
    let s = after_turns x starts count in
    sent_turn starts x s (next_position (goes x.steps s.processes) x.order s.at) (follow_all x starts count) (follow_all x starts (suc count)) (sent_all x starts count)

-- Several attempts of a machine, and the service of the page that the last one missed, are turns of the paged run.
use Rattle.std.proofs.Common.{ℕ, zero, suc, ◌≡◌, ◌+◌, ◌-◌, ◌^◌, ◌<◌, ◌≤◌, Bool, true, false, ◌==◌, List, [], append-nil, length, refl, ap, sym, ◌∙◌, subst, arith, inl, inr, Option, Some, None}
use Rattle.std.specs.Prelude.{if◌then◌else◌, is_some}
use Rattle.std.proofs.lemmas.Bool.Decides.{nat_tests}
use Rattle.vax_space.specs.declared.Area.{Area}
use Rattle.vax_space.specs.Areas.{area_of}
use Rattle.vax_space.specs.Faults.{IsSpace}
use Rattle.vax_outside.specs.Blocks.{BlockFile}
use Rattle.vax_outside.specs.Channels.{Channels, append, only}
use Rattle.vax_outside.specs.declared.traits.Chan.TheVariants.{Record}
use Rattle.vax_outside.specs.Faults.{raised}
use Rattle.vax_flat.specs.declared.Ending.{Ending}
use Rattle.vax_flat.specs.declared.Flow.TheVariants as flow
use Rattle.vax_flat.specs.Accesses.{Leaf, Went, Found}
use Rattle.vax_flat.specs.Outcome.{Outcome, Ends, Raised, first_missing, marked_by}
use Rattle.vax_flat.specs.Parts.{Partway, Place, Leaves, gone_back, machine_at, outcome_at, touches_at, turn, turn_from, units_after, units_done}
use Rattle.vax_flat.specs.Step.{Flat, ended, with_byte_sent}
use Rattle.vax_pager.specs.Calls.{IsLeft, IsPaging, reads_page, source, takes_modified, victim_of}
use Rattle.vax_pager.specs.Listing.{is_listed}
use Rattle.vax_pager.specs.Meaning.{pages}
use Rattle.vax_pager.specs.Paging.{Paging, StandsWith}
use Rattle.vax_machine.proofs.Moving.{FileGoes, came_blocks, came_cleans, frame_is, left_goes, moved_again, moved_by, moved_same, serve_goes, victim_write, victim_writes}
use Rattle.vax_machine.proofs.Outputs.{lines_one, output_by, output_same, output_sent}
use Rattle.vax_machine.proofs.Services.{few_pins, is_service, source_reads, taken_modified, victim_listed}
use Rattle.vax_machine.proofs.Touching.{fewer_pins, page_small}
use Rattle.vax_machine.proofs.Tracking.{IsAdvanced, IsSeveral, attempted_miss, attempted_part, attempted_whole, are_whole, dropped, dropped_order, resident_same, several_are, spot_of, times_advanced}
use Rattle.vax_machine.specs.Batch.{Advances, GoesFar, HasTriedSeveral, Spot, several}
use Rattle.vax_machine.specs.Blocks.{Moved}
use Rattle.vax_machine.specs.Calling.{WritesVictim, room_made}
use Rattle.vax_machine.specs.Machine.{IsSound, IsTry, Keeping, KeepsPlace, Means, Serves, ServesAs, ServesFrom, keeping, modified_of, residence, tried}
use Rattle.vax_machine.specs.Paged.{Eviction, Paged, attempted, attempted_by, blocked_of, cleaned_of, evictions_of, is_read, marked, one_if, page_bytes}
use Rattle.vax_machine.specs.Residence.{Residence, eased, is_resident, served, unpinned, victim}
use Rattle.vax_machine.specs.Run.{Tracks}
use Rattle.vax_machine.specs.Touched.{PinsTouched}
use Rattle.vax_machine.specs.Turn.{AreWhole, HasGone, IsServed, IsUnserved, attempted_times}
use Rattle.vax_machine.specs.Writing.{listed_by, output_of, sent_by}
use Rattle.vax_machine.specs.declared.engine.Engine.{Engine}
use Rattle.vax_machine.specs.declared.event.Applied.{Applied}
use Rattle.vax_machine.specs.declared.event.Applied.TheVariants.{Absent, Ended, Evicted, Failed, Flushed, Nothing, Parted, Served, Stepped}

pub uneased : (r : Residence) → length r.pinned < 40 → eased r ≡ r
unfolding eased
uneased r h = let n : (length r.pinned == 40) ≡ false = grind (arith, nat_tests, h) in rw n refl

tried_areas : (result : Applied) (k : Keeping) → (tried result k).areas ≡ k.areas
tried_areas (Stepped sent) k = refl
tried_areas Parted k = refl
tried_areas (Absent page) k = refl
tried_areas (Ended x) k = refl
tried_areas (Served v) k = refl
tried_areas Evicted k = refl
tried_areas Flushed k = refl
tried_areas Nothing k = refl
tried_areas Failed k = refl

-- what is missed where the machine is, is missed where the paged run is
module _ (old : Engine) (p : Paged) (file : Option BlockFile) (t : Tracks old file p) (going : old.ended ≡ None) where
  running : (machine_at p.place).ending ≡ None
  running = sym (ap (λ (z : Flat). z.ending) t.means.processor.machine) ∙ going

  abbrev from : Spot
  from = record { place = p.place; modified = modified_of old }

  same_advances : (count : ℕ) (here : Spot) → Advances (is_resident (residence old)) count from here → Advances (is_resident p.residence) count (spot_of p) here
  same_advances count here a =
      subst (λ (z : ℕ → Bool). Advances (is_resident p.residence) count (record { place = p.place; modified = z }) here) t.modified
      (subst (λ (z : Residence). Advances (is_resident z) count from here) t.residence a)

  module _ (most : ℕ) (result : Applied) (new : Engine) (low : old.steps + most < 2 ^ 64) (short : old.turns + most < 2 ^ 64) (h : HasTriedSeveral most old result new) where
    abbrev far : GoesFar h.count old result new file p.place
    far = h.goes file p.place t.means

    abbrev here : Spot
    here = far.here

    there : IsAdvanced p h.count here (attempted_times h.count p)
    there = times_advanced p h.count here running (same_advances h.count here far.advances)

    quiet_output : (listed : Bool) → output_of listed (attempted_times h.count p) ≡ output_of listed p
    quiet_output listed = output_same listed p (attempted_times h.count p) (ap (λ (z : Place). (machine_at z).output) there.place ∙ far.silent) there.evictions

    whole : AreWhole p h.count
    whole = are_whole p h.count here running (same_advances h.count here far.advances)

    abbrev before : Keeping
    before = several h.count (keeping old)

    kept : IsSeveral h.count (keeping old) before
    kept = several_are h.count (keeping old) (let f = h.few in omega (arith, f, low)) (let f = h.few in omega (arith, f, short))

    same_order : (residence old).order ≡ (attempted_times h.count p).residence.order
    same_order = ap (λ (z : Residence). z.order) t.residence ∙ sym (ap (λ (z : Residence). z.order) there.residence ∙ dropped_order h.count p.residence)

    missing_there : (m : Option ℕ) → first_missing (is_resident (residence old)) (touches_at here.place) ≡ m → first_missing (is_resident (attempted_times h.count p).residence) (touches_at (attempted_times h.count p).place) ≡ m
    missing_there m e =
        rw there.place (resident_same (residence old) (attempted_times h.count p).residence (touches_at here.place) m same_order e)

    marks_there : modified_of new ≡ (marked (attempted_times h.count p)).modified
    marks_there =
        let q = attempted_times h.count p in
        far.marks
        ∙ (ap (λ (z : List ℕ). marked_by (λ page. is_listed page z) here.modified (touches_at here.place)) same_order
        ∙ (ap (λ (z : ℕ → Bool). marked_by (is_resident q.residence) z (touches_at here.place)) (sym there.modified)
        ∙ ap (λ (z : Place). marked_by (is_resident q.residence) q.modified (touches_at z)) (sym there.place)))

    areas_there : (pages new.pager).areas ≡ (pages old.pager).areas
    areas_there = ap (λ (k : Keeping). k.areas) h.keeps ∙ (tried_areas result (several h.count (keeping old)) ∙ kept.areas)

    -- no call of the page file was made
    unmoved : Moved (pages old.pager).areas p (attempted_times h.count p) file file
    unmoved = moved_same (pages old.pager).areas p (attempted_times h.count p) file there.evictions there.reads

    blocked_there : (pages new.pager).blocked ≡ (attempted_times h.count p).blocked
    blocked_there = h.blocked ∙ (t.blocked ∙ sym there.blocked)

    residence_before : before.residence ≡ (attempted_times h.count p).residence
    residence_before = kept.residence ∙ (ap (dropped h.count) t.residence ∙ sym there.residence)

    steps_before : before.steps ≡ (attempted_times h.count p).steps
    steps_before = let a = kept.steps in let b = t.steps in let c = there.steps in omega (arith, a, b, c)

    turns_before : before.turns ≡ (attempted_times h.count p).turns
    turns_before = let a = kept.turns in let b = t.turns in let c = there.turns in omega (arith, a, b, c)

    raised_steps : raised before.steps ≡ (attempted_times h.count p).steps + 1
    raised_steps = let a = kept.steps in let b = steps_before in let f = h.few in omega (arith, a, b, f, low)

    raised_turns : raised before.turns ≡ (attempted_times h.count p).turns + 1
    raised_turns = let a = kept.turns in let b = turns_before in let f = h.few in omega (arith, a, b, f, short)

-- a part that was completed calls no page file either
completed_moves : (areas : List Area) (p q r : Paged) (file : Option BlockFile) → r.evictions ≡ q.evictions → r.reads ≡ q.reads → Moved areas p q file file → Moved areas p r file file
completed_moves areas p q r file e reads m = moved_again areas p q r file file file m (moved_same areas q r file e reads)

-- a part leaves the output as it was

leaves_output : (m : Flat) (units : ℕ) (o : Outcome Leaf) (q : Partway) → turn_from m units o ≡ Leaves q → q.now.output ≡ m.output
leaves_output m units (Ends (Went flow.Done s) memory) q e = cc
leaves_output m units (Ends (Went flow.Clocked s) memory) q e = cc
leaves_output m units (Ends (Went (flow.Trap kind) s) memory) q e = cc
leaves_output m units (Ends (Went (flow.More opcode more) s) memory) q e = let k : record { opcode = opcode; start = m.core; units = units_after units more; now = record m { core = s.core; memory = memory; taken = s.taken } } ≡ q = cc in ap (λ (z : Partway). z.now.output) (sym k)
leaves_output m units (Ends (Went (flow.Ended x) s) memory) q e = cc
leaves_output m units (Ends (Found operand s) memory) q e = cc
leaves_output m units (Raised x) q e = cc

module _ (old : Engine) (p : Paged) (file : Option BlockFile) (t : Tracks old file p) (going : old.ended ≡ None) (most : ℕ) (new : Engine) (low : old.steps + most < 2 ^ 64) (short : old.turns + most < 2 ^ 64) where
  pub stepped : (sent : Option ℕ) → HasTriedSeveral most old (Stepped sent) new → IsServed most (pages old.pager).areas p (λ listed. sent_by sent) file new file
  unfolding attempted_times
  stepped sent h =
      let q = attempted_times h.count p in
      let at = there old p file t going most (Stepped sent) new low short h in
      let g = (h.goes file p.place t.means).goes in
      let e = attempted_whole q g.1.next at.going (missing_there old p file t going most (Stepped sent) new low short h None g.0) (ap turn at.place ∙ g.1.turn) in
      record {
        count = h.count;
        few = h.few;
        whole = whole old p file t going most (Stepped sent) new low short h;
        tracks = rw e (record {
          steps = ap (λ (k : Keeping). k.steps) h.keeps ∙ raised_steps old p file t going most (Stepped sent) new low short h;
          turns = ap (λ (k : Keeping). k.turns) h.keeps ∙ raised_turns old p file t going most (Stepped sent) new low short h;
          residence = ap (λ (k : Keeping). k.residence) h.keeps ∙ ap unpinned (residence_before old p file t going most (Stepped sent) new low short h);
          modified = marks_there old p file t going most (Stepped sent) new low short h;
          blocked = blocked_there old p file t going most (Stepped sent) new low short h;
          means = g.1.means;
        });
        writes = λ listed. output_sent listed p (attempted q) sent
            (ap (λ (z : Paged). (machine_at z.place).output) e ∙ (g.1.sends ∙ ap (λ o. with_byte_sent o sent) ((h.goes file p.place t.means).silent)))
            (ap (λ (z : Paged). z.evictions) e ∙ at.evictions);
        alike = areas_there old p file t going most (Stepped sent) new low short h;
        moved = completed_moves (pages old.pager).areas p q (attempted q) file (ap (λ (z : Paged). z.evictions) e) (ap (λ (z : Paged). z.reads) e) (unmoved old p file t going most (Stepped sent) new low short h);
      }

  parted : HasTriedSeveral most old Parted new → IsServed most (pages old.pager).areas p (λ listed. sent_by None) file new file
  unfolding attempted_times
  parted h =
      let q = attempted_times h.count p in
      let at = there old p file t going most Parted new low short h in
      let g = (h.goes file p.place t.means).goes in
      let here = (h.goes file p.place t.means).here.place in
      let e = attempted_part q g.1.next at.going (missing_there old p file t going most Parted new low short h None g.0) (ap turn at.place ∙ g.1.turn) in
      record {
        count = h.count;
        few = h.few;
        whole = whole old p file t going most Parted new low short h;
        tracks = rw e (record {
          steps = ap (λ (k : Keeping). k.steps) h.keeps ∙ steps_before old p file t going most Parted new low short h;
          turns = ap (λ (k : Keeping). k.turns) h.keeps ∙ raised_turns old p file t going most Parted new low short h;
          residence = ap (λ (k : Keeping). k.residence) h.keeps ∙ ap unpinned (residence_before old p file t going most Parted new low short h);
          modified = marks_there old p file t going most Parted new low short h;
          blocked = blocked_there old p file t going most Parted new low short h;
          means = g.1.means;
        });
        writes = λ listed. output_sent listed p (attempted q) None
            (ap (λ (z : Paged). (machine_at z.place).output) e
            ∙ (leaves_output (gone_back here) (units_done here) (outcome_at here) g.1.next g.1.turn ∙ (h.goes file p.place t.means).silent))
            (ap (λ (z : Paged). z.evictions) e ∙ at.evictions);
        alike = areas_there old p file t going most Parted new low short h;
        moved = completed_moves (pages old.pager).areas p q (attempted q) file (ap (λ (z : Paged). z.evictions) e) (ap (λ (z : Paged). z.reads) e) (unmoved old p file t going most Parted new low short h);
      }

  ends : (x : Ending) → HasTriedSeveral most old (Ended x) new → IsServed most (pages old.pager).areas p (λ listed. sent_by None) file new file
  unfolding attempted_times
  ends x h =
      let q = attempted_times h.count p in
      let at = there old p file t going most (Ended x) new low short h in
      let g = (h.goes file p.place t.means).goes in
      let here = (h.goes file p.place t.means).here.place in
      let e = attempted_whole q (ended (gone_back here) x) at.going (missing_there old p file t going most (Ended x) new low short h None g.0) (ap turn at.place ∙ g.1.turn) in
      record {
        count = h.count;
        few = h.few;
        whole = whole old p file t going most (Ended x) new low short h;
        tracks = rw e (record {
          steps = ap (λ (k : Keeping). k.steps) h.keeps ∙ raised_steps old p file t going most (Ended x) new low short h;
          turns = ap (λ (k : Keeping). k.turns) h.keeps ∙ raised_turns old p file t going most (Ended x) new low short h;
          residence = ap (λ (k : Keeping). k.residence) h.keeps ∙ ap unpinned (residence_before old p file t going most (Ended x) new low short h);
          modified = marks_there old p file t going most (Ended x) new low short h;
          blocked = blocked_there old p file t going most (Ended x) new low short h;
          means = g.1.means;
        });
        writes = λ listed. output_sent listed p (attempted q) None
            (ap (λ (z : Paged). (machine_at z.place).output) e ∙ (h.goes file p.place t.means).silent)
            (ap (λ (z : Paged). z.evictions) e ∙ at.evictions);
        alike = areas_there old p file t going most (Ended x) new low short h;
        moved = completed_moves (pages old.pager).areas p q (attempted q) file (ap (λ (z : Paged). z.evictions) e) (ap (λ (z : Paged). z.reads) e) (unmoved old p file t going most (Ended x) new low short h);
      }

  pub quiet : (result : Applied) → HasTriedSeveral most old result new → ((sent : Option ℕ) → result ≡ Stepped sent → ⊥) → ((page : ℕ) → result ≡ Absent page → ⊥) → IsServed most (pages old.pager).areas p (λ listed. sent_by None) file new file
  quiet (Stepped sent) h a b = absurd (a sent refl)
  quiet Parted h a b = parted h
  quiet (Absent page) h a b = absurd (b page refl)
  quiet (Ended x) h a b = ends x h
  quiet (Served v) h a b = absurd h.answer
  quiet Evicted h a b = absurd h.answer
  quiet Flushed h a b = absurd h.answer
  quiet Nothing h a b = absurd h.answer
  quiet Failed h a b = absurd h.answer

-- the page that was missed is served, or isn't

few_dropped : (count : ℕ) (r : Residence) → (count ≡ 0 → length r.pinned < 40) → length (dropped count r).pinned < 40
few_dropped zero r h = h refl
few_dropped (suc count) r h = omega arith

at_once : (resident : ℕ → Bool) (count : ℕ) (from to : Spot) → count ≡ 0 → Advances resident count from to → to ≡ from
unfolding Advances
at_once resident zero from to e a = a
at_once resident (suc count) from to e a = absurd (omega (arith, e))

module _ (old mid : Engine) (p : Paged) (page : ℕ) (file : Option BlockFile) (t : Tracks old file p) (going : old.ended ≡ None) (most : ℕ) (low : old.steps + most < 2 ^ 64) (short : old.turns + most < 2 ^ 64) (h : HasTriedSeveral most old (Absent page) mid) (f : IsPaging (pages old.pager)) (space : IsSpace (pages old.pager).areas) (sound : IsSound mid) (pins : PinsTouched p.residence p.place) (g : IsPaging (pages mid.pager)) where
  abbrev far_to : GoesFar h.count old (Absent page) mid file p.place
  far_to = h.goes file p.place t.means

  abbrev q : Paged
  q = attempted_times h.count p

  at : IsAdvanced p h.count far_to.here q
  at = there old p file t going most (Absent page) mid low short h

  same_areas : (pages mid.pager).areas ≡ (pages old.pager).areas
  same_areas = areas_there old p file t going most (Absent page) mid low short h

  few_at_once : h.count ≡ 0 → length p.residence.pinned < 40
  few_at_once none =
      let same = ap (λ (z : Spot). z.place) (at_once (is_resident (residence old)) h.count (record { place = p.place; modified = modified_of old }) far_to.here none far_to.advances) in
      let missing : first_missing (is_resident (residence old)) (touches_at p.place) ≡ Some page =
      subst (λ (z : Place). first_missing (is_resident (residence old)) (touches_at z) ≡ Some page) same far_to.goes.0 in
      let areas = same_areas in
      let inside : is_some (area_of (pages old.pager).areas page) ≡ true =
      subst (λ (z : List Area). is_some (area_of z page) ≡ true) areas (sound.pages.wanted page (ap (λ (k : Keeping). k.wanted) h.keeps)).0 in
      let few = fewer_pins (residence old) p.place page f.pinned_once f.pinned (λ other r. page_small (pages old.pager).areas other space (f.inside other r)) (page_small (pages old.pager).areas page space inside)
      (subst (λ (z : Residence). PinsTouched z p.place) (sym t.residence) pins) missing in
      subst (λ (z : Residence). length z.pinned < 40) t.residence few

  kept_pins : residence mid ≡ q.residence
  kept_pins =
      ap (λ (k : Keeping). k.residence) h.keeps
      ∙ (ap eased (residence_before old p file t going most (Absent page) mid low short h)
      ∙ uneased q.residence (subst (λ (z : Residence). length z.pinned < 40) (sym at.residence) (few_dropped h.count p.residence few_at_once)))

  means_at : (new : Engine) (after : Option BlockFile) → KeepsPlace mid file new after → Means new after q.place
  means_at new after keeps = subst (λ (z : Place). Means new after z) (sym at.place) (keeps far_to.here.place far_to.goes.1)

  missing_at : first_missing (is_resident q.residence) (touches_at q.place) ≡ Some page
  missing_at = missing_there old p file t going most (Absent page) mid low short h (Some page) far_to.goes.0

  marks_at : modified_of mid ≡ (marked q).modified
  marks_at = marks_there old p file t going most (Absent page) mid low short h

  moved_at : Moved (pages old.pager).areas p q file file
  moved_at = unmoved old p file t going most (Absent page) mid low short h

  -- the page that makes room, and what is written of it

  abbrev pages_there : Paging
  pages_there = pages mid.pager

  wanted_there : mid.wanted ≡ Some page
  wanted_there = ap (λ (k : Keeping). k.wanted) h.keeps

  victim_there : victim_of (source page pages_there) ≡ victim q.residence
  victim_there =
      (is_service page [] pages_there g (few_pins pages_there.areas pages_there mid.wanted page wanted_there sound.pages)).answer ∙ ap victim kept_pins

  memory_there : StandsWith pages_there file (machine_at q.place).memory
  memory_there = subst (λ (z : Place). StandsWith pages_there file (machine_at z).memory) (sym at.place) far_to.goes.1.memory

  frames_there : (v : ℕ) → victim_of (source page pages_there) ≡ Some v → pages_there.frame v ≡ page_bytes (machine_at q.place).memory v
  frames_there v is =
      frame_is pages_there file (machine_at q.place).memory v g (subst IsSpace (sym same_areas) space)
      (victim_listed (residence mid) v (ap victim kept_pins ∙ (sym victim_there ∙ is))) memory_there

  abbrev written : List (ℕ × List ℕ)
  written = victim_write (pages old.pager).areas (victim q.residence) (marked q).modified (machine_at q.place).memory

  written_there : victim_write pages_there.areas (victim_of (source page pages_there)) (modified_of mid) (machine_at q.place).memory ≡ written
  written_there =
      ap (λ (z : List Area). victim_write z (victim_of (source page pages_there)) (modified_of mid) (machine_at q.place).memory) same_areas
      ∙ (ap (λ (z : Option ℕ). victim_write (pages old.pager).areas z (modified_of mid) (machine_at q.place).memory) victim_there
      ∙ ap (λ (z : ℕ → Bool). victim_write (pages old.pager).areas (victim q.residence) z (machine_at q.place).memory) marks_at)

  miss : attempted q ≡ attempted_by (Some page) (marked q)
  miss = attempted_miss q page at.going missing_at

  blocked_at : pages_there.blocked ≡ q.blocked
  blocked_at = blocked_there old p file t going most (Absent page) mid low short h

  read_there : reads_page (source page pages_there) page pages_there ≡ is_read page q
  read_there =
      source_reads page pages_there g (few_pins pages_there.areas pages_there mid.wanted page wanted_there sound.pages)
      ∙ (ap (λ (r : Residence). if is_listed page r.kept then false else pages_there.blocked page) kept_pins
      ∙ ap (λ (z : ℕ → Bool). if is_listed page q.residence.kept then false else z page) blocked_at)

  abbrev made_room : List Eviction
  made_room = evictions_of (q.turns + 2) (victim q.residence) (marked q)

  moved_by_file : (after : Option BlockFile) → FileGoes file after (victim_write pages_there.areas (victim_of (source page pages_there)) (modified_of mid) (machine_at q.place).memory) (one_if (reads_page (source page pages_there) page pages_there)) → Moved (pages old.pager).areas p (attempted_times (suc h.count) p) file after
  unfolding attempted_times
  moved_by_file after goes =
      let reads : (attempted q).reads ≡ q.reads + one_if (reads_page (source page pages_there) page pages_there) =
      ap (λ (z : Paged). z.reads) miss ∙ ap (λ (b : Bool). q.reads + one_if b) (sym read_there) in
      moved_again (pages old.pager).areas p q (attempted q) file file after moved_at
      (moved_by (pages old.pager).areas q (attempted q) file after made_room written (one_if (reads_page (source page pages_there) page pages_there)) (ap (λ (z : Paged). z.evictions) miss)
      (victim_writes (pages old.pager).areas (q.turns + 2) (victim q.residence) (marked q)) reads
      (subst (λ (z : List (ℕ × List ℕ)). FileGoes file after z (one_if (reads_page (source page pages_there) page pages_there))) written_there goes))

  -- the page that made room was written alone
  room_moved : (after : Option BlockFile) → FileGoes file after (victim_write pages_there.areas (victim_of (source page pages_there)) (modified_of mid) (machine_at q.place).memory) 0 → Moved (pages old.pager).areas p (room_made (marked q)) file after
  room_moved after goes =
      moved_again (pages old.pager).areas p q (room_made (marked q)) file file after moved_at
      (moved_by (pages old.pager).areas q (room_made (marked q)) file after made_room written 0 refl
      (victim_writes (pages old.pager).areas (q.turns + 2) (victim q.residence) (marked q)) (omega arith)
      (subst (λ (z : List (ℕ × List ℕ)). FileGoes file after z 0) written_there goes))

  writes_victim : takes_modified (source page pages_there) pages_there ≡ true → WritesVictim (marked q)
  writes_victim takes =
      let k = taken_modified (source page pages_there) pages_there takes in
      record { page = k.0; is = sym victim_there ∙ k.1; modified = ap (λ (z : ℕ → Bool). z k.0) (sym marks_at) ∙ k.2 }

  turns_at : (new : Engine) → keeping new ≡ keeping mid → new.turns ≡ q.turns + 1
  turns_at new e = ap (λ (k : Keeping). k.turns) e ∙ (ap (λ (k : Keeping). k.turns) h.keeps ∙ raised_turns old p file t going most (Absent page) mid low short h)

  unserved_here : (new : Engine) (after : Option BlockFile) → keeping new ≡ keeping mid → KeepsPlace mid file new after → IsLeft (source page pages_there) page pages_there file (pages new.pager) after → IsUnserved most (pages old.pager).areas p file new after
  unserved_here new after e keeps left = record {
    count = h.count;
    few = h.few;
    whole = whole old p file t going most (Absent page) mid low short h;
    silent = quiet_output old p file t going most (Absent page) mid low short h;
    steps = ap (λ (k : Keeping). k.steps) e ∙ (ap (λ (k : Keeping). k.steps) h.keeps ∙ steps_before old p file t going most (Absent page) mid low short h);
    turns = turns_at new e;
    residence = ap (λ (k : Keeping). k.residence) e ∙ kept_pins;
    means = means_at new after keeps;
    fails = record {
      missed = record { page = page; missing = missing_at; going = at.going };
      fails = elim (left_goes (source page pages_there) page pages_there (pages new.pager) file after (machine_at q.place).memory frames_there left) [
        | inl w ↦ inl (writes_victim w.0, subst (λ (z : Option BlockFile). Moved (pages old.pager).areas p q file z) (sym w.1) moved_at)
        | inr r ↦ inr (sym read_there ∙ r.0, room_moved after r.1)
      ];
      made = turns_at new e;
      wanted = ap (λ (k : Keeping). k.wanted) e ∙ wanted_there;
    };
  }

  module _ (new : Engine) (after : Option BlockFile) (v : Option ℕ) (vic : v ≡ victim (residence mid)) (e : keeping new ≡ record (keeping mid) { residence = served page (residence mid); wanted = None }) (keeps : KeepsPlace mid file new after) (x : ServesFrom page (Served v) pages_there file (pages new.pager) after) where
    turns_there : mid.turns ≡ q.turns + 1
    turns_there = ap (λ (k : Keeping). k.turns) h.keeps ∙ raised_turns old p file t going most (Absent page) mid low short h

    line_there : (listed : Bool) → listed_by listed (q.turns + 2) (victim q.residence) ≡ listed_by listed (mid.turns + 1) v
    line_there listed =
        let next : q.turns + 2 ≡ mid.turns + 1 = let n = turns_there in omega (arith, n) in
        ap (λ (n : ℕ). listed_by listed n (victim q.residence)) next ∙ ap (listed_by listed (mid.turns + 1)) (sym (vic ∙ ap victim kept_pins))

    cleaned_there : modified_of new ≡ cleaned_of (victim q.residence) (marked q).modified
    cleaned_there =
        let listed : Paging → ℕ → Bool = λ z other. is_listed other z.modified in
        ap listed x.0
        ∙ (came_cleans (source page pages_there) page ((pages new.pager).frame page) pages_there
        ∙ (ap (λ (z : Option ℕ). cleaned_of z (modified_of mid)) victim_there ∙ ap (cleaned_of (victim q.residence)) marks_at))

    gets_block : (pages new.pager).blocked ≡ blocked_of (victim q.residence) (marked q).modified q.blocked
    gets_block =
        ap (λ (z : Paging). z.blocked) x.0
        ∙ (came_blocks (source page pages_there) page ((pages new.pager).frame page) pages_there
        ∙ (ap (λ (z : Option ℕ). blocked_of z (modified_of mid) pages_there.blocked) victim_there
        ∙ (ap (λ (z : ℕ → Bool). blocked_of (victim q.residence) z pages_there.blocked) marks_at
        ∙ ap (blocked_of (victim q.residence) (marked q).modified) blocked_at)))

    served_here : IsServed most (pages old.pager).areas p (λ listed. listed_by listed (mid.turns + 1) v) file new after
    unfolding attempted_times
    served_here = record {
      count = h.count;
      few = h.few;
      whole = whole old p file t going most (Absent page) mid low short h;
      tracks = rw miss (record {
        steps = ap (λ (k : Keeping). k.steps) e ∙ (ap (λ (k : Keeping). k.steps) h.keeps ∙ steps_before old p file t going most (Absent page) mid low short h);
        turns = ap (λ (k : Keeping). k.turns) e ∙ turns_there;
        residence = ap (λ (k : Keeping). k.residence) e ∙ ap (served page) kept_pins;
        modified = cleaned_there;
        blocked = gets_block;
        means = means_at new after keeps;
      });
      writes = λ listed.
          output_by listed q (attempted q) [] (evictions_of (q.turns + 2) (victim q.residence) (marked q))
          (ap (λ (z : Paged). (machine_at z.place).output) miss ∙ sym (append-nil (machine_at q.place).output)) (ap (λ (z : Paged). z.evictions) miss)
          ∙ (ap (λ (zs : List ℕ). append (output_of listed q) (only Record zs)) (lines_one listed (q.turns + 2) (victim q.residence) (marked q))
          ∙ (ap (λ (c : Channels). append c (listed_by listed (q.turns + 2) (victim q.residence))) (quiet_output old p file t going most (Absent page) mid low short h listed)
          ∙ ap (append (output_of listed p)) (line_there listed)));
      alike = ap (λ (k : Keeping). k.areas) e ∙ same_areas;
      moved = moved_by_file after (subst (λ (z : Option BlockFile). FileGoes file z (victim_write pages_there.areas (victim_of (source page pages_there)) (modified_of mid) (machine_at q.place).memory) (one_if (reads_page (source page pages_there) page pages_there))) (sym x.1)
          (serve_goes (source page pages_there) page pages_there file (machine_at q.place).memory frames_there));
    }

  serve_step : (new : Engine) (after : Option BlockFile) (v : Option ℕ) → Serves (Some page) (keeping mid) (Served v) (keeping new) → KeepsPlace mid file new after → ServesFrom page (Served v) pages_there file (pages new.pager) after → IsServed most (pages old.pager).areas p (λ listed. listed_by listed (mid.turns + 1) v) file new after
  serve_step new after v (inl x) keeps moves = let bad : Served v ≡ Failed = x.0 in cc
  serve_step new after v (inr x) keeps moves =
      let e : Served v ≡ Served (victim (residence mid)) = x.0 in
      let k : v ≡ victim (residence mid) = cc in
      served_here new after v k x.1 keeps moves

  pub serve_done : (new : Engine) (after : Option BlockFile) (v : Option ℕ) → Serves mid.wanted (keeping mid) (Served v) (keeping new) → KeepsPlace mid file new after → ServesAs mid.wanted (Served v) pages_there file (pages new.pager) after → IsServed most (pages old.pager).areas p (λ listed. listed_by listed (mid.turns + 1) v) file new after
  serve_done new after v x keeps moves =
      serve_step new after v (subst (λ (z : Option ℕ). Serves z (keeping mid) (Served v) (keeping new)) wanted_there x) keeps
      (subst (λ (z : Option ℕ). ServesAs z (Served v) pages_there file (pages new.pager) after) wanted_there moves)

  failed_serve : (new : Engine) → Serves (Some page) (keeping mid) Failed (keeping new) → keeping new ≡ keeping mid
  failed_serve new (inl x) = x.1
  failed_serve new (inr x) = let bad : Failed ≡ Served (victim (keeping mid).residence) = x.0 in cc

  pub serve_failed : (new : Engine) (after : Option BlockFile) → Serves mid.wanted (keeping mid) Failed (keeping new) → KeepsPlace mid file new after → ServesAs mid.wanted Failed pages_there file (pages new.pager) after → IsUnserved most (pages old.pager).areas p file new after
  serve_failed new after x keeps moves =
      unserved_here new after (failed_serve new (subst (λ (z : Option ℕ). Serves z (keeping mid) Failed (keeping new)) wanted_there x)) keeps
      (subst (λ (z : Option ℕ). ServesAs z Failed pages_there file (pages new.pager) after) wanted_there moves)

-- how far a machine goes, whatever the memory is

record More (k m : Keeping) : Type 0 where
  pub turns : m.turns ≡ raised k.turns
  pub some : k.steps ≤ m.steps
  pub steps : m.steps ≤ k.steps + 1
  pub areas : m.areas ≡ k.areas

more_try : (result : Applied) (k : Keeping) → IsTry result → k.steps < 2 ^ 64 - 1 → More k (tried result k)
more_try (Stepped sent) k h low = record { turns = refl; some = omega (arith, low); steps = omega arith; areas = refl }
more_try Parted k h low = record { turns = refl; some = omega arith; steps = omega arith; areas = refl }
more_try (Absent page) k h low = record { turns = refl; some = omega arith; steps = omega arith; areas = refl }
more_try (Ended x) k h low = record { turns = refl; some = omega (arith, low); steps = omega arith; areas = refl }
more_try (Served v) k h low = absurd h
more_try Evicted k h low = absurd h
more_try Flushed k h low = absurd h
more_try Nothing k h low = absurd h
more_try Failed k h low = absurd h

pub gone_several : (old new : Engine) (most : ℕ) (result : Applied) → old.steps + most < 2 ^ 64 → old.turns + most < 2 ^ 64 → HasTriedSeveral most old result new → HasGone most old new
gone_several old new most result low short h =
    let few = h.few in
    let k = several_are h.count (keeping old) (omega (arith, few, low)) (omega (arith, few, short)) in
    let a = k.steps in
    let b = k.turns in
    let m = more_try result (several h.count (keeping old)) h.answer (omega (arith, a, few, low)) in
    let steps : new.steps ≡ (tried result (several h.count (keeping old))).steps = ap (λ (z : Keeping). z.steps) h.keeps in
    let turns : new.turns ≡ (tried result (several h.count (keeping old))).turns = ap (λ (z : Keeping). z.turns) h.keeps in
    let c = m.steps in
    let d = m.turns in
    let e = m.some in
    record {
      further = omega (arith, steps, e, a);
      some = omega (arith, turns, d, b, few, short);
      turns = omega (arith, turns, d, b, few, short);
      steps = omega (arith, steps, c, a, few);
      areas = ap (λ (z : Keeping). z.areas) h.keeps ∙ (m.areas ∙ k.areas);
    }

serve_same : (old new : Engine) (w : Option ℕ) (result : Applied) → Serves w (keeping old) result (keeping new) → (new.turns ≡ old.turns) × (new.steps ≡ old.steps) × ((pages new.pager).areas ≡ (pages old.pager).areas)
serve_same old new None result x = (ap (λ (k : Keeping). k.turns) x.1, ap (λ (k : Keeping). k.steps) x.1, ap (λ (k : Keeping). k.areas) x.1)
serve_same old new (Some page) result (inl x) = (ap (λ (k : Keeping). k.turns) x.1, ap (λ (k : Keeping). k.steps) x.1, ap (λ (k : Keeping). k.areas) x.1)
serve_same old new (Some page) result (inr x) = (ap (λ (k : Keeping). k.turns) x.1, ap (λ (k : Keeping). k.steps) x.1, ap (λ (k : Keeping). k.areas) x.1)

pub gone_served : (old mid new : Engine) (most : ℕ) (result : Applied) → HasGone most old mid → Serves mid.wanted (keeping mid) result (keeping new) → HasGone most old new
gone_served old mid new most result h x =
    let s = serve_same mid new mid.wanted result x in
    let a = s.0 in
    let b = s.1 in
    let c = h.some in
    let d = h.turns in
    let e = h.steps in
    let f = h.further in
    record { further = omega (arith, b, f); some = omega (arith, a, c); turns = omega (arith, a, d); steps = omega (arith, b, e); areas = s.2 ∙ h.areas }

-- What several attempts, made at once, make of a machine.
use Rattle.std.proofs.Common.{ℕ, zero, suc, ◌≡◌, ◌+◌, ◌-◌, ◌^◌, ◌<◌, Bool, true, false, ◌==◌, List, length, refl, ap, sym, ◌∙◌, subst, arith, Option, Some, None}
use Rattle.std.specs.Prelude.{IsSome}
use Rattle.vax_space.specs.declared.Area.{Area}
use Rattle.vax_space.specs.Reference.{page_of}
use Rattle.vax_outside.specs.Blocks.{BlockFile}
use Rattle.vax_outside.specs.Faults.{raised}
use Rattle.vax_flat.specs.declared.Ending.{Ending}
use Rattle.vax_flat.specs.Memory.{byte_at}
use Rattle.vax_flat.specs.Outcome.{first_missing}
use Rattle.vax_flat.specs.Parts.{Place, At, Within, Completes, machine_at, touches_at, turn}
use Rattle.vax_flat.specs.Port.{StandsFor, with_marks}
use Rattle.vax_flat.specs.Step.{Flat, run, step, ended}
use Rattle.vax_flat.proofs.Runs.{going_back}
use Rattle.vax_cpu.specs.Attempt.{IsAsBefore, IsAt, IsOpenAfter, StopsInside, flat_of}
use Rattle.vax_cpu.specs.Batch.{AreAttempts, IsOneAttempt, marks_after}
use Rattle.vax_cpu.specs.declared.cpu.Attempt.{Attempt}
use Rattle.vax_cpu.specs.declared.cpu.Attempt.TheVariants as attempt
use Rattle.vax_cpu.specs.declared.cpu.Cpu.{Cpu}
use Rattle.vax_pager.specs.Calls.{IsPaging}
use Rattle.vax_pager.specs.Listing.{is_listed}
use Rattle.vax_pager.specs.Meaning.{pages}
use Rattle.vax_pager.specs.Paging.{Paging, StandsWith, view_of}
use Rattle.vax_pager.specs.Steps.{OnlyWritten, settled}
use Rattle.vax_machine.proofs.Attempts.{areas_settled, attempted_marks, begins, concluded_marks, ended_as, goes_by, is_try, keeping_by, keeps_by, means_by, parted_as, residence_same, residence_settled, settled_blocks, sound_before, stands_eased, stepped_as, still_missing}
use Rattle.vax_pager.proofs.Turned.{stands_settled, stands_turned}
use Rattle.vax_machine.specs.AtOnce.{AreSteps}
use Rattle.vax_machine.specs.Conclusion.{Concludes, applied_of, eased_pages, pages_after, settled_after, wanted_behind}
use Rattle.vax_machine.specs.Machine.{AreSound, Goes, IsThere, IsTry, Keeping, Means, keeping, modified_of, residence, tried}
use Rattle.vax_machine.specs.Residence.{Residence, is_resident, residence_of, unpinned}
use Rattle.vax_machine.specs.Batch.{Advances, ComesFar, GoesFar, HasAdvanced, HasTriedSeveral, Spot, several}
use Rattle.vax_machine.specs.declared.engine.Engine.{Engine}
use Rattle.vax_machine.specs.declared.event.Applied.{Applied}
use Rattle.vax_machine.specs.declared.event.Applied.TheVariants.{Stepped}

-- steps that are made at once are turns

module _ (resident marked : ℕ → Bool) (m : Flat) where
  abbrev spot : ℕ → Spot
  spot count = record { place = At (run count m); modified = marks_after resident marked count m }

  advances : (count : ℕ) → (run count m).ending ≡ None → ((k : ℕ) → k < count → first_missing resident (touches_at (At (run k m))) ≡ None) → ((k : ℕ) → k < count → turn (At (run k m)) ≡ Completes (step (run k m))) → Advances resident count (record { place = At m; modified = marked }) (spot count)
  unfolding Advances run marks_after
  advances zero going none once = refl
  advances (suc count) going none once =
      let more : suc count ≡ 1 + count = omega arith in
      let before : (run count m).ending ≡ None = going_back count 1 m (subst (λ (n : ℕ). (run n m).ending ≡ None) more going) in (
        spot count,
        step (run count m),
        advances count before (λ k low. none k (omega (arith, low))) (λ k low. once k (omega (arith, low))),
        none count (omega arith),
        once count (omega arith),
        going,
        refl,
      )

-- the memory behind the first of the attempts

settled_memory : (count : ℕ) (s : Paging) (file : Option BlockFile) (memory : List Area) → StandsWith s file memory → StandsWith (settled_after count s) file memory
unfolding settled_after
settled_memory zero s file memory st = st
settled_memory (suc count) s file memory st = stands_settled s file memory st

module _ (s t : Paging) (cpu : Cpu) (mid new : Engine) (result : Applied) (w : OnlyWritten s t) (f : IsPaging s) (going : mid.ended ≡ None) (count : ℕ) (same : pages mid.pager ≡ settled_after count t) (file : Option BlockFile) (m : Flat) (closed : cpu.latch ≡ None) (st : StandsWith s file m.memory) where
  module _ (last : Attempt) (a : AreAttempts (view_of s) m count last mid.cpu (view_of t)) where
    here_memory : (memory : List Area) → StandsFor (view_of t) memory → ((addr : ℕ) → is_listed (page_of addr) s.order ≡ false → byte_at memory addr ≡ byte_at a.here.memory addr) → StandsWith (pages mid.pager) file memory
    here_memory memory stands absent =
        subst (λ (z : Paging). StandsWith z file memory) (sym same)
        (settled_memory count t file memory (stands_turned s t file m.memory memory w f stands (λ addr away. absent addr away ∙ a.absent addr away) st))

    after_settled : (memory : List Area) → pages new.pager ≡ settled (pages mid.pager) → StandsFor (view_of t) memory → ((addr : ℕ) → is_listed (page_of addr) s.order ≡ false → byte_at memory addr ≡ byte_at a.here.memory addr) → StandsWith (pages new.pager) file memory
    after_settled memory e stands absent =
        subst (λ (z : Paging). StandsWith z file memory) (sym e) (stands_settled (pages mid.pager) file memory (here_memory memory stands absent))

    after_eased : (memory : List Area) → pages new.pager ≡ eased_pages (pages mid.pager) → StandsFor (view_of t) memory → ((addr : ℕ) → is_listed (page_of addr) s.order ≡ false → byte_at memory addr ≡ byte_at a.here.memory addr) → StandsWith (pages new.pager) file memory
    after_eased memory e stands absent =
        subst (λ (z : Paging). StandsWith z file memory) (sym e) (stands_eased (pages mid.pager) file memory (here_memory memory stands absent))

  batch_goes : (last : Attempt) (a : AreAttempts (view_of s) m count last mid.cpu (view_of t)) → Concludes last mid result new → IsOpenAfter last cpu.latch mid.cpu.latch → Goes result (λ page. is_listed page s.order) new file (At a.here)
  batch_goes (attempt.Step sent) a c latch =
      subst (λ (z : Applied). Goes z (λ page. is_listed page s.order) new file (At a.here)) (sym c.answer) (
        a.attempted.0,
        stepped_as _ _ (At a.here) mid.cpu new file c.cpu sent a.attempted.1 (c.ended ∙ going) latch
            (after_settled (attempt.Step sent) a a.attempted.1.memory c.pages a.attempted.1.leaves.stands a.attempted.1.leaves.absent),
      )
  batch_goes attempt.Part a c latch =
      subst (λ (z : Applied). Goes z (λ page. is_listed page s.order) new file (At a.here)) (sym c.answer) (
        a.attempted.0,
        parted_as _ _ (At a.here) mid.cpu new file c.cpu a.attempted.1 (c.ended ∙ going)
            (after_settled attempt.Part a a.attempted.1.next.now.memory c.pages a.attempted.1.leaves.stands a.attempted.1.leaves.absent),
      )
  batch_goes (attempt.Absent page) a c latch =
      subst (λ (z : Applied). Goes z (λ page. is_listed page s.order) new file (At a.here)) (sym c.answer) (
        a.attempted.0,
        means_by new mid.cpu None file (At a.here) c.cpu (c.ended ∙ going) (record { open_one = latch ∙ closed; machine = a.stays.0 })
            (after_eased (attempt.Absent page) a a.here.memory c.pages a.stays.1 (λ addr away. refl)),
      )
  batch_goes (attempt.Ended x) a c latch =
      subst (λ (z : Applied). Goes z (λ page. is_listed page s.order) new file (At a.here)) (sym c.answer) (
        a.attempted.0,
        ended_as _ _ (At a.here) mid.cpu new file c.cpu x a.attempted.1 c.ended (record { open_one = latch; machine = ap (λ (z : Flat). ended z x) a.stays.0 })
            (after_settled (attempt.Ended x) a a.here.memory c.pages a.stays.1 (λ addr away. refl)),
      )

settled_after_marks : (count : ℕ) (s : Paging) → (view_of (settled_after count s)).marked ≡ (view_of s).marked
unfolding settled_after
settled_after_marks zero s = refl
settled_after_marks (suc count) s = unfold settled in refl

-- no page gets a block by attempts

settled_blocked : (s : Paging) → (settled s).blocked ≡ s.blocked
settled_blocked s = settled_blocks s (settled s) refl

settled_after_blocked : (count : ℕ) (s : Paging) → (settled_after count s).blocked ≡ s.blocked
unfolding settled_after
settled_after_blocked zero s = refl
settled_after_blocked (suc count) s = settled_blocked s

eased_step_blocked : (s : Paging) (b : Bool) → (length s.pinned == 40) ≡ b → (eased_pages s).blocked ≡ s.blocked
unfolding eased_pages
eased_step_blocked s true e = rw e (settled_blocked s)
eased_step_blocked s false e = rw e refl

after_blocked : (last : Attempt) (s : Paging) → (pages_after last s).blocked ≡ s.blocked
after_blocked (attempt.Step sent) s = settled_blocked s
after_blocked attempt.Part s = settled_blocked s
after_blocked (attempt.Absent page) s = eased_step_blocked s (length s.pinned == 40) refl
after_blocked (attempt.Ended x) s = settled_blocked s

-- what is kept

exact : (n count : ℕ) → n + count < 2 ^ 64 - 1 → raised (n + count) ≡ n + suc count
exact n count h = omega (arith, h)

-- with the pins that are left after so many steps
several_is : (count : ℕ) (k : Keeping) → k.steps + suc count < 2 ^ 64 → k.turns + suc count < 2 ^ 64 → several (suc count) k ≡ record { areas = k.areas; steps = k.steps + suc count; turns = k.turns + suc count; residence = unpinned k.residence; wanted = None; ended = k.ended }
unfolding several
several_is zero k a b =
    let s : raised k.steps ≡ k.steps + 1 = omega (arith, a) in
    let t : raised k.turns ≡ k.turns + 1 = omega (arith, b) in
    rw (s, t) refl
several_is (suc count) k a b =
    let e = several_is count k (omega (arith, a)) (omega (arith, b)) in
    ap (tried (Stepped None)) e ∙ (
    let s : raised (k.steps + suc count) ≡ k.steps + suc (suc count) = omega (arith, a) in
    let t : raised (k.turns + suc count) ≡ k.turns + suc (suc count) = omega (arith, b) in
    rw (s, t) refl)

tried_any : (last : Attempt) (k : Keeping) (want : Option ℕ) → tried (applied_of last) (record k { wanted = want }) ≡ tried (applied_of last) k
tried_any (attempt.Step sent) k want = refl
tried_any attempt.Part k want = refl
tried_any (attempt.Absent page) k want = refl
tried_any (attempt.Ended x) k want = refl

-- the machine behind the first of the attempts
pub record IsBehind (count : ℕ) (old : Engine) (t : Paging) (mid : Engine) : Type 0 where
  pub pages : pages mid.pager ≡ settled_after count t
  pub steps : mid.steps ≡ old.steps + count
  pub turns : mid.turns ≡ old.turns + count
  pub wanted : mid.wanted ≡ old.wanted
  pub ended : mid.ended ≡ old.ended

mid_keeping : (count : ℕ) (old mid : Engine) (t : Paging) → OnlyWritten (pages old.pager) t → IsBehind count old t mid → old.steps + count < 2 ^ 64 → old.turns + count < 2 ^ 64 → keeping mid ≡ record (several count (keeping old)) { wanted = old.wanted }
unfolding settled_after several
mid_keeping zero old mid t w b x y =
    keeping_by mid (keeping old) (ap (λ (z : Paging). z.areas) b.pages ∙ w.areas) (let e = b.steps in omega (arith, e)) (let e = b.turns in omega (arith, e))
    (ap residence_of b.pages ∙ residence_same (pages old.pager) t w) b.wanted b.ended
mid_keeping (suc count) old mid t w b x y =
    let e = several_is count (keeping old) x y in
    keeping_by mid (record { areas = (pages old.pager).areas; steps = old.steps + suc count; turns = old.turns + suc count; residence = unpinned (residence_of (pages old.pager)); wanted = old.wanted; ended = old.ended })
    (areas_settled t (pages mid.pager) b.pages ∙ w.areas) b.steps b.turns (residence_settled t (pages mid.pager) b.pages ∙ ap unpinned (residence_same (pages old.pager) t w)) b.wanted b.ended
    ∙ ap (λ (z : Keeping). record z { wanted = old.wanted }) (sym e)

module _ (old mid new : Engine) (t : Paging) (result : Applied) (last : Attempt) (count : ℕ) (w : OnlyWritten (pages old.pager) t) (f : IsPaging (pages old.pager)) (going : old.ended ≡ None) (b : IsBehind count old t mid) (c : Concludes last mid result new)
    (steps : old.cpu.latch ≡ None → (memory : List Area) → (output : List ℕ) → StandsFor (view_of (pages old.pager)) memory → AreAttempts (view_of (pages old.pager)) (flat_of old.cpu memory output) count last mid.cpu (view_of t))
    (within : IsSome old.cpu.latch → (place : Place) → IsAt old.cpu place → StandsFor (view_of (pages old.pager)) (machine_at place).memory → IsOneAttempt (view_of (pages old.pager)) place count last mid.cpu (view_of t))
    (before : count ≡ 0 → IsAsBefore last old.cpu (view_of (pages old.pager)) mid.cpu (view_of t))
    (latch : IsOpenAfter last old.cpu.latch mid.cpu.latch) where
  abbrev GoesFrom : Option BlockFile → Place → Type 0
  GoesFrom file place = GoesFar count old result new file place

  behind_marks : (view_of (pages mid.pager)).marked ≡ (view_of t).marked
  behind_marks = ap (λ (z : Paging). (view_of z).marked) b.pages ∙ settled_after_marks count t

  from_start : (file : Option BlockFile) (m : Flat) → Means old file (At m) → GoesFrom file (At m)
  from_start file m means =
      let at = (begins old file (At m) going f means).0 in
      let st = (begins old file (At m) going f means).1 in
      let v = view_of (pages old.pager) in
      let a = subst (λ (z : Flat). AreAttempts v z count last mid.cpu (view_of t)) at.machine (steps at.open_one m.memory m.output st) in
      let running : (run count m).ending ≡ None = ap (λ (z : Flat). z.ending) a.steps ∙ a.running in
      record {
        here = record { place = At a.here; modified = marks_after v.resident v.marked count m };
        advances =
            subst (λ (z : Flat). Advances v.resident count (record { place = At m; modified = v.marked }) (record { place = At z; modified = marks_after v.resident v.marked count m })) a.steps
            (advances v.resident v.marked m count running a.resident a.at_once);
        silent = a.silent;
        goes = batch_goes (pages old.pager) t old.cpu mid new result w f (b.ended ∙ going) count b.pages file m at.open_one means.memory last a c latch;
        marks = concluded_marks last mid result new c ∙ (behind_marks ∙ attempted_marks last (with_marks v (marks_after v.resident v.marked count m)) (At a.here) mid.cpu (view_of t) a.attempted);
      }

  from_within : (file : Option BlockFile) (place : Place) → IsSome old.cpu.latch → Means old file place → GoesFrom file place
  unfolding Advances settled_after
  from_within file place opened means =
      let at = (begins old file place going f means).0 in
      let st = (begins old file place going f means).1 in
      let v = view_of (pages old.pager) in
      let one = within opened place at st in
      let same : pages mid.pager ≡ t = subst (λ (n : ℕ). pages mid.pager ≡ settled_after n t) one.steps b.pages in
      let here : Spot = record { place = place; modified = v.marked } in
      record {
        here = here;
        advances = subst (λ (n : ℕ). Advances v.resident n here here) (sym one.steps) refl;
        silent = refl;
        goes = goes_by (pages old.pager) t old.cpu mid new result w f (b.ended ∙ going) same file place at means.memory last c one.attempted (before one.steps) latch;
        marks = concluded_marks last mid result new c ∙ (behind_marks ∙ attempted_marks last v place mid.cpu (view_of t) one.attempted);
      }

  from_place : (file : Option BlockFile) (place : Place) → Means old file place → GoesFrom file place
  from_place file (At m) means = from_start file m means
  from_place file (Within q) means = from_within file (Within q) (rw means.processor.open_one refl) means

  pub has_tried_several : (most : ℕ) → count < most → old.steps + most < 2 ^ 64 → old.turns + most < 2 ^ 64 → HasTriedSeveral most old result new
  has_tried_several most few x y = record {
    count = count;
    few = few;
    answer = subst IsTry (sym c.answer) (is_try last);
    keeps =
        keeps_by last mid new result (record (several count (keeping old)) { wanted = old.wanted }) (mid_keeping count old mid t w b (omega (arith, few, x)) (omega (arith, few, y))) c
        ∙ subst (λ (z : Applied). tried z (record (several count (keeping old)) { wanted = old.wanted }) ≡ tried z (several count (keeping old))) (sym c.answer) (tried_any last (several count (keeping old)) old.wanted);
    blocked =
        ap (λ (z : Paging). z.blocked) c.pages
        ∙ (after_blocked last (pages mid.pager) ∙ (ap (λ (z : Paging). z.blocked) b.pages ∙ (settled_after_blocked count t ∙ w.blocked)));
    goes = λ file place means. from_place file place means;
  }

-- so many steps that are made at once, and no attempt behind them

-- the machine behind them
pub record IsFurther (count : ℕ) (old : Engine) (t : Paging) (new : Engine) : Type 0 where
  pub pages : pages new.pager ≡ settled_after count t
  pub steps : new.steps ≡ old.steps + count
  pub turns : new.turns ≡ old.turns + count
  pub wanted : new.wanted ≡ wanted_behind count old.wanted
  pub ended : new.ended ≡ old.ended

further_keeping : (count : ℕ) (old new : Engine) (t : Paging) → OnlyWritten (pages old.pager) t → IsFurther count old t new → old.steps + count < 2 ^ 64 → old.turns + count < 2 ^ 64 → keeping new ≡ several count (keeping old)
unfolding settled_after several wanted_behind
further_keeping zero old new t w b x y =
    keeping_by new (keeping old) (ap (λ (z : Paging). z.areas) b.pages ∙ w.areas) (let e = b.steps in omega (arith, e)) (let e = b.turns in omega (arith, e))
    (ap residence_of b.pages ∙ residence_same (pages old.pager) t w) b.wanted b.ended
further_keeping (suc count) old new t w b x y =
    let e = several_is count (keeping old) x y in
    keeping_by new (record { areas = (pages old.pager).areas; steps = old.steps + suc count; turns = old.turns + suc count; residence = unpinned (residence_of (pages old.pager)); wanted = None; ended = old.ended })
    (areas_settled t (pages new.pager) b.pages ∙ w.areas) b.steps b.turns (residence_settled t (pages new.pager) b.pages ∙ ap unpinned (residence_same (pages old.pager) t w)) b.wanted b.ended
    ∙ sym e

module _ (old new : Engine) (t : Paging) (count : ℕ) (w : OnlyWritten (pages old.pager) t) (f : IsPaging (pages old.pager)) (going : old.ended ≡ None) (b : IsFurther count old t new) (low : old.steps + count < 2 ^ 64) (short : old.turns + count < 2 ^ 64)
    (steps : old.cpu.latch ≡ None → (memory : List Area) → (output : List ℕ) → StandsFor (view_of (pages old.pager)) memory → AreSteps (view_of (pages old.pager)) (flat_of old.cpu memory output) count new.cpu (view_of t))
    (opened : IsSome old.cpu.latch → (count ≡ 0) × (new.cpu ≡ old.cpu) × (t ≡ pages old.pager))
    (latch : new.cpu.latch ≡ old.cpu.latch) where
  all_marks : modified_of new ≡ (view_of t).marked
  all_marks = ap (λ (z : Paging). (view_of z).marked) b.pages ∙ settled_after_marks count t

  comes_at_start : (file : Option BlockFile) (m : Flat) → Means old file (At m) → ComesFar count old new file (At m)
  comes_at_start file m means =
      let at = (begins old file (At m) going f means).0 in
      let st = (begins old file (At m) going f means).1 in
      let v = view_of (pages old.pager) in
      let a = subst (λ (z : Flat). AreSteps v z count new.cpu (view_of t)) at.machine (steps at.open_one m.memory m.output st) in
      record {
        here = record { place = At a.here; modified = marks_after v.resident v.marked count m };
        advances = subst (λ (z : Flat). Advances v.resident count (record { place = At m; modified = v.marked }) (record { place = At z; modified = marks_after v.resident v.marked count m })) a.steps
            (advances v.resident v.marked m count (ap (λ (z : Flat). z.ending) a.steps ∙ a.running) a.resident a.at_once);
        silent = a.silent;
        means = means_by new new.cpu None file (At a.here) refl (b.ended ∙ going) (record { open_one = latch ∙ at.open_one; machine = a.processor })
            (subst (λ (z : Paging). StandsWith z file a.here.memory) (sym b.pages)
            (settled_memory count t file a.here.memory (stands_turned (pages old.pager) t file m.memory a.here.memory w f a.stands (λ addr away. a.absent addr away) means.memory)));
        marks = all_marks ∙ a.marks;
      }

  comes_within : (file : Option BlockFile) (place : Place) → IsSome old.cpu.latch → Means old file place → ComesFar count old new file place
  unfolding settled_after Advances
  comes_within file place some means =
      let none = opened some in
      let same : pages new.pager ≡ pages old.pager = subst (λ (n : ℕ). pages new.pager ≡ settled_after n t) none.0 b.pages ∙ none.2 in
      let here : Spot = record { place = place; modified = modified_of old } in
      record {
        here = here;
        advances = subst (λ (n : ℕ). Advances (is_resident (residence old)) n here here) (sym none.0) refl;
        silent = refl;
        means = record {
          processor = subst (λ (z : Cpu). IsThere z new.ended place) (sym none.1) (subst (λ (z : Option Ending). IsThere old.cpu z place) (sym b.ended) means.processor);
          memory = subst (λ (z : Paging). StandsWith z file (machine_at place).memory) (sym same) means.memory;
        };
        marks = ap (λ (z : Paging). λ page. is_listed page z.modified) same;
      }

  comes : (file : Option BlockFile) (place : Place) → Means old file place → ComesFar count old new file place
  comes file (At m) means = comes_at_start file m means
  comes file (Within q) means = comes_within file (Within q) (rw means.processor.open_one refl) means

  pub has_advanced : HasAdvanced count old new
  has_advanced = record {
    keeps = further_keeping count old new t w b low short;
    goes = λ file place means. comes file place means;
  }

sound_settled_after : (count : ℕ) (s u : Paging) (want : Option ℕ) → u ≡ settled_after count s → AreSound s.areas (residence_of s) want → AreSound u.areas (residence_of u) want
unfolding settled_after
sound_settled_after zero s u want e h = rw e h
sound_settled_after (suc count) s u want e h = rw e (unfold settled in record { pins = omega arith; frames = h.frames; wanted = λ page is. let k = h.wanted page is in (k.0, k.1, omega arith) })

-- before the last of the attempts is counted, the machine is as sound as it was
pub sound_behind : (count : ℕ) (s t u : Paging) (want : Option ℕ) → OnlyWritten s t → u ≡ settled_after count t → AreSound s.areas (residence_of s) want → AreSound u.areas (residence_of u) want
sound_behind count s t u want w e h = sound_settled_after count t u want e (sound_before s t want w h)

settled_missing : (count : ℕ) (last : Attempt) (s u : Paging) → u ≡ settled_after count s → StopsInside last (view_of s) → StopsInside last (view_of u)
unfolding settled_after
settled_missing zero last s u e h = rw e h
settled_missing (suc count) last s u e h = rw e (unfold settled in h)

pub missing_behind : (count : ℕ) (last : Attempt) (s t u : Paging) → OnlyWritten s t → u ≡ settled_after count t → StopsInside last (view_of s) → StopsInside last (view_of u)
missing_behind count last s t u w e h = settled_missing count last t u e (still_missing last s t w h)

-- and where no page is wanted behind steps
pub wanted_sound : (count : ℕ) (areas : List Area) (r : Residence) (want new : Option ℕ) → new ≡ wanted_behind count want → AreSound areas r want → AreSound areas r new
unfolding wanted_behind
wanted_sound zero areas r want new e h = rw e h
wanted_sound (suc count) areas r want new e h = record { pins = h.pins; frames = h.frames; wanted = λ page is. let no : None ≡ Some page = sym e ∙ is in cc }

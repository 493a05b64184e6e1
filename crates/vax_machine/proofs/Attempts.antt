-- What an attempt makes of a machine.
use Rattle.std.proofs.Common.{ℕ, ◌≡◌, ◌<◌, ◌≤◌, Bool, true, false, ◌==◌, List, [], length, refl, ap, sym, ◌∙◌, subst, arith, inl, inr, Option, Some, None}
use Rattle.std.specs.Prelude.{is_some}
use Rattle.std.proofs.lemmas.Bool.Decides.{nat_tests}
use Rattle.std.proofs.lemmas.Bool.{cases_Bool}
use Rattle.vax_word.specs.declared.Core.{Core}
use Rattle.vax_space.specs.declared.Area.{Area}
use Rattle.vax_space.specs.Areas.{area_of}
use Rattle.vax_space.specs.Reference.{page_of}
use Rattle.vax_outside.specs.Blocks.{BlockFile}
use Rattle.vax_flat.specs.declared.Ending.{Ending}
use Rattle.vax_flat.specs.Inside.{IsMissing}
use Rattle.vax_flat.specs.Memory.{byte_at}
use Rattle.vax_flat.specs.Outcome.{marked_by}
use Rattle.vax_flat.specs.Parts.{Place, At, Within, machine_at, start_of, gone_back, touches_at}
use Rattle.vax_flat.specs.Port.{View, StandsFor, with_marks}
use Rattle.vax_flat.specs.Step.{Flat, ended, with_byte_sent}
use Rattle.vax_cpu.specs.Attempt.{Attempted, IsAsBefore, IsAt, IsEnd, IsOpenAfter, IsPart, IsStep, StopsInside, flat_of, open_at}
use Rattle.vax_cpu.specs.Tried.{start_by}
use Rattle.vax_cpu.specs.declared.cpu.Attempt.{Attempt}
use Rattle.vax_cpu.specs.declared.cpu.Attempt.TheVariants as attempt
use Rattle.vax_cpu.specs.declared.cpu.Cpu.{Cpu}
use Rattle.vax_cpu.specs.declared.cpu.Open.{Open}
use Rattle.vax_pager.specs.Calls.{IsPaging}
use Rattle.vax_pager.specs.Listing.{is_listed}
use Rattle.vax_pager.specs.Meaning.{pages}
use Rattle.vax_pager.specs.Paging.{Paging, StandsWith, view_of}
use Rattle.vax_pager.specs.Steps.{OnlyWritten, settled}
use Rattle.vax_pager.specs.declared.pager.Pager.{Pager}
use Rattle.vax_pager.proofs.Turned.{port_stands, stands_settled, stands_turned}
use Rattle.vax_machine.specs.Conclusion.{Concludes, applied_of, eased_pages}
use Rattle.vax_machine.specs.Machine.{AreSound, Goes, HasEnded, HasParted, HasStepped, HasTried, IsThere, IsTry, Keeping, Means, Tries, has_failed, keeping, tried}
use Rattle.vax_machine.specs.Residence.{Residence, residence_of, unpinned, eased}
use Rattle.vax_machine.specs.declared.engine.Engine.{Engine}
use Rattle.vax_machine.specs.declared.event.Applied.{Applied}
use Rattle.vax_machine.specs.declared.event.Applied.TheVariants.{Absent, Ended, Evicted, Failed, Flushed, Nothing, Parted, Served, Stepped}

stands_same_bytes : (before after : View) (memory : List Area) → after ≡ with_marks before after.marked → StandsFor before memory → StandsFor after memory
stands_same_bytes before after memory e st = rw e (record { areas = st.areas; bytes = st.bytes; whole = st.whole })

-- after an attempt that left all as it was
stands_same : (s t : Paging) (file : Option BlockFile) (memory : List Area) → OnlyWritten s t → IsPaging s → view_of t ≡ with_marks (view_of s) (view_of t).marked → StandsWith s file memory → StandsWith t file memory
stands_same s t file memory w f v st =
    stands_turned s t file memory memory w f (stands_same_bytes (view_of s) (view_of t) memory v (port_stands s file memory f st)) (λ addr a. refl) st

-- residence

pub residence_same : (s t : Paging) → OnlyWritten s t → residence_of t ≡ residence_of s
residence_same s t w = rw (w.frames, w.order, w.pinned, w.kept, w.numbers) refl

-- what the pager keeps after an attempt, by what that came to

pub residence_settled : (s u : Paging) → u ≡ settled s → residence_of u ≡ unpinned (residence_of s)
unfolding settled
residence_settled s u e = ap residence_of e

pub areas_settled : (s u : Paging) → u ≡ settled s → u.areas ≡ s.areas
unfolding settled
areas_settled s u e = ap (λ (z : Paging). z.areas) e

pub settled_blocks : (s u : Paging) → u ≡ settled s → u.blocked ≡ s.blocked
unfolding settled
settled_blocks s u e = ap (λ (z : Paging). z.blocked) e

pub sound_settled : (s u : Paging) (want : Option ℕ) → u ≡ settled s → AreSound s.areas (residence_of s) want → AreSound u.areas (residence_of u) None
sound_settled s u want e h = rw (residence_settled s u e) (record { pins = omega arith; frames = h.frames; wanted = λ page no. cc })

eased_step : (s : Paging) (b : Bool) → (length s.pinned == 40) ≡ b → (residence_of (eased_pages s) ≡ eased (residence_of s)) × ((eased_pages s).areas ≡ s.areas) × ((file : Option BlockFile) → (memory : List Area) → StandsWith s file memory → StandsWith (eased_pages s) file memory)
unfolding eased_pages eased
eased_step s true e = rw e (unfold settled in refl, unfold settled in refl, λ file memory st. stands_settled s file memory st)
eased_step s false e = rw e (refl, refl, λ file memory st. st)

few_step : (r : Residence) (b : Bool) → (length r.pinned == 40) ≡ b → length r.pinned ≤ 40 → (length (eased r).pinned < 40) × ((eased r).order ≡ r.order) × ((eased r).frames ≡ r.frames)
unfolding eased
few_step r true e h = rw e (omega arith, refl, refl)
few_step r false e h = rw e (grind (arith, nat_tests), refl, refl)

pub residence_eased : (s u : Paging) → u ≡ eased_pages s → residence_of u ≡ eased (residence_of s)
residence_eased s u e = ap residence_of e ∙ (eased_step s (length s.pinned == 40) refl).0

pub areas_eased : (s u : Paging) → u ≡ eased_pages s → u.areas ≡ s.areas
areas_eased s u e = ap (λ (z : Paging). z.areas) e ∙ (eased_step s (length s.pinned == 40) refl).1

pub stands_eased : (s : Paging) (file : Option BlockFile) (memory : List Area) → StandsWith s file memory → StandsWith (eased_pages s) file memory
stands_eased s file memory st = (eased_step s (length s.pinned == 40) refl).2 file memory st

pub sound_eased : (s u : Paging) (want : Option ℕ) (page : ℕ) → u ≡ eased_pages s → IsMissing (view_of s) page → AreSound s.areas (residence_of s) want → AreSound u.areas (residence_of u) (Some page)
sound_eased s u want page e missing h =
    let a = areas_eased s u e in
    let k = few_step (residence_of s) (length s.pinned == 40) refl h.pins in
    rw (residence_eased s u e, a) (record {
      pins = omega (arith, k.0);
      frames = rw k.2 h.frames;
      wanted = λ other is.
          let same : page ≡ other = cc in
          subst (λ (z : ℕ). (is_some (area_of s.areas z) ≡ true) × (is_listed z (eased (residence_of s)).order ≡ false) × (length (eased (residence_of s)).pinned < 40)) same (missing.1, rw k.1 missing.0, k.0);
    })

-- before it is counted, an attempt leaves the machine as sound as it was
pub sound_before : (s t : Paging) (want : Option ℕ) → OnlyWritten s t → AreSound s.areas (residence_of s) want → AreSound t.areas (residence_of t) want
sound_before s t want w h = rw (residence_same s t w, w.areas) h

-- a page that was missing is still
pub still_missing : (last : Attempt) (s t : Paging) → OnlyWritten s t → StopsInside last (view_of s) → StopsInside last (view_of t)
still_missing (attempt.Step sent) s t w h = tt
still_missing attempt.Part s t w h = tt
still_missing (attempt.Absent page) s t w h = (ap (is_listed page) w.order ∙ h.0, ap (λ (z : List Area). is_some (area_of z page)) w.areas ∙ h.1)
still_missing (attempt.Ended e) s t w h = tt

-- the processor

there_running : (cpu : Cpu) (how : Option Ending) (place : Place) → how ≡ None → IsThere cpu how place → IsAt cpu place
there_running cpu (Some e) place none h = cc
there_running cpu None place none h = record { open_one = h.open_one; machine = h.machine }

-- the facts with which an attempt begins
pub begins : (old : Engine) (file : Option BlockFile) (place : Place) → old.ended ≡ None → IsPaging (pages old.pager) → Means old file place → IsAt old.cpu place × StandsFor (view_of (pages old.pager)) (machine_at place).memory
begins old file place none f m = (there_running old.cpu old.ended place none m.processor, port_stands (pages old.pager) file (machine_at place).memory f m.memory)

there_same : (old new : Cpu) (how : Option Ending) (place : Place) → flat_of new [] [] ≡ flat_of old [] [] → new.latch ≡ old.latch → IsThere old how place → IsThere new how place
there_same old new how place e l h = record {
  open_one = l ∙ h.open_one;
  machine = ap (λ (x : Flat). record x { memory = (machine_at place).memory; output = (machine_at place).output; ending = how }) e ∙ h.machine;
}

started : (latch : Option Open) (core : Core) (place : Place) → latch ≡ open_at place → core ≡ (machine_at place).core → start_by latch core ≡ start_of place
started latch core (At m) l c = rw l c
started latch core (Within p) l c = rw l refl

there_ended : (old new : Cpu) (place : Place) (e : Ending) → IsAt old place → flat_of new [] [] ≡ record (flat_of old [] []) { core = start_by old.latch old.core } → new.latch ≡ None → IsThere new (Some e) (At (ended (gone_back place) e))
there_ended old new place e at same closed =
    let core : new.core ≡ start_of place =
    ap (λ (x : Flat). x.core) same ∙ started old.latch old.core place at.open_one (ap (λ (x : Flat). x.core) at.machine) in
    let input : new.term.input.items ≡ (machine_at place).input = ap (λ (x : Flat). x.input) same ∙ ap (λ (x : Flat). x.input) at.machine in
    let taken : new.term.place ≡ (machine_at place).taken = ap (λ (x : Flat). x.taken) same ∙ ap (λ (x : Flat). x.taken) at.machine in
    record { open_one = closed; machine = rw (core, input, taken) refl }

-- what a machine means, by its parts
pub means_by : (m : Engine) (cpu : Cpu) (how : Option Ending) (file : Option BlockFile) (place : Place) → m.cpu ≡ cpu → m.ended ≡ how → IsThere cpu how place → StandsWith (pages m.pager) file (machine_at place).memory → Means m file place
means_by m cpu how file place c e there st = record { processor = rw (c, e) there; memory = st }

-- what a machine keeps, by its parts
pub keeping_by : (m : Engine) (k : Keeping) → (pages m.pager).areas ≡ k.areas → m.steps ≡ k.steps → m.turns ≡ k.turns → residence_of (pages m.pager) ≡ k.residence → m.wanted ≡ k.wanted → m.ended ≡ k.ended → keeping m ≡ k
keeping_by m k a s t r w e = rw (a, s, t, r, w, e) refl

module _ (before view : View) (place : Place) (after : Cpu) (new : Engine) (file : Option BlockFile) (c : new.cpu ≡ after) where
  pub stepped_as : (sent : Option ℕ) (is : IsStep before place sent after view) → new.ended ≡ None → after.latch ≡ None → StandsWith (pages new.pager) file is.memory → HasStepped place sent new file
  stepped_as sent is e closed st = record {
    next = flat_of after is.memory (with_byte_sent (machine_at place).output sent);
    turn = is.turn;
    going = refl;
    sends = refl;
    means = means_by new after None file (At (flat_of after is.memory (with_byte_sent (machine_at place).output sent))) c e (record { open_one = closed; machine = refl }) st;
  }

  pub parted_as : (is : IsPart before place after view) → new.ended ≡ None → StandsWith (pages new.pager) file is.next.now.memory → HasParted place new file
  parted_as is e st = record {
    next = is.next;
    turn = is.turn;
    means = means_by new after None file (Within is.next) c e (record { open_one = is.at.open_one; machine = is.at.machine }) st;
  }

  pub ended_as : (x : Ending) (is : IsEnd before place x view) → new.ended ≡ Some x → IsThere after (Some x) (At (ended (gone_back place) x)) → StandsWith (pages new.pager) file (machine_at place).memory → HasEnded place x new file
  ended_as x is e there st = record { turn = is.turn; means = means_by new after (Some x) file (At (ended (gone_back place) x)) c e there st }

-- the memory behind an attempt
module _ (s t : Paging) (w : OnlyWritten s t) (f : IsPaging s) (file : Option BlockFile) (old : List Area) (st : StandsWith s file old) where
  pub memory_after : (u : Paging) (memory : List Area) → u ≡ settled t → StandsFor (view_of t) memory → ((addr : ℕ) → is_listed (page_of addr) s.order ≡ false → byte_at memory addr ≡ byte_at old addr) → StandsWith u file memory
  memory_after u memory same stands absent =
      subst (λ (z : Paging). StandsWith z file memory) (sym same) (stands_settled t file memory (stands_turned s t file old memory w f stands absent st))

  memory_same : view_of t ≡ with_marks (view_of s) (view_of t).marked → StandsWith t file old
  memory_same v = stands_same s t file old w f v st

  pub memory_ended : (u : Paging) → u ≡ settled t → view_of t ≡ with_marks (view_of s) (view_of t).marked → StandsWith u file old
  memory_ended u same v = subst (λ (z : Paging). StandsWith z file old) (sym same) (stands_settled t file old (memory_same v))

  pub memory_missed : (u : Paging) → u ≡ eased_pages t → view_of t ≡ with_marks (view_of s) (view_of t).marked → StandsWith u file old
  memory_missed u same v = subst (λ (z : Paging). StandsWith z file old) (sym same) (stands_eased t file old (memory_same v))

-- by what the attempt came to; `mid` is the machine before the attempt is counted
module _ (s t : Paging) (cpu : Cpu) (mid new : Engine) (result : Applied) (w : OnlyWritten s t) (f : IsPaging s) (going : mid.ended ≡ None) (same : pages mid.pager ≡ t) (file : Option BlockFile) (place : Place) (at : IsAt cpu place) (st : StandsWith s file (machine_at place).memory) where
  pub goes_by : (last : Attempt) → Concludes last mid result new → Attempted (view_of s) place last mid.cpu (view_of t) → IsAsBefore last cpu (view_of s) mid.cpu (view_of t) → IsOpenAfter last cpu.latch mid.cpu.latch → Goes result (λ page. is_listed page s.order) new file place
  goes_by (attempt.Step sent) c a before latch =
      subst (λ (z : Applied). Goes z (λ page. is_listed page s.order) new file place) (sym c.answer) (
        a.0,
        stepped_as (view_of s) (view_of t) place mid.cpu new file c.cpu sent a.1 (c.ended ∙ going) latch
            (memory_after s t w f file (machine_at place).memory st (pages new.pager) a.1.memory (c.pages ∙ ap settled same) a.1.leaves.stands a.1.leaves.absent),
      )
  goes_by attempt.Part c a before latch =
      subst (λ (z : Applied). Goes z (λ page. is_listed page s.order) new file place) (sym c.answer) (
        a.0,
        parted_as (view_of s) (view_of t) place mid.cpu new file c.cpu a.1 (c.ended ∙ going)
            (memory_after s t w f file (machine_at place).memory st (pages new.pager) a.1.next.now.memory (c.pages ∙ ap settled same) a.1.leaves.stands a.1.leaves.absent),
      )
  goes_by (attempt.Absent page) c a before latch =
      subst (λ (z : Applied). Goes z (λ page. is_listed page s.order) new file place) (sym c.answer) (
        a.0,
        means_by new mid.cpu None file place c.cpu (c.ended ∙ going) (there_same cpu mid.cpu None place before.0 latch (record { open_one = at.open_one; machine = at.machine }))
            (memory_missed s t w f file (machine_at place).memory st (pages new.pager) (c.pages ∙ ap eased_pages same) before.1),
      )
  goes_by (attempt.Ended x) c a before latch =
      subst (λ (z : Applied). Goes z (λ page. is_listed page s.order) new file place) (sym c.answer) (
        a.0,
        ended_as (view_of s) (view_of t) place mid.cpu new file c.cpu x a.1 c.ended (there_ended cpu mid.cpu place x at before.0 latch)
            (memory_ended s t w f file (machine_at place).memory st (pages new.pager) (c.pages ∙ ap settled same) before.1),
      )

-- what is kept, by what the attempt came to
pub keeps_by : (last : Attempt) (old new : Engine) (result : Applied) (k : Keeping) → keeping old ≡ k → Concludes last old result new → keeping new ≡ tried result k
keeps_by (attempt.Step sent) old new result k e c =
    subst (λ (z : Applied). keeping new ≡ tried z k) (sym c.answer) (subst (λ (z : Keeping). keeping new ≡ tried (Stepped sent) z) e
    (keeping_by new (tried (Stepped sent) (keeping old)) (areas_settled (pages old.pager) (pages new.pager) c.pages) c.steps c.turns (residence_settled (pages old.pager) (pages new.pager) c.pages) c.wanted c.ended))
keeps_by attempt.Part old new result k e c =
    subst (λ (z : Applied). keeping new ≡ tried z k) (sym c.answer) (subst (λ (z : Keeping). keeping new ≡ tried Parted z) e
    (keeping_by new (tried Parted (keeping old)) (areas_settled (pages old.pager) (pages new.pager) c.pages) c.steps c.turns (residence_settled (pages old.pager) (pages new.pager) c.pages) c.wanted c.ended))
keeps_by (attempt.Absent page) old new result k e c =
    subst (λ (z : Applied). keeping new ≡ tried z k) (sym c.answer) (subst (λ (z : Keeping). keeping new ≡ tried (Absent page) z) e
    (keeping_by new (tried (Absent page) (keeping old)) (areas_eased (pages old.pager) (pages new.pager) c.pages) c.steps c.turns (residence_eased (pages old.pager) (pages new.pager) c.pages) c.wanted c.ended))
keeps_by (attempt.Ended x) old new result k e c =
    subst (λ (z : Applied). keeping new ≡ tried z k) (sym c.answer) (subst (λ (z : Keeping). keeping new ≡ tried (Ended x) z) e
    (keeping_by new (tried (Ended x) (keeping old)) (areas_settled (pages old.pager) (pages new.pager) c.pages) c.steps c.turns (residence_settled (pages old.pager) (pages new.pager) c.pages) c.wanted c.ended))

-- the pages that are modified, by what the attempt came to

pub settled_marks : (s u : Paging) → u ≡ settled s → (view_of u).marked ≡ (view_of s).marked
unfolding settled
settled_marks s u e = ap (λ (z : Paging). (view_of z).marked) e

eased_marks : (s : Paging) → (view_of (eased_pages s)).marked ≡ (view_of s).marked
unfolding eased_pages
eased_marks s = elim (cases_Bool (length s.pinned == 40)) [
  | inl t ↦ rw t (unfold settled in refl)
  | inr f ↦ rw f refl
]

pub concluded_marks : (last : Attempt) (old : Engine) (result : Applied) (new : Engine) → Concludes last old result new → (view_of (pages new.pager)).marked ≡ (view_of (pages old.pager)).marked
concluded_marks (attempt.Step sent) old result new c = settled_marks (pages old.pager) (pages new.pager) c.pages
concluded_marks attempt.Part old result new c = settled_marks (pages old.pager) (pages new.pager) c.pages
concluded_marks (attempt.Absent page) old result new c = ap (λ (z : Paging). (view_of z).marked) c.pages ∙ eased_marks (pages old.pager)
concluded_marks (attempt.Ended x) old result new c = settled_marks (pages old.pager) (pages new.pager) c.pages

pub attempted_marks : (last : Attempt) (before : View) (place : Place) (cpu : Cpu) (after : View) → Attempted before place last cpu after → after.marked ≡ marked_by before.resident before.marked (touches_at place)
attempted_marks (attempt.Step sent) before place cpu after a = a.1.leaves.marks
attempted_marks attempt.Part before place cpu after a = a.1.leaves.marks
attempted_marks (attempt.Absent page) before place cpu after a = a.1
attempted_marks (attempt.Ended x) before place cpu after a = a.1.marks

pub is_try : (last : Attempt) → IsTry (applied_of last)
is_try (attempt.Step sent) = tt
is_try attempt.Part = tt
is_try (attempt.Absent page) = tt
is_try (attempt.Ended x) = tt

-- an attempt of the processor, which is then counted, is one of the machine
pub has_tried : (old : Engine) (p : Pager) (after : Cpu) (new : Engine) (result : Applied) (last : Attempt) → OnlyWritten (pages old.pager) (pages p) → IsPaging (pages old.pager) → old.ended ≡ None → Concludes last (record old { pager = p; cpu = after }) result new → ((place : Place) → IsAt old.cpu place → StandsFor (view_of (pages old.pager)) (machine_at place).memory → Attempted (view_of (pages old.pager)) place last after (view_of (pages p))) → IsAsBefore last old.cpu (view_of (pages old.pager)) after (view_of (pages p)) → IsOpenAfter last old.cpu.latch after.latch → HasTried old result new
has_tried old p after new result last w f going c attempted before latch = record {
  answer = subst IsTry (sym c.answer) (is_try last);
  keeps = keeps_by last (record old { pager = p; cpu = after }) new result (keeping old)
      (keeping_by (record old { pager = p; cpu = after }) (keeping old) w.areas refl refl (residence_same (pages old.pager) (pages p) w) refl refl) c;
  goes = λ file place m.
      let b = begins old file place going f m in
      goes_by (pages old.pager) (pages p) old.cpu (record old { pager = p; cpu = after }) new result w f going refl file place b.0 m.memory last c (attempted place b.0 b.1) before latch;
  marks = λ file place m.
      let b = begins old file place going f m in
      concluded_marks last (record old { pager = p; cpu = after }) result new c ∙ attempted_marks last (view_of (pages old.pager)) place after (view_of (pages p)) (attempted place b.0 b.1);
}

pub tries_running : (e : Option Ending) (old : Engine) (result : Applied) (new : Engine) → e ≡ None → HasTried old result new → Tries e old result new
tries_running e old result new none t = subst (λ (z : Option Ending). Tries z old result new) (sym none) t

pub no_failure : (e : Option Ending) (old : Engine) (result : Applied) (new : Engine) → Tries e old result new → result ≡ Failed → ⊥
no_failure (Some x) old result new t f = let bad : Ended x ≡ Failed = sym t.0 ∙ f in cc
no_failure None old result new t f = subst IsTry f t.answer

pub not_failed : (result : Applied) → (result ≡ Failed → ⊥) → has_failed result ≡ false
not_failed (Stepped sent) other = refl
not_failed Parted other = refl
not_failed (Absent page) other = refl
not_failed (Ended x) other = refl
not_failed (Served v) other = refl
not_failed Evicted other = refl
not_failed Flushed other = refl
not_failed Nothing other = refl
not_failed Failed other = absurd (other refl)

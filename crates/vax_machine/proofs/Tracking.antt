-- The turns of a machine are those of the paged run.
use Rattle.std.proofs.Common.{ℕ, zero, suc, ◌≡◌, ◌+◌, ◌^◌, ◌<◌, ◌≤◌, Bool, true, false, ◌==◌, List, [], ◌∷◌, ◌++◌, refl, ap, sym, ◌∙◌, subst, arith, inl, inr, Option, Some, None}
use Rattle.std.specs.Prelude.{if◌then◌else◌}
use Rattle.std.proofs.lemmas.Bool.{cases_Bool, cases_lt}
use Rattle.vax_outside.specs.Blocks.{BlockFile}
use Rattle.vax_flat.specs.Outcome.{Range, first_missing, marked_by}
use Rattle.vax_flat.specs.Parts.{Partway, Place, At, Within, Completes, Leaves, machine_at, touches_at, turn}
use Rattle.vax_flat.specs.Step.{Flat}
use Rattle.vax_pager.specs.Listing.{is_listed}
use Rattle.vax_pager.specs.Meaning.{pages}
use Rattle.vax_pager.proofs.Listing.{in_without}
use Rattle.vax_machine.specs.Batch.{Advances, Spot, several}
use Rattle.vax_machine.specs.Machine.{Evicts, Keeping, KeepsPlace, keeping, modified_of, residence}
use Rattle.vax_machine.specs.Paged.{Paged, attempted, attempted_by, all_evicted, blocked_if, cleaned, evicted, eviction_of, marked}
use Rattle.vax_machine.specs.Residence.{Residence, is_resident, taken_out, unpinned}
use Rattle.vax_machine.specs.Run.{Tracks}
use Rattle.vax_machine.specs.Touched.{PinsTouched}
use Rattle.vax_machine.specs.Turn.{AreWhole, Still, attempted_times}
use Rattle.vax_machine.specs.declared.engine.Engine.{Engine}
use Rattle.vax_machine.specs.declared.event.Applied.{Applied}
use Rattle.vax_machine.specs.declared.event.Applied.TheVariants.{Evicted, Failed, Nothing}

-- an eviction

pub record IsEvicted (page : ℕ) (p q : Paged) : Type 0 where
  pub residence : q.residence ≡ taken_out page p.residence
  pub steps : q.steps ≡ p.steps
  pub turns : q.turns ≡ p.turns
  pub place : q.place ≡ p.place
  pub parts : q.parts ≡ p.parts
  pub modified : q.modified ≡ cleaned page p.modified
  pub evictions : q.evictions ≡ p.evictions ++ eviction_of (p.turns + 1) page p ∷ []
  pub blocked : q.blocked ≡ blocked_if (p.modified page) page p.blocked
  pub reads : q.reads ≡ p.reads

pub evicted_there : (page : ℕ) (p : Paged) → is_listed page p.residence.order ≡ true → IsEvicted page p (evicted page p)
unfolding evicted
evicted_there page p h = rw h (record { residence = refl; steps = refl; turns = refl; place = refl; parts = refl; modified = refl; evictions = refl; blocked = refl; reads = refl })

pub evicted_away : (page : ℕ) (p : Paged) → is_listed page p.residence.order ≡ false → evicted page p ≡ p
unfolding evicted
evicted_away page p h = rw h refl

with_evicted : (old new : Engine) (before after : Option BlockFile) (p : Paged) (page : ℕ) → is_listed page (pages old.pager).order ≡ true → modified_of new ≡ cleaned page (modified_of old) → (pages new.pager).blocked ≡ blocked_if (modified_of old page) page (pages old.pager).blocked → keeping new ≡ record (keeping old) { residence = taken_out page (residence old) } → KeepsPlace old before new after → Tracks old before p → Tracks new after (evicted page p)
with_evicted old new before after p page b marks blocks e keeps t =
    let x = evicted_there page p (ap (λ (r : Residence). is_listed page r.order) (sym t.residence) ∙ b) in
    record {
      steps = ap (λ (k : Keeping). k.steps) e ∙ t.steps ∙ sym x.steps;
      turns = ap (λ (k : Keeping). k.turns) e ∙ t.turns ∙ sym x.turns;
      residence = ap (λ (k : Keeping). k.residence) e ∙ ap (taken_out page) t.residence ∙ sym x.residence;
      modified = marks ∙ ap (cleaned page) t.modified ∙ sym x.modified;
      blocked =
          blocks
          ∙ (ap (λ (z : ℕ → Bool). blocked_if (z page) page (pages old.pager).blocked) t.modified ∙ (ap (blocked_if (p.modified page) page) t.blocked ∙ sym x.blocked));
      means = rw x.place (keeps p.place t.means);
    }

tracks_same : (old new : Engine) (before after : Option BlockFile) (p : Paged) → modified_of new ≡ modified_of old → (pages new.pager).blocked ≡ (pages old.pager).blocked → keeping new ≡ keeping old → KeepsPlace old before new after → Tracks old before p → Tracks new after p
tracks_same old new before after p marks blocks e keeps t = record {
  steps = ap (λ (k : Keeping). k.steps) e ∙ t.steps;
  turns = ap (λ (k : Keeping). k.turns) e ∙ t.turns;
  residence = ap (λ (k : Keeping). k.residence) e ∙ t.residence;
  modified = marks ∙ t.modified;
  blocked = blocks ∙ t.blocked;
  means = keeps p.place t.means;
}

pub evict_gone : (old new : Engine) (page : ℕ) (b : Bool) → Evicts page b (keeping old) Evicted (keeping new) → (b ≡ true) × (keeping new ≡ record (keeping old) { residence = taken_out page (residence old) })
evict_gone old new page true (inl x) = let bad : Evicted ≡ Failed = x.0 in cc
evict_gone old new page true (inr x) = (refl, x.1)
evict_gone old new page false x = let bad : Evicted ≡ Nothing = x.0 in cc

-- it was resident, and is absent now
pub evict_done : (old new : Engine) (before after : Option BlockFile) (p : Paged) (page : ℕ) → Evicts page (is_listed page (pages old.pager).order) (keeping old) Evicted (keeping new) × KeepsPlace old before new after → modified_of new ≡ cleaned page (modified_of old) → (pages new.pager).blocked ≡ blocked_if (modified_of old page) page (pages old.pager).blocked → Tracks old before p → Tracks new after (evicted page p)
evict_done old new before after p page h marks blocks t =
    let g = evict_gone old new page (is_listed page (pages old.pager).order) h.0 in
    with_evicted old new before after p page g.0 marks blocks g.1 h.1 t

evict_not : (old new : Engine) (page : ℕ) (b : Bool) (result : Applied) → Evicts page b (keeping old) result (keeping new) → (result ≡ Evicted → ⊥) → keeping new ≡ keeping old
evict_not old new page true result (inl x) none = x.1
evict_not old new page true result (inr x) none = absurd (none x.0)
evict_not old new page false result x none = x.1

-- nothing was done
pub evict_none : (old new : Engine) (before after : Option BlockFile) (p : Paged) (page : ℕ) (result : Applied) → Evicts page (is_listed page (pages old.pager).order) (keeping old) result (keeping new) × KeepsPlace old before new after → (result ≡ Evicted → ⊥) → modified_of new ≡ modified_of old → (pages new.pager).blocked ≡ (pages old.pager).blocked → Tracks old before p → Tracks new after p
evict_none old new before after p page result h none marks blocks t =
    tracks_same old new before after p marks blocks (evict_not old new page (is_listed page (pages old.pager).order) result h.0 none) h.1 t

-- what evictions leave, whatever the memory is

still_by : (old new : Engine) (r : Residence) → keeping new ≡ record (keeping old) { residence = r } → Still old new
still_by old new r e = record { turns = ap (λ (k : Keeping). k.turns) e; steps = ap (λ (k : Keeping). k.steps) e; ended = ap (λ (k : Keeping). k.ended) e; areas = ap (λ (k : Keeping). k.areas) e }

pub still_evict : (old new : Engine) (page : ℕ) (b : Bool) (result : Applied) → Evicts page b (keeping old) result (keeping new) → Still old new
still_evict old new page true result (inl x) = still_by old new (residence old) x.1
still_evict old new page true result (inr x) = still_by old new _ x.1
still_evict old new page false result x = still_by old new (residence old) x.1

pub then_still : (a b c : Engine) → Still a b → Still b c → Still a c
then_still a b c x y = record { turns = y.turns ∙ x.turns; steps = y.steps ∙ x.steps; ended = y.ended ∙ x.ended; areas = y.areas ∙ x.areas }

pub still_itself : (m : Engine) → Still m m
still_itself m = record { turns = refl; steps = refl; ended = refl; areas = refl }

-- several evictions

pub evicted_append : (xs ys : List ℕ) (p : Paged) → all_evicted (xs ++ ys) p ≡ all_evicted ys (all_evicted xs p)
unfolding all_evicted
evicted_append [] ys p = refl
evicted_append (x ∷ xs) ys p = evicted_append xs ys (evicted x p)

pub evicted_none : (p : Paged) → all_evicted [] p ≡ p
unfolding all_evicted
evicted_none p = refl

pub evicted_one : (page : ℕ) (p : Paged) → all_evicted (page ∷ []) p ≡ evicted page p
unfolding all_evicted
evicted_one page p = refl

-- evictions keep the place, and pin nothing
pub record OnlyEvicted (p q : Paged) : Type 0 where
  pub place : q.place ≡ p.place
  pub steps : q.steps ≡ p.steps
  pub parts : q.parts ≡ p.parts
  pub turns : q.turns ≡ p.turns
  pub pins : (page : ℕ) → is_listed page q.residence.pinned ≡ true → is_listed page p.residence.pinned ≡ true

listed_out : (page other : ℕ) (xs : List ℕ) (b : Bool) → (other == page) ≡ b → (if b then false else is_listed other xs) ≡ true → is_listed other xs ≡ true
listed_out page other xs true e h = let no : false ≡ true = h in cc
listed_out page other xs false e h = h

pub fewer_pinned : (page : ℕ) (r : Residence) (other : ℕ) → is_listed other (taken_out page r).pinned ≡ true → is_listed other r.pinned ≡ true
unfolding taken_out
fewer_pinned page r other = elim (cases_Bool (is_listed page r.order)) [
  | inl t ↦ rw t (λ h. listed_out page other r.pinned (other == page) refl (sym (in_without other page r.pinned) ∙ h))
  | inr f ↦ rw f (λ h. h)
]

one_evicted : (page : ℕ) (p : Paged) → OnlyEvicted p (evicted page p)
unfolding evicted
one_evicted page p = elim (cases_Bool (is_listed page p.residence.order)) [
  | inl t ↦ rw t (record { place = refl; steps = refl; parts = refl; turns = refl; pins = λ other h. fewer_pinned page p.residence other h })
  | inr f ↦ rw f (record { place = refl; steps = refl; parts = refl; turns = refl; pins = λ other h. h })
]

then_evicted : (p q r : Paged) → OnlyEvicted p q → OnlyEvicted q r → OnlyEvicted p r
then_evicted p q r a b = record { place = b.place ∙ a.place; steps = b.steps ∙ a.steps; parts = b.parts ∙ a.parts; turns = b.turns ∙ a.turns; pins = λ page h. a.pins page (b.pins page h) }

pub many_evicted : (pages : List ℕ) (p : Paged) → OnlyEvicted p (all_evicted pages p)
unfolding all_evicted
many_evicted [] p = record { place = refl; steps = refl; parts = refl; turns = refl; pins = λ page h. h }
many_evicted (page ∷ pages) p = then_evicted p (evicted page p) (all_evicted pages (evicted page p)) (one_evicted page p) (many_evicted pages (evicted page p))

pub pins_evicted : (pages : List ℕ) (p : Paged) → PinsTouched p.residence p.place → PinsTouched (all_evicted pages p).residence (all_evicted pages p).place
pins_evicted pages p h =
    let o = many_evicted pages p in
    rw o.place (record { touched = λ page k. h.touched page (o.pins page k) })

-- an attempt of the paged run

pub attempted_whole : (p : Paged) (next : Flat) → (machine_at p.place).ending ≡ None → first_missing (is_resident p.residence) (touches_at p.place) ≡ None → turn p.place ≡ Completes next → attempted p ≡ record p { place = At next; steps = p.steps + 1; parts = p.parts + 1; turns = p.turns + 1; residence = unpinned p.residence; modified = marked_by (is_resident p.residence) p.modified (touches_at p.place) }
unfolding attempted
attempted_whole p next going m e = rw (going, m, e) refl

pub attempted_part : (p : Paged) (next : Partway) → (machine_at p.place).ending ≡ None → first_missing (is_resident p.residence) (touches_at p.place) ≡ None → turn p.place ≡ Leaves next → attempted p ≡ record p { place = Within next; parts = p.parts + 1; turns = p.turns + 1; residence = unpinned p.residence; modified = marked_by (is_resident p.residence) p.modified (touches_at p.place) }
unfolding attempted
attempted_part p next going m e = rw (going, m, e) refl

pub attempted_miss : (p : Paged) (page : ℕ) → (machine_at p.place).ending ≡ None → first_missing (is_resident p.residence) (touches_at p.place) ≡ Some page → attempted p ≡ attempted_by (Some page) (marked p)
unfolding attempted
attempted_miss p page going m = rw (going, m) refl

-- so many attempts, each of which completes a step at once

abbrev pub dropped : ℕ → Residence → Residence
dropped zero r = r
dropped (suc count) r = unpinned r

pub record IsAdvanced (p : Paged) (count : ℕ) (here : Spot) (q : Paged) : Type 0 where
  pub place : q.place ≡ here.place
  pub modified : q.modified ≡ here.modified
  pub parts : q.parts ≡ p.parts + count
  pub evictions : q.evictions ≡ p.evictions
  pub steps : q.steps ≡ p.steps + count
  pub turns : q.turns ≡ p.turns + count
  pub residence : q.residence ≡ dropped count p.residence
  pub blocked : q.blocked ≡ p.blocked
  pub reads : q.reads ≡ p.reads
  pub going : (machine_at q.place).ending ≡ None

pub dropped_order : (count : ℕ) (r : Residence) → (dropped count r).order ≡ r.order
dropped_order zero r = refl
dropped_order (suc count) r = refl

pub dropped_more : (count : ℕ) (r : Residence) → unpinned (dropped count r) ≡ unpinned r
dropped_more zero r = refl
dropped_more (suc count) r = refl

pub resident_same : (r q : Residence) (ranges : List Range) (m : Option ℕ) → r.order ≡ q.order → first_missing (is_resident r) ranges ≡ m → first_missing (is_resident q) ranges ≡ m
resident_same r q ranges m e h = subst (λ (z : List ℕ). first_missing (λ page. is_listed page z) ranges ≡ m) e h

abbrev pub spot_of : Paged → Spot
spot_of p = record { place = p.place; modified = p.modified }

pub times_advanced : (p : Paged) (count : ℕ) (here : Spot) → (machine_at p.place).ending ≡ None → Advances (is_resident p.residence) count (spot_of p) here → IsAdvanced p count here (attempted_times count p)
unfolding attempted_times Advances
times_advanced p zero here going a = record {
  place = ap (λ (z : Spot). z.place) (sym a);
  modified = ap (λ (z : Spot). z.modified) (sym a);
  parts = omega arith;
  evictions = refl;
  steps = omega arith;
  turns = omega arith;
  residence = refl;
  blocked = refl;
  reads = refl;
  going = going;
}
times_advanced p (suc count) here going a =
    let h = times_advanced p count a.0 going a.2 in
    let q = attempted_times count p in
    let order : p.residence.order ≡ q.residence.order = sym (ap (λ (z : Residence). z.order) h.residence ∙ dropped_order count p.residence) in
    let missing : first_missing (is_resident q.residence) (touches_at q.place) ≡ None =
    rw h.place (resident_same p.residence q.residence (touches_at a.0.place) None order a.3) in
    let e = attempted_whole q a.1 h.going missing (ap turn h.place ∙ a.4) in
    let s = h.steps in
    let t = h.turns in
    let n = h.parts in
    let marks : marked_by (is_resident q.residence) q.modified (touches_at q.place) ≡ marked_by (is_resident p.residence) a.0.modified (touches_at a.0.place) =
    ap (λ (z : Place). marked_by (is_resident q.residence) q.modified (touches_at z)) h.place
    ∙ (ap (λ (z : ℕ → Bool). marked_by (is_resident q.residence) z (touches_at a.0.place)) h.modified
    ∙ ap (λ (z : List ℕ). marked_by (λ page. is_listed page z) a.0.modified (touches_at a.0.place)) (sym order)) in
    record {
      place = ap (λ (z : Paged). z.place) e ∙ ap (λ (z : Spot). z.place) (sym a.6);
      modified = ap (λ (z : Paged). z.modified) e ∙ (marks ∙ ap (λ (z : Spot). z.modified) (sym a.6));
      parts = ap (λ (z : Paged). z.parts) e ∙ omega (arith, n);
      evictions = ap (λ (z : Paged). z.evictions) e ∙ h.evictions;
      steps = ap (λ (z : Paged). z.steps) e ∙ omega (arith, s);
      turns = ap (λ (z : Paged). z.turns) e ∙ omega (arith, t);
      residence = ap (λ (z : Paged). z.residence) e ∙ (ap unpinned h.residence ∙ dropped_more count p.residence);
      blocked = ap (λ (z : Paged). z.blocked) e ∙ h.blocked;
      reads = ap (λ (z : Paged). z.reads) e ∙ h.reads;
      going = ap (λ (z : Paged). (machine_at z.place).ending) e ∙ a.5;
    }

-- the fronts of such a list of attempts
pub advances_front : (resident : ℕ → Bool) (count : ℕ) (from to : Spot) (n : ℕ) → n ≤ count → Advances resident count from to → (mid : Spot) × Advances resident n from mid
unfolding Advances
advances_front resident zero from to zero low a = (from, refl)
advances_front resident zero from to (suc n) low a = absurd (omega (arith, low))
advances_front resident (suc count) from to n low a = elim (cases_lt n (suc count)) [
  | inl less ↦ advances_front resident count from a.0 n (omega (arith, less)) a.2
  | inr more ↦ let e : n ≡ suc count = omega (arith, low, more) in subst (λ (z : ℕ). (mid : Spot) × Advances resident z from mid) (sym e) (to, a)
]

pub are_whole : (p : Paged) (count : ℕ) (here : Spot) → (machine_at p.place).ending ≡ None → Advances (is_resident p.residence) count (spot_of p) here → AreWhole p count
are_whole p count here going a = record {
  going = λ i low. (times_advanced p i _ going (advances_front (is_resident p.residence) count (spot_of p) here i low a).1).going;
  steps = λ i low. (times_advanced p i _ going (advances_front (is_resident p.residence) count (spot_of p) here i low a).1).steps;
  turns = λ i low. (times_advanced p i _ going (advances_front (is_resident p.residence) count (spot_of p) here i low a).1).turns;
}

-- what a machine keeps behind so many

pub record IsSeveral (count : ℕ) (k m : Keeping) : Type 0 where
  pub steps : m.steps ≡ k.steps + count
  pub turns : m.turns ≡ k.turns + count
  pub residence : m.residence ≡ dropped count k.residence
  pub areas : m.areas ≡ k.areas
  pub ended : m.ended ≡ k.ended

pub several_are : (count : ℕ) (k : Keeping) → k.steps + count < 2 ^ 64 → k.turns + count < 2 ^ 64 → IsSeveral count k (several count k)
unfolding several
several_are zero k a b = record { steps = omega arith; turns = omega arith; residence = refl; areas = refl; ended = refl }
several_are (suc count) k a b =
    let h = several_are count k (omega (arith, a)) (omega (arith, b)) in
    let s = h.steps in
    let t = h.turns in
    record {
      steps = omega (arith, a, s);
      turns = omega (arith, b, t);
      residence = ap unpinned h.residence ∙ dropped_more count k.residence;
      areas = h.areas;
      ended = h.ended;
    }

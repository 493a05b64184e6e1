-- What a service, an eviction and a flush make of a machine.
use Rattle.std.proofs.Common.{ℕ, ◌≡◌, ◌+◌, ◌<◌, ◌≤◌, ◌==◌, Bool, true, false, List, [], ◌∷◌, ◌++◌, length, length-append, if◌then◌else◌, refl, ap, sym, ◌∙◌, subst, arith, inl, inr, Option, Some, None}
use Rattle.std.specs.Prelude.{◌||◌, nat_lt, is_some}
use Rattle.std.proofs.lemmas.Bool.Decides.{nat_tests}
use Rattle.std.proofs.lemmas.Bool.{cases_Bool, eq-eqb}
use Rattle.vax_space.specs.declared.Area.{Area}
use Rattle.vax_space.specs.Areas.{area_of}
use Rattle.vax_outside.specs.Blocks.{BlockFile}
use Rattle.vax_flat.specs.Parts.{machine_at}
use Rattle.vax_pager.specs.Calls.{IsLeft, IsPaging, Source, Back, Empty, OfKept, OfVictim, Nowhere, after_flush, after_evict, begun, came, reads_page, source, taken_from, takes_modified, victim_of, wrote_back}
use Rattle.vax_pager.specs.Listing.{is_listed, leave_out, first, first_outside, AreOnce}
use Rattle.vax_pager.specs.Meaning.{pages}
use Rattle.vax_pager.specs.Paging.{Paging, Keeps}
use Rattle.vax_pager.specs.Steps.{brought, flushed, forgotten, released, removed, taken_back}
use Rattle.vax_pager.specs.declared.pager.Pager.{Pager}
use Rattle.vax_machine.proofs.Lists.{out-length, some_outside, still_out}
use Rattle.vax_machine.specs.Machine.{AreSound, Keeping, keeping, Evicts, Flushes, Serves, KeepsPlace}
use Rattle.vax_machine.specs.Residence.{Residence, kept_after, residence_of, victim, without_first, without_victim, served, taken_out}
use Rattle.vax_machine.specs.declared.engine.Engine.{Engine}
use Rattle.vax_machine.specs.declared.event.Applied.{Applied}

or_true : (b : Bool) → (b || true) ≡ true
or_true true = refl
or_true false = refl

lt_true : (a b : ℕ) → a < b → nat_lt a b ≡ true
lt_true a b h = grind (arith, nat_tests)

lt_false : (a b : ℕ) → b ≤ a → nat_lt a b ≡ false
lt_false a b h = grind (arith, nat_tests)

lt_is : (a b : ℕ) → nat_lt a b ≡ true → a < b
lt_is a b h = grind (arith, nat_tests)

lt_not : (a b : ℕ) → nat_lt a b ≡ false → b ≤ a
lt_not a b h = grind (arith, nat_tests)

-- a flush

residence_flush : (page : ℕ) (s : Paging) → residence_of (after_flush page s) ≡ residence_of s
unfolding after_flush flushed
residence_flush page s = elim (cases_Bool (is_listed page s.modified)) [ inl t ↦ rw t refl | inr f ↦ rw f refl ]

areas_flush : (page : ℕ) (s : Paging) → (after_flush page s).areas ≡ s.areas
unfolding after_flush flushed
areas_flush page s = elim (cases_Bool (is_listed page s.modified)) [ inl t ↦ rw t refl | inr f ↦ rw f refl ]

-- a service: the residence that it leaves, the page that it answers, and the areas
pub record IsService (page : ℕ) (s t : Paging) (v : Option ℕ) : Type 0 where
  pub residence : residence_of t ≡ served page (residence_of s)
  pub answer : v ≡ victim (residence_of s)
  pub areas : t.areas ≡ s.areas

room : (s : Paging) → length s.order < s.frames → victim (residence_of s) ≡ None
unfolding victim
room s h = rw (lt_true (length s.order) s.frames h) refl

full : (s : Paging) → s.frames ≤ length s.order → victim (residence_of s) ≡ first_outside s.pinned s.order
unfolding victim
full s h = rw (lt_false (length s.order) s.frames h) refl

-- which pages keep a frame

kept_back : (page : ℕ) (s : Paging) → is_listed page s.kept ≡ true → kept_after page (residence_of s) ≡ leave_out page s.kept
unfolding kept_after
kept_back page s e = rw e refl

kept_room : (page : ℕ) (s : Paging) → is_listed page s.kept ≡ false → nat_lt (length s.order + length s.kept) s.frames ≡ true → kept_after page (residence_of s) ≡ s.kept
unfolding kept_after
kept_room page s away some = rw (away, some) refl

kept_full : (page : ℕ) (s : Paging) → is_listed page s.kept ≡ false → nat_lt (length s.order + length s.kept) s.frames ≡ false → kept_after page (residence_of s) ≡ without_first s.kept
unfolding kept_after
kept_full page s away none = rw (away, none) refl

with_room : (page : ℕ) (s t : Paging) (kept : List ℕ) → kept_after page (residence_of s) ≡ kept → length s.order < s.frames → residence_of t ≡ record { frames = s.frames; order = s.order ++ page ∷ []; pinned = s.pinned ++ page ∷ []; kept = kept; spoiled = s.numbers.spoiled } → t.areas ≡ s.areas → IsService page s t None
unfolding served
with_room page s t kept k h e a = record { residence = rw (room s h, k) e; answer = sym (room s h); areas = a }

victim_came : (page other : ℕ) (bytes : List ℕ) (s : Paging) → (residence_of (brought page bytes (removed other (after_flush other s))) ≡ record { frames = s.frames; order = leave_out other s.order ++ page ∷ []; pinned = s.pinned ++ page ∷ []; kept = s.kept; spoiled = s.numbers.spoiled }) × ((brought page bytes (removed other (after_flush other s))).areas ≡ s.areas)
unfolding brought removed
victim_came page other bytes s =
    let r = residence_flush other s in
    (rw (ap (λ (z : Residence). z.order) r, ap (λ (z : Residence). z.pinned) r, ap (λ (z : Residence). z.kept) r, ap (λ (z : Residence). z.frames) r, ap (λ (z : Residence). z.spoiled) r) refl, areas_flush other s)

forgotten_came : (page other : ℕ) (bytes : List ℕ) (s : Paging) → (residence_of (brought page bytes (forgotten other s)) ≡ record { frames = s.frames; order = s.order ++ page ∷ []; pinned = s.pinned ++ page ∷ []; kept = leave_out other s.kept; spoiled = s.numbers.spoiled }) × ((brought page bytes (forgotten other s)).areas ≡ s.areas)
unfolding brought forgotten
forgotten_came page other bytes s = (refl, refl)

served_victim : (page other : ℕ) (s : Paging) → victim (residence_of s) ≡ Some other → kept_after page (residence_of s) ≡ s.kept → served page (residence_of s) ≡ record { frames = s.frames; order = leave_out other s.order ++ page ∷ []; pinned = s.pinned ++ page ∷ []; kept = s.kept; spoiled = s.numbers.spoiled }
unfolding served
served_victim page other s e k = rw (e, k) refl

by_kept : (page : ℕ) (bytes : List ℕ) (s : Paging) (kept : List ℕ) (v : Option ℕ) → s.kept ≡ kept → length s.order + length s.kept ≤ s.frames → s.frames ≤ length s.order + length s.kept → first_outside s.pinned s.order ≡ v → AreOnce s.order → length s.pinned < s.frames → kept_after page (residence_of s) ≡ without_first s.kept → IsService page s (came (taken_from (first kept) v) page bytes s) (victim_of (taken_from (first kept) v))
by_kept page bytes s (other ∷ others) v e h g i once few left =
    let n : 1 ≤ length s.kept = rw e (omega arith) in
    let k = forgotten_came page other bytes s in
    let out : kept_after page (residence_of s) ≡ leave_out other s.kept = left ∙ (ap (λ (z : List ℕ). without_first z) e ∙ ap (leave_out other) (sym e)) in
    with_room page s (brought page bytes (forgotten other s)) (leave_out other s.kept) out (omega (arith, n)) k.0 k.1
by_kept page bytes s [] (Some other) e h g i once few left =
    let n : length s.kept ≡ 0 = ap (length {A = ℕ}) e in
    let f : victim (residence_of s) ≡ Some other = full s (omega (arith, n)) ∙ i in
    let k = victim_came page other bytes s in
    let none : kept_after page (residence_of s) ≡ s.kept = left ∙ (ap (λ (z : List ℕ). without_first z) e ∙ sym e) in
    record { residence = k.0 ∙ sym (served_victim page other s f none); answer = sym f; areas = k.1 }
by_kept page bytes s [] None e h g i once few left =
    let n : length s.kept ≡ 0 = ap (length {A = ℕ}) e in
    absurd (some_outside s.pinned s.order once (omega (arith, n)) i)

by_room : (page : ℕ) (bytes : List ℕ) (s : Paging) (b : Bool) → nat_lt (length s.order + length s.kept) s.frames ≡ b → is_listed page s.kept ≡ false → IsPaging s → length s.pinned < s.frames → IsService page s (came (if b then Empty else taken_from (first s.kept) (first_outside s.pinned s.order)) page bytes s) (victim_of (if b then Empty else taken_from (first s.kept) (first_outside s.pinned s.order)))
by_room page bytes s true e away f few =
    let h = lt_is _ _ e in
    with_room page s _ s.kept (kept_room page s away e) (omega (arith, h)) (unfold brought in refl) (unfold brought in refl)
by_room page bytes s false e away f few =
    by_kept page bytes s s.kept (first_outside s.pinned s.order) refl f.held (lt_not _ _ e) refl f.once few (kept_full page s away e)

some_kept : (page : ℕ) (kept : List ℕ) → is_listed page kept ≡ true → 1 ≤ length kept
unfolding is_listed
some_kept page [] h = cc
some_kept page (x ∷ xs) h = omega arith

by_back : (page : ℕ) (bytes : List ℕ) (s : Paging) (b : Bool) → is_listed page s.kept ≡ b → IsPaging s → length s.pinned < s.frames → IsService page s (came (if b then Back else if nat_lt (length s.order + length s.kept) s.frames then Empty else taken_from (first s.kept) (first_outside s.pinned s.order)) page bytes s) (victim_of (if b then Back else if nat_lt (length s.order + length s.kept) s.frames then Empty else taken_from (first s.kept) (first_outside s.pinned s.order)))
by_back page bytes s true e f few =
    let k = some_kept page s.kept e in
    let h = f.held in
    with_room page s _ (leave_out page s.kept) (kept_back page s e) (omega (arith, k, h)) (unfold taken_back in refl) (unfold taken_back in refl)
by_back page bytes s false e f few = by_room page bytes s (nat_lt (length s.order + length s.kept) s.frames) refl e f few

pub is_service : (page : ℕ) (bytes : List ℕ) (s : Paging) → IsPaging s → length s.pinned < s.frames → IsService page s (came (source page s) page bytes s) (victim_of (source page s))
unfolding source
is_service page bytes s f few = by_back page bytes s (is_listed page s.kept) refl f few

-- whether the page is read

reads_taken : (page : ℕ) (s : Paging) (kept : List ℕ) (v : Option ℕ) → s.kept ≡ kept → s.frames ≤ length s.order + length s.kept → first_outside s.pinned s.order ≡ v → AreOnce s.order → length s.pinned < s.frames → reads_page (taken_from (first kept) v) page s ≡ s.blocked page
reads_taken page s (other ∷ others) v e g i once few = refl
reads_taken page s [] (Some other) e g i once few = refl
reads_taken page s [] None e g i once few =
    let n : length s.kept ≡ 0 = ap (length {A = ℕ}) e in
    absurd (some_outside s.pinned s.order once (omega (arith, n)) i)

reads_room : (page : ℕ) (s : Paging) (b : Bool) → nat_lt (length s.order + length s.kept) s.frames ≡ b → IsPaging s → length s.pinned < s.frames → reads_page (if b then Empty else taken_from (first s.kept) (first_outside s.pinned s.order)) page s ≡ s.blocked page
reads_room page s true e f few = refl
reads_room page s false e f few = reads_taken page s s.kept (first_outside s.pinned s.order) refl (lt_not _ _ e) refl f.once few

pub source_reads : (page : ℕ) (s : Paging) → IsPaging s → length s.pinned < s.frames → reads_page (source page s) page s ≡ (if is_listed page s.kept then false else s.blocked page)
unfolding source
source_reads page s f few = elim (cases_Bool (is_listed page s.kept)) [
  | inl t ↦ rw t refl
  | inr o ↦ rw o (reads_room page s (nat_lt (length s.order + length s.kept) s.frames) refl f few)
]

-- the page that makes room is modified
pub taken_modified : (from : Source) (s : Paging) → takes_modified from s ≡ true → (v : ℕ) × (victim_of from ≡ Some v) × (is_listed v s.modified ≡ true)
taken_modified Back s h = let no : false ≡ true = h in cc
taken_modified Empty s h = let no : false ≡ true = h in cc
taken_modified (OfKept old) s h = let no : false ≡ true = h in cc
taken_modified (OfVictim v) s h = (v, refl, h)
taken_modified Nowhere s h = let no : false ≡ true = h in cc

pub few_pins : (areas : List Area) (s : Paging) (want : Option ℕ) (page : ℕ) → want ≡ Some page → AreSound areas (residence_of s) want → length s.pinned < s.frames
few_pins areas s want page e h =
    let w = (h.wanted page e).2 in
    let f = h.frames in
    omega (arith, w, f)

pub residence_after : (s t : Paging) (page : ℕ) (bytes : List ℕ) → t ≡ came (source page s) page bytes s → IsPaging s → length s.pinned < s.frames → residence_of t ≡ served page (residence_of s)
residence_after s t page bytes e f few = ap residence_of e ∙ (is_service page bytes s f few).residence

pub areas_after : (s t : Paging) (page : ℕ) (bytes : List ℕ) → t ≡ came (source page s) page bytes s → IsPaging s → length s.pinned < s.frames → t.areas ≡ s.areas
areas_after s t page bytes e f few = ap (λ (z : Paging). z.areas) e ∙ (is_service page bytes s f few).areas

victim_frames : (v : Option ℕ) (r : Residence) → ((without_victim v r).frames ≡ r.frames) × ((without_victim v r).pinned ≡ r.pinned)
victim_frames None r = (refl, refl)
victim_frames (Some page) r = (refl, refl)

sound_served : (areas : List Area) (r : Residence) (page : ℕ) → AreSound areas r (Some page) → AreSound areas (served page r) None
unfolding served
sound_served areas r page h =
    let k = victim_frames (victim r) r in
    let few = (h.wanted page refl).2 in
    record {
      pins = rw (length-append (without_victim (victim r) r).pinned (page ∷ []), k.1) (omega (arith, few));
      frames = rw k.0 h.frames;
      wanted = λ other no. cc;
    }

pub sound_after : (s t : Paging) (page : ℕ) (bytes : List ℕ) (want : Option ℕ) → want ≡ Some page → t ≡ came (source page s) page bytes s → IsPaging s → AreSound s.areas (residence_of s) want → AreSound t.areas (residence_of t) None
sound_after s t page bytes want w e f h =
    let k = is_service page bytes s f (few_pins s.areas s want page w h) in
    let sound : AreSound s.areas (residence_of s) (Some page) = subst (λ (z : Option ℕ). AreSound s.areas (residence_of s) z) w h in
    rw (e, k.residence, k.areas) (sound_served s.areas (residence_of s) page sound)

-- the page that made room was resident

first_listed : (others xs : List ℕ) (page : ℕ) → first_outside others xs ≡ Some page → is_listed page xs ≡ true
unfolding first_outside is_listed
first_listed others [] page e = cc
first_listed others (x ∷ xs) page e = elim (cases_Bool (is_listed x others)) [
  | inl t ↦ let k = first_listed others xs page (rw t at e) in rw k (or_true (x == page))
  | inr f ↦ let k : Some x ≡ Some page = rw f at e in let q : x ≡ page = cc in rw (eq-eqb x page q) refl
]

pub victim_listed : (r : Residence) (page : ℕ) → victim r ≡ Some page → is_listed page r.order ≡ true
unfolding victim
victim_listed r page e = elim (cases_Bool (nat_lt (length r.order) r.frames)) [
  | inl t ↦ let no_page : None ≡ Some page = rw t at e in cc
  | inr f ↦ first_listed r.pinned r.order page (rw f at e)
]

pub victim_inside : (s t : Paging) (page other : ℕ) (bytes : List ℕ) (v : Option ℕ) → t ≡ came (source page s) page bytes s → v ≡ victim_of (source page s) → v ≡ Some other → IsPaging s → length s.pinned < s.frames → is_some (area_of t.areas other) ≡ true
victim_inside s t page other bytes v e is some f few =
    let k = is_service page bytes s f few in
    let listed = victim_listed (residence_of s) other (sym k.answer ∙ (sym is ∙ some)) in
    subst (λ (z : List Area). is_some (area_of z other) ≡ true) (sym (ap (λ (z : Paging). z.areas) e ∙ k.areas)) (f.inside other listed)

-- a service that failed

pub begun_same : (s : Paging) (from : Source) → (residence_of (begun from s) ≡ residence_of s) × ((begun from s).areas ≡ s.areas)
begun_same s Back = (refl, refl)
begun_same s Empty = (refl, refl)
begun_same s (OfKept page) = (refl, refl)
begun_same s (OfVictim page) = (residence_flush page s, areas_flush page s)
begun_same s Nowhere = (refl, refl)

pub failed_same : (s t : Paging) (from : Source) (page : ℕ) (before after : Option BlockFile) → IsLeft from page s before t after → (residence_of t ≡ residence_of s) × (t.areas ≡ s.areas)
failed_same s t from page before after (inl e) = (ap residence_of e.1, ap (λ (z : Paging). z.areas) e.1)
failed_same s t from page before after (inr e) = let k = begun_same s from in (ap residence_of e.1 ∙ k.0, ap (λ (z : Paging). z.areas) e.1 ∙ k.1)

-- an eviction

evict_same : (page : ℕ) (s : Paging) → (residence_of (after_evict page s) ≡ taken_out page (residence_of s)) × ((after_evict page s).areas ≡ s.areas)
unfolding after_evict taken_out released
evict_same page s =
    let r = residence_flush page s in
    elim (cases_Bool (is_listed page s.order)) [
      | inl t ↦ rw t (rw (ap (λ (z : Residence). z.order) r, ap (λ (z : Residence). z.pinned) r, ap (λ (z : Residence). z.kept) r, ap (λ (z : Residence). z.frames) r, ap (λ (z : Residence). z.spoiled) r) refl, areas_flush page s)
      | inr f ↦ rw f (refl, refl)
    ]

pub residence_evicted : (s t : Paging) (page : ℕ) → t ≡ after_evict page s → residence_of t ≡ taken_out page (residence_of s)
residence_evicted s t page e = ap residence_of e ∙ (evict_same page s).0

pub areas_evicted : (s t : Paging) (page : ℕ) → t ≡ after_evict page s → t.areas ≡ s.areas
areas_evicted s t page e = ap (λ (z : Paging). z.areas) e ∙ (evict_same page s).1

pub not_there : (page : ℕ) (r : Residence) → is_listed page r.order ≡ false → taken_out page r ≡ r
unfolding taken_out
not_there page r h = rw h refl

sound_taken : (areas : List Area) (r : Residence) (page : ℕ) (want : Option ℕ) → AreSound areas r want → AreSound areas (taken_out page r) want
unfolding taken_out
sound_taken areas r page want h = elim (cases_Bool (is_listed page r.order)) [
  | inl t ↦ rw t (record {
    pins = let e = out-length page r.pinned in let f = h.pins in omega (arith, e, f);
    frames = h.frames;
    wanted = λ other is.
        let k = h.wanted other is in
        let e = out-length page r.pinned in
        (k.0, still_out other page r.order k.1, omega (arith, e, k.2));
  })
  | inr f ↦ rw f h
]

pub sound_evicted : (s t : Paging) (page : ℕ) (want : Option ℕ) → t ≡ after_evict page s → AreSound s.areas (residence_of s) want → AreSound t.areas (residence_of t) want
sound_evicted s t page want e h =
    let k = evict_same page s in
    rw (e, k.0, k.1) (sound_taken s.areas (residence_of s) page want h)

pub sound_same : (s t : Paging) (want : Option ℕ) → (residence_of t ≡ residence_of s) × (t.areas ≡ s.areas) → AreSound s.areas (residence_of s) want → AreSound t.areas (residence_of t) want
sound_same s t want e h = rw (e.0, e.1) h

pub residence_flushed : (s t : Paging) (page : ℕ) → t ≡ after_flush page s → (residence_of t ≡ residence_of s) × (t.areas ≡ s.areas)
residence_flushed s t page e = (ap residence_of e ∙ residence_flush page s, ap (λ (z : Paging). z.areas) e ∙ areas_flush page s)

-- the case of a definition

pub evicts_as : (page : ℕ) (b x : Bool) (old : Keeping) (result : Applied) (new : Keeping) → b ≡ x → Evicts page x old result new → Evicts page b old result new
evicts_as page b x old result new e h = subst (λ (z : Bool). Evicts page z old result new) (sym e) h

pub flushes_as : (b x : Bool) (old : Keeping) (result : Applied) (new : Keeping) → b ≡ x → Flushes x old result new → Flushes b old result new
flushes_as b x old result new e h = subst (λ (z : Bool). Flushes z old result new) (sym e) h

pub serves_as : (want x : Option ℕ) (old : Keeping) (result : Applied) (new : Keeping) → want ≡ x → Serves x old result new → Serves want old result new
serves_as want x old result new e h = subst (λ (z : Option ℕ). Serves z old result new) (sym e) h

pub keeps_place : (old : Engine) (p : Pager) (want : Option ℕ) (before after : Option BlockFile) → Keeps (pages old.pager) before (pages p) after → KeepsPlace old before (record { pager = p; cpu = old.cpu; wanted = want; ended = old.ended; steps = old.steps; turns = old.turns }) after
keeps_place old p want before after keeps = λ place m. record { processor = m.processor; memory = keeps (machine_at place).memory m.memory }

outside_step : (modified resident inside : Bool) → (modified ≡ true → resident ≡ true) → (resident ≡ true → inside ≡ true) → inside ≡ false → modified ≡ false
outside_step false resident inside d i e = refl
outside_step true resident inside d i e = let no : false ≡ true = sym e ∙ i (d refl) in cc

-- a page in no area is neither resident nor modified
pub outside_clean : (page : ℕ) (s : Paging) → IsPaging s → is_some (area_of s.areas page) ≡ false → is_listed page s.modified ≡ false
outside_clean page s f e = outside_step (is_listed page s.modified) (is_listed page s.order) (is_some (area_of s.areas page)) (f.dirty page) (f.inside page) e

away_step : (resident inside : Bool) → (resident ≡ true → inside ≡ true) → inside ≡ false → resident ≡ false
away_step false inside i e = refl
away_step true inside i e = let no : false ≡ true = sym e ∙ i refl in cc

pub outside_absent : (page : ℕ) (s : Paging) → IsPaging s → is_some (area_of s.areas page) ≡ false → is_listed page s.order ≡ false
outside_absent page s f e = away_step (is_listed page s.order) (is_some (area_of s.areas page)) (f.inside page) e

pub keeping_same : (old : Engine) (p : Pager) → (residence_of (pages p) ≡ residence_of (pages old.pager)) × ((pages p).areas ≡ (pages old.pager).areas) → keeping (record { pager = p; cpu = old.cpu; wanted = old.wanted; ended = old.ended; steps = old.steps; turns = old.turns }) ≡ keeping old
keeping_same old p e =
    ap (λ (a : List Area). record { areas = a; steps = old.steps; turns = old.turns; residence = residence_of (pages p); wanted = old.wanted; ended = old.ended }) e.1
    ∙ ap (λ (r : Residence). record { areas = (pages old.pager).areas; steps = old.steps; turns = old.turns; residence = r; wanted = old.wanted; ended = old.ended }) e.0

-- where a page isn't modified, or isn't resident, nothing is written

pub wrote_clean : (page : ℕ) (s : Paging) (file : Option BlockFile) → is_listed page s.modified ≡ false → wrote_back page s file ≡ file
unfolding wrote_back
wrote_clean page s file e = rw e refl

pub flushed_nothing : (page : ℕ) (s : Paging) → is_listed page s.modified ≡ false → after_flush page s ≡ s
unfolding after_flush
flushed_nothing page s e = rw e refl

pub evicted_nothing : (page : ℕ) (s : Paging) → is_listed page s.order ≡ false → after_evict page s ≡ s
unfolding after_evict
evicted_nothing page s e = rw e refl

pub wrote_nothing_of : (page : ℕ) (s : Paging) (file : Option BlockFile) → IsPaging s → is_listed page s.order ≡ false → wrote_back page s file ≡ file
wrote_nothing_of page s file f e = wrote_clean page s file (elim (cases_Bool (is_listed page s.modified)) [
  | inl t ↦ let bad : false ≡ true = sym e ∙ f.dirty page t in cc
  | inr o ↦ o
])

-- A page to which no attempt has written has the bytes that were last written of it, or those at the start.
use Rattle.std.proofs.Common.{ℕ, zero, suc, ◌≡◌, ◌≢◌, ◌+◌, ◌-◌, ◌*◌, ◌/◌, ◌%◌, ◌^◌, ◌<◌, ◌==◌, Bool, true, false, List, [], ◌∷◌, ◌++◌, length, if◌then◌else◌, refl, ap, sym, ◌∙◌, arith, inl, inr, Option, Some, None}
use Rattle.std.specs.Prelude.{◌&&◌, ◌||◌}
use Rattle.std.proofs.lemmas.Bool.{cases_Bool, cases_eq, eq-eqb, ne_eqb}
use Rattle.std.proofs.lemmas.List.{get_or-set_other}
use Rattle.vax_space.specs.declared.Access.TheVariants.{Read, Write}
use Rattle.vax_space.specs.declared.Area.{Area}
use Rattle.vax_space.specs.declared.Violation.{Violation}
use Rattle.vax_space.specs.Areas.{has_page}
use Rattle.vax_space.specs.Reference.{byte_after, page_of, violation}
use Rattle.vax_space.proofs.References.{after_more}
use Rattle.vax_flat.specs.declared.Ending.{Ending}
use Rattle.vax_flat.specs.declared.Flow.TheVariants as flow
use Rattle.vax_flat.specs.Accesses.{Accesses, Done, Raises, Checks, Asks, Reads, Writes, ReadsRun, WritesRun, Leaf, Went, Found}
use Rattle.vax_flat.specs.Memory.{after, byte_at, bytes_from, number, with_byte, written, written_run}
use Rattle.vax_flat.specs.Outcome.{Outcome, Ends, Raised, Range, first_missing, is_allowed, marked_after, marked_by, or_else, outcome_of, touches_of, unless_absent, unless_stopped, unless_violated}
use Rattle.vax_flat.specs.Parts.{Place, gone_back, machine_at, outcome_at, touches_at, tree_at, turn, turn_from, units_done}
use Rattle.vax_flat.specs.Port.{first_absent, is_in}
use Rattle.vax_flat.specs.Step.{Flat, after_delivery, concluded, state_of, touches_after, whole_delivery}
use Rattle.vax_flat.proofs.Memory.{place_within}
use Rattle.vax_pager.specs.Listing.{is_listed}
use Rattle.vax_sched.specs.declared.rule.Target.{Target}
use Rattle.vax_machine.specs.Blocks.{last_written, or_bytes}
use Rattle.vax_machine.specs.Laws.{IsAsWritten, Run, state_at}
use Rattle.vax_machine.specs.Paged.{Eviction, Paged, all_evicted, all_named, attempted, attempted_by, cleaned, cleaned_of, evicted, eviction_of, evictions_of, fresh, marked, page_bytes, paged, place_after, some_if, unless_ended}
use Rattle.vax_machine.specs.Residence.{is_resident, victim}

-- one of the ranges writes a byte of the page
is_written : ℕ → List Range → Bool
is_written page [] = false
is_written page (range ∷ ranges) = (range.writes && is_in range.addr range.len page) || is_written page ranges

neither : (a b : Bool) → (a || b) ≡ false → (a ≡ false) × (b ≡ false)
neither true b h = cc
neither false b h = (refl, h)

written_parts : (page : ℕ) (xs ys : List Range) → is_written page (xs ++ ys) ≡ false → (is_written page xs ≡ false) × (is_written page ys ≡ false)
unfolding is_written
written_parts page [] ys h = (refl, h)
written_parts page (x ∷ xs) ys h =
    let k = neither (x.writes && is_in x.addr x.len page) (is_written page (xs ++ ys)) h in
    let r = written_parts page xs ys k.1 in
    (rw k.0 r.0, r.1)

-- the marks that are left are those before, where none of the ranges writes to the page

after_false : (b m i : Bool) → (if b then (m || i) else m) ≡ false → (m ≡ false) × ((b && i) ≡ false)
after_false true m i h = neither m i h
after_false false m i h = (h, refl)

unmarked_after : (modified : ℕ → Bool) (range : Range) (page : ℕ) (b : Bool) → range.writes ≡ b → marked_after modified range page ≡ false → (modified page ≡ false) × ((range.writes && is_in range.addr range.len page) ≡ false)
unmarked_after modified range page true e h = let k = neither (modified page) (is_in range.addr range.len page) (rw e at h) in (k.0, rw e k.1)
unmarked_after modified range page false e h = (rw e at h, rw e refl)

unmarked_step : (resident modified : ℕ → Bool) (range : Range) (ranges : List Range) (page : ℕ) (here : Option ℕ) → or_else here (first_missing resident ranges) ≡ None → unless_absent here modified (marked_by resident (marked_after modified range) ranges) page ≡ false → (first_missing resident ranges ≡ None → marked_by resident (marked_after modified range) ranges page ≡ false → (marked_after modified range page ≡ false) × (is_written page ranges ≡ false)) → (modified page ≡ false) × (((range.writes && is_in range.addr range.len page) || is_written page ranges) ≡ false)
unmarked_step resident modified range ranges page (Some q) e h more = cc
unmarked_step resident modified range ranges page None e h more =
    let k = more e h in
    let a = unmarked_after modified range page range.writes refl k.0 in
    (a.0, rw a.1 k.1)

unmarked : (resident modified : ℕ → Bool) (ranges : List Range) (page : ℕ) → first_missing resident ranges ≡ None → marked_by resident modified ranges page ≡ false → (modified page ≡ false) × (is_written page ranges ≡ false)
unfolding marked_by first_missing is_written
unmarked resident modified [] page e h = (h, refl)
unmarked resident modified (range ∷ ranges) page e h =
    unmarked_step resident modified range ranges page (first_absent resident range.addr range.len) e h (λ r k. unmarked resident (marked_after modified range) ranges page r k)

-- also where a page is missed the marks before stay

fewer_step : (resident modified : ℕ → Bool) (range : Range) (ranges : List Range) (page : ℕ) (here : Option ℕ) → unless_absent here modified (marked_by resident (marked_after modified range) ranges) page ≡ false → (marked_by resident (marked_after modified range) ranges page ≡ false → marked_after modified range page ≡ false) → modified page ≡ false
fewer_step resident modified range ranges page (Some q) h more = h
fewer_step resident modified range ranges page None h more = (unmarked_after modified range page range.writes refl (more h)).0

fewer_marked : (resident modified : ℕ → Bool) (ranges : List Range) (page : ℕ) → marked_by resident modified ranges page ≡ false → modified page ≡ false
unfolding marked_by
fewer_marked resident modified [] page h = h
fewer_marked resident modified (range ∷ ranges) page h =
    fewer_step resident modified range ranges page (first_absent resident range.addr range.len) h (λ k. fewer_marked resident (marked_after modified range) ranges page k)

-- a byte that is written changes none in another page

elsewhere : (areas : List Area) (addr byte place : ℕ) → page_of place ≢ page_of addr → byte_at (with_byte areas addr byte) place ≡ byte_at areas place
unfolding byte_at with_byte has_page
elsewhere [] addr byte place other = refl
elsewhere (area ∷ areas) addr byte place other = elim (cases_Bool (has_page area (page_of addr))) [
  | inl at ↦ elim (cases_Bool (has_page area (page_of place))) [
    | inl pt ↦
        let a = place_within area addr at in
        let b = place_within area place pt in
        let low = a.0 in
        let high = b.0 in
        rw (at, pt) (get_or-set_other area.bytes (addr - 512 * area.first) (place - 512 * area.first) byte 0 (λ e. other (let same : place ≡ addr = omega (arith, e, low, high) in ap page_of same)))
    | inr pf ↦ rw (at, pf) refl
  ]
  | inr af ↦ elim (cases_Bool (has_page area (page_of place))) [
    | inl pt ↦ rw (af, pt) refl
    | inr pf ↦ rw (af, pf) (elsewhere areas addr byte place other)
  ]
]

apart : (a b : ℕ) → (a == b) ≡ false → a ≢ b
apart a b h e = let bad : true ≡ false = sym (eq-eqb a b e) ∙ h in cc

written_elsewhere : (memory : List Area) (addr len value place : ℕ) → is_in addr len (page_of place) ≡ false → byte_at (written memory addr len value) place ≡ byte_at memory place
unfolding is_in written
written_elsewhere memory addr zero value place h = refl
written_elsewhere memory addr (suc len) value place h =
    let k = neither (page_of place == page_of addr) (is_in (after addr) len (page_of place)) h in
    elsewhere (written memory (after addr) len (value / 256)) addr (value % 256) place (apart (page_of place) (page_of addr) k.0)
    ∙ written_elsewhere memory (after addr) len (value / 256) place k.1

run_elsewhere : (memory : List Area) (addr : ℕ) (bytes : List ℕ) (place : ℕ) → is_in addr (length bytes) (page_of place) ≡ false → byte_at (written_run memory addr bytes) place ≡ byte_at memory place
unfolding is_in written_run
run_elsewhere memory addr [] place h = refl
run_elsewhere memory addr (b ∷ bs) place h =
    let k = neither (page_of place == page_of addr) (is_in (after addr) (length bs) (page_of place)) h in
    elsewhere (written_run memory (after addr) bs) addr b place (apart (page_of place) (page_of addr) k.0) ∙ run_elsewhere memory (after addr) bs place k.1

-- a tree of accesses that doesn't write to a page leaves its bytes

stopped_same : {A P : Type 0} (v : Option Violation) (outcome : Outcome A) (x : A) (left : List Area) (page : ℕ) (ranges : List Range) → unless_violated v outcome ≡ Ends x left → is_written page (unless_stopped v ranges) ≡ false → (outcome ≡ Ends x left → is_written page ranges ≡ false → P) → P
stopped_same (Some v) outcome x left page ranges e h more = cc
stopped_same None outcome x left page ranges e h more = more e h

tree_unwritten : {A : Type 0} (tree : Accesses A) (memory : List Area) (x : A) (left : List Area) (addr : ℕ) → outcome_of tree memory ≡ Ends x left → is_written (page_of addr) (touches_of tree memory) ≡ false → byte_at left addr ≡ byte_at memory addr
unfolding outcome_of touches_of is_written
tree_unwritten (Done y) memory x left addr e h = let same : memory ≡ left = cc in ap (λ (z : List Area). byte_at z addr) (sym same)
tree_unwritten (Raises y) memory x left addr e h = cc
tree_unwritten (Checks a len mode access next) memory x left addr e h =
    stopped_same (violation memory a len mode access) (outcome_of next memory) x left (page_of addr) (touches_of next memory) e h (λ r w. tree_unwritten next memory x left addr r w)
tree_unwritten (Asks a len mode access next) memory x left addr e h = tree_unwritten (next (is_allowed (violation memory a len mode access))) memory x left addr e h
tree_unwritten (Reads a len mode next) memory x left addr e h =
    stopped_same (violation memory a len mode Read) (outcome_of (next (number (byte_at memory) a len)) memory) x left (page_of addr) (record { addr = a; len = len; writes = false } ∷ touches_of (next (number (byte_at memory) a len)) memory) e h
    (λ r w. tree_unwritten (next (number (byte_at memory) a len)) memory x left addr r w)
tree_unwritten (Writes a len value mode next) memory x left addr e h =
    stopped_same (violation memory a len mode Write) (outcome_of next (written memory a len value)) x left (page_of addr) (record { addr = a; len = len; writes = true } ∷ touches_of next (written memory a len value)) e h
    (λ r w.
    let k = neither (is_in a len (page_of addr)) (is_written (page_of addr) (touches_of next (written memory a len value))) w in
    tree_unwritten next (written memory a len value) x left addr r k.1 ∙ written_elsewhere memory a len value addr k.0)
tree_unwritten (ReadsRun a len mode next) memory x left addr e h =
    stopped_same (violation memory a len mode Read) (outcome_of (next (bytes_from (byte_at memory) a len)) memory) x left (page_of addr) (record { addr = a; len = len; writes = false } ∷ touches_of (next (bytes_from (byte_at memory) a len)) memory) e h
    (λ r w. tree_unwritten (next (bytes_from (byte_at memory) a len)) memory x left addr r w)
tree_unwritten (WritesRun a bytes mode next) memory x left addr e h =
    stopped_same (violation memory a (length bytes) mode Write) (outcome_of next (written_run memory a bytes)) x left (page_of addr) (record { addr = a; len = length bytes; writes = true } ∷ touches_of next (written_run memory a bytes)) e h
    (λ r w.
    let k = neither (is_in a (length bytes) (page_of addr)) (is_written (page_of addr) (touches_of next (written_run memory a bytes))) w in
    tree_unwritten next (written_run memory a bytes) x left addr r k.1 ∙ run_elsewhere memory a bytes addr k.0)

concluded_unwritten : (m : Flat) (leaf : Leaf) (memory : List Area) (addr : ℕ) → byte_at memory addr ≡ byte_at m.memory addr → byte_at (concluded m leaf memory).memory addr ≡ byte_at m.memory addr
concluded_unwritten m (Went flow.Done s) memory addr e = e
concluded_unwritten m (Went flow.Clocked s) memory addr e = refl
concluded_unwritten m (Went (flow.Trap kind) s) memory addr e = refl
concluded_unwritten m (Went (flow.More opcode units) s) memory addr e = refl
concluded_unwritten m (Went (flow.Ended x) s) memory addr e = refl
concluded_unwritten m (Found operand s) memory addr e = refl

delivery_unwritten : (m : Flat) (tree : Accesses Leaf) (o : Outcome Leaf) (addr : ℕ) → outcome_of tree m.memory ≡ o → is_written (page_of addr) (touches_of tree m.memory) ≡ false → byte_at (after_delivery m o).memory addr ≡ byte_at m.memory addr
delivery_unwritten m tree (Ends leaf memory) addr e h = concluded_unwritten m leaf memory addr (tree_unwritten tree m.memory leaf memory addr e h)
delivery_unwritten m tree (Raised x) addr e h = refl

turn_unwritten : (m : Flat) (units : ℕ) (o : Outcome Leaf) (addr : ℕ) → ((leaf : Leaf) → (memory : List Area) → o ≡ Ends leaf memory → byte_at memory addr ≡ byte_at m.memory addr) → is_written (page_of addr) (touches_after m o) ≡ false → byte_at (machine_at (place_after (turn_from m units o))).memory addr ≡ byte_at m.memory addr
turn_unwritten m units (Ends (Went flow.Done s) memory) addr k h = k (Went flow.Done s) memory refl
turn_unwritten m units (Ends (Went flow.Clocked s) memory) addr k h = refl
turn_unwritten m units (Ends (Went (flow.Trap kind) s) memory) addr k h = refl
turn_unwritten m units (Ends (Went (flow.More opcode more) s) memory) addr k h = k (Went (flow.More opcode more) s) memory refl
turn_unwritten m units (Ends (Went (flow.Ended x) s) memory) addr k h = refl
turn_unwritten m units (Ends (Found operand s) memory) addr k h = refl
turn_unwritten m units (Raised x) addr k h = delivery_unwritten m (whole_delivery x (state_of m)) (outcome_of (whole_delivery x (state_of m)) m.memory) addr refl h

place_unwritten : (place : Place) (addr : ℕ) → is_written (page_of addr) (touches_at place) ≡ false → byte_at (machine_at (place_after (turn place))).memory addr ≡ byte_at (machine_at place).memory addr
place_unwritten place addr h =
    let tree = tree_at place (state_of (machine_at place)) in
    let k = written_parts (page_of addr) (touches_of tree (machine_at place).memory) (touches_after (gone_back place) (outcome_at place)) h in
    turn_unwritten (gone_back place) (units_done place) (outcome_at place) addr
    (λ leaf memory e. tree_unwritten tree (machine_at place).memory leaf memory addr e k.0) k.1

-- a page whose bytes are the same

first_byte : (addr : ℕ) → addr < 2 ^ 32 → byte_after addr 0 ≡ addr
first_byte addr low = omega (arith, low)

after_low : (addr : ℕ) → after addr < 2 ^ 32
after_low addr = omega arith

from_same : (f g : ℕ → ℕ) (addr len : ℕ) → addr < 2 ^ 32 → ((k : ℕ) → k < len → f (byte_after addr k) ≡ g (byte_after addr k)) → bytes_from f addr len ≡ bytes_from g addr len
unfolding bytes_from
from_same f g addr zero low h = refl
from_same f g addr (suc len) low h =
    let e = first_byte addr low in
    let head : f addr ≡ g addr = ap f (sym e) ∙ (h 0 (omega arith) ∙ ap g e) in
    let tail = from_same f g (after addr) len (after_low addr) (λ k within. ap f (after_more addr k) ∙ (h (suc k) (omega (arith, within)) ∙ ap g (sym (after_more addr k)))) in
    λ i. head i ∷ tail i

page_same : (a b : List Area) (page : ℕ) → page < 2 ^ 23 → ((addr : ℕ) → page_of addr ≡ page → byte_at a addr ≡ byte_at b addr) → page_bytes a page ≡ page_bytes b page
page_same a b page small h =
    from_same (byte_at a) (byte_at b) (512 * page) 512 (omega (arith, small)) (λ k within. h (byte_after (512 * page) k) (omega (arith, small, within)))

-- what was last written

last_more : (page : ℕ) (bytes : List ℕ) (xs : List Eviction) (e : Eviction) → last_written page bytes (xs ++ e ∷ []) ≡ (if e.page == page then or_bytes e.wrote (last_written page bytes xs) else last_written page bytes xs)
unfolding last_written
last_more page bytes [] e = refl
last_more page bytes (x ∷ xs) e = last_more page (if x.page == page then or_bytes x.wrote bytes else bytes) xs e

last_none : (page : ℕ) (bytes : List ℕ) (xs : List Eviction) → last_written page bytes (xs ++ []) ≡ last_written page bytes xs
unfolding last_written
last_none page bytes [] = refl
last_none page bytes (x ∷ xs) = last_none page (if x.page == page then or_bytes x.wrote bytes else bytes) xs

-- each page to which no attempt has written is as it was last written
record AreKept (start : List Area) (p : Paged) : Type 0 where
  pub kept : (page : ℕ) → page < 2 ^ 23 → p.modified page ≡ false → page_bytes (machine_at p.place).memory page ≡ last_written page (page_bytes start page) p.evictions

wrote_step : (b : Bool) (content last : List ℕ) → (b ≡ false → content ≡ last) → content ≡ or_bytes (some_if b content) last
wrote_step true content last h = refl
wrote_step false content last h = h refl

-- a page is made absent
without_one : (start : List Area) (p q : Paged) (turn other : ℕ) → q.place ≡ p.place → q.modified ≡ cleaned other p.modified → q.evictions ≡ p.evictions ++ eviction_of turn other p ∷ [] → AreKept start p → AreKept start q
without_one start p q turn other place modified evictions h = record {
  kept = λ page small clean.
      let memory = (machine_at p.place).memory in
      let bytes = page_bytes start page in
      let clear : cleaned other p.modified page ≡ false = ap (λ (f : ℕ → Bool). f page) (sym modified) ∙ clean in
      let here : page_bytes (machine_at q.place).memory page ≡ page_bytes memory page = ap (λ (z : Place). page_bytes (machine_at z).memory page) place in
      let last : last_written page bytes q.evictions ≡ (if other == page then or_bytes (some_if (p.modified other) (page_bytes memory other)) (last_written page bytes p.evictions) else last_written page bytes p.evictions) =
      ap (last_written page bytes) evictions ∙ last_more page bytes p.evictions (eviction_of turn other p) in
      elim (cases_eq other page) [
        | inl same ↦
            let same_bytes : page_bytes memory page ≡ page_bytes memory other = ap (page_bytes memory) (sym same) in
            let t = eq-eqb other page same in
            let told : last_written page bytes q.evictions ≡ or_bytes (some_if (p.modified other) (page_bytes memory other)) (last_written page bytes p.evictions) = last ∙ rw t refl in
            here ∙ (same_bytes ∙ (wrote_step (p.modified other) (page_bytes memory other) (last_written page bytes p.evictions) (λ un. sym same_bytes ∙ h.kept page small (ap p.modified (sym same) ∙ un)) ∙ sym told))
        | inr o ↦
            let f = ne_eqb other page o in
            let g = ne_eqb page other (λ e. o (sym e)) in
            here ∙ (h.kept page small (rw g at clear) ∙ sym (last ∙ rw f refl))
      ];
}

kept_evicted : (start : List Area) (page : ℕ) (p : Paged) → AreKept start p → AreKept start (evicted page p)
unfolding evicted
kept_evicted start page p h = elim (cases_Bool (is_listed page p.residence.order)) [
  | inl t ↦ rw t (without_one start p _ (p.turns + 1) page refl refl refl h)
  | inr f ↦ rw f h
]

kept_all : (start : List Area) (pages : List ℕ) (p : Paged) → AreKept start p → AreKept start (all_evicted pages p)
unfolding all_evicted
kept_all start [] p h = h
kept_all start (page ∷ pages) p h = kept_all start pages (evicted page p) (kept_evicted start page p h)

-- an attempt

with_room : (start : List Area) (p q : Paged) (turn : ℕ) (v : Option ℕ) → q.place ≡ p.place → q.modified ≡ cleaned_of v p.modified → q.evictions ≡ p.evictions ++ evictions_of turn v p → AreKept start p → AreKept start q
with_room start p q turn (Some other) place modified evictions h = without_one start p q turn other place modified evictions h
with_room start p q turn None place modified evictions h = record {
  kept = λ page small clean.
      ap (λ (z : Place). page_bytes (machine_at z).memory page) place
      ∙ (h.kept page small (ap (λ (f : ℕ → Bool). f page) (sym modified) ∙ clean)
      ∙ sym (ap (last_written page (page_bytes start page)) evictions ∙ last_none page (page_bytes start page) p.evictions));
}

kept_by : (start : List Area) (p : Paged) (m : Option ℕ) → first_missing (is_resident p.residence) (touches_at p.place) ≡ m → AreKept start p → AreKept start (attempted_by m (marked p))
kept_by start p None e h = record {
  kept = λ page small clean.
      let k = unmarked (is_resident p.residence) p.modified (touches_at p.place) page e clean in
      page_same (machine_at (place_after (turn p.place))).memory (machine_at p.place).memory page small
      (λ addr at. place_unwritten p.place addr (ap (λ (z : ℕ). is_written z (touches_at p.place)) at ∙ k.1))
      ∙ h.kept page small k.0;
}
kept_by start p (Some page) e h =
    with_room start (marked p) _ (p.turns + 2) (victim p.residence) refl refl refl
    (record { kept = λ other small clean. h.kept other small (fewer_marked (is_resident p.residence) p.modified (touches_at p.place) other clean) })

kept_unless : (start : List Area) (how : Option Ending) (p next : Paged) → AreKept start p → AreKept start next → AreKept start (unless_ended how p next)
kept_unless start (Some e) p next a b = a
kept_unless start None p next a b = b

kept_attempted : (start : List Area) (p : Paged) → AreKept start p → AreKept start (attempted p)
unfolding attempted
kept_attempted start p h =
    kept_unless start (machine_at p.place).ending p _ h (kept_by start p (first_missing (is_resident p.residence) (touches_at p.place)) refl h)

kept_paged : (start : List Area) (areas : List Area) (asks : ℕ → List Target) (count : ℕ) (p : Paged) → AreKept start p → AreKept start (paged areas asks count p)
unfolding paged
kept_paged start areas asks zero p h = h
kept_paged start areas asks (suc count) p h =
    let q = paged areas asks count p in
    let pages = all_named areas (asks (q.turns + 1)) in
    kept_attempted start (all_evicted pages q) (kept_all start pages q (kept_paged start areas asks count p h))

kept_fresh : (frames : ℕ) (m : Flat) → AreKept m.memory (fresh frames m)
unfolding last_written
kept_fresh frames m = record { kept = λ page small clean. refl }

pub writes_suffice : (r : Run) (n : ℕ) (absent : List ℕ) (page : ℕ) → page < 2 ^ 23 → IsAsWritten r.start page (all_evicted absent (state_at r n))
writes_suffice r n absent page small clean =
    let first = kept_fresh r.frames r.start in
    let there = kept_paged r.start.memory r.areas r.asks n (fresh r.frames r.start) first in
    (kept_all r.start.memory absent (state_at r n) there).kept page small clean

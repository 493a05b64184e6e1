-- The bound on turns.
use Rattle.std.proofs.Common.{ℕ, zero, suc, ◌≡◌, ◌+◌, ◌-◌, ◌*◌, ◌^◌, ◌<◌, ◌≤◌, Bool, true, false, ◌==◌, List, [], ◌∷◌, ◌++◌, length, length-append, refl, ap, sym, ◌∙◌, subst, arith, inl, inr, Option, Some, None}
use Rattle.std.specs.Prelude.{◌⊎◌, is_some, if◌then◌else◌, nat_lt}
use Rattle.std.proofs.lemmas.Bool.{cases_Bool, cases_eq, eq-eqb, ne_eqb}
use Rattle.vax_space.specs.declared.Access.{Access}
use Rattle.vax_space.specs.declared.Access.TheVariants.{Read, Write}
use Rattle.vax_space.specs.declared.Area.{Area}
use Rattle.vax_space.specs.declared.Violation.{Violation}
use Rattle.vax_space.specs.Areas.{area_of, has_page}
use Rattle.vax_space.specs.Faults.{IsSpace}
use Rattle.vax_space.specs.Reference.{page_of, violation}
use Rattle.vax_outside.specs.Faults.{raised}
use Rattle.vax_flat.specs.declared.Ending.{Ending}
use Rattle.vax_flat.specs.declared.Flow.TheVariants as flow
use Rattle.vax_flat.specs.Accesses.{Accesses, Done, Raises, Checks, Asks, Reads, Writes, ReadsRun, WritesRun, Leaf, Went, Found}
use Rattle.vax_flat.specs.Memory.{after, byte_at, bytes_from, is_mapped, number, written, written_run}
use Rattle.vax_flat.specs.Outcome.{Outcome, Ends, Raised, Range, first_missing, is_allowed, or_else, outcome_of, touches_of, unless_stopped, unless_violated}
use Rattle.vax_flat.specs.Parts.{Place, gone_back, machine_at, outcome_at, touches_at, tree_at, turn, turn_from, units_done}
use Rattle.vax_flat.specs.Port.{first_absent, layout}
use Rattle.vax_flat.specs.Step.{Flat, after_delivery, concluded, state_of, touches_after, whole_delivery}
use Rattle.vax_flat.proofs.Memory.{allowed_first, is_mapped-layout, layout-written, layout-written_run, mapped_where_accessible}
use Rattle.vax_pager.specs.Listing.{AreOnce, first_outside, is_listed, leave_out}
use Rattle.vax_pager.proofs.Listing.{in_push, in_without, out_none}
use Rattle.vax_sched.specs.declared.rule.Target.{Target}
use Rattle.vax_machine.proofs.Lists.{still_out}
use Rattle.vax_machine.proofs.Halting.{paged_more}
use Rattle.vax_machine.proofs.Touching.{few_pins, fewer_pins, missed, page_small}
use Rattle.vax_machine.proofs.Tracking.{many_evicted}
use Rattle.vax_machine.specs.Laws.{HasFewTurns, IsCounted, IsIdle, IsProper, IsSoonAfter, Run, state_at}
use Rattle.vax_outside.specs.Blocks.{BlockFile}
use Rattle.vax_machine.specs.Paged.{Paged, all_evicted, all_named, attempted, attempted_by, evicted, fresh, marked, paged, place_after, unless_ended}
use Rattle.vax_machine.specs.Residence.{Residence, is_resident, kept_after, served, taken_out, victim, without_victim}
use Rattle.vax_machine.specs.Run.{FewTurns}
use Rattle.vax_machine.specs.Touched.{PinsTouched, is_touched}
use Rattle.vax_machine.specs.Calling.{Asking, Misses, NextCallFails}

-- a page that is missed first is one of an area

mapped_is : (areas : List Area) (page : ℕ) → is_mapped areas page ≡ true → is_some (area_of areas page) ≡ true
unfolding is_mapped area_of
mapped_is [] page h = cc
mapped_is (area ∷ areas) page h = elim (cases_Bool (has_page area page)) [
  | inl here ↦ rw here refl
  | inr other ↦ let rest : is_mapped areas page ≡ true = rw other at h in rw other (mapped_is areas page rest)
]

mapped_alike : (page : ℕ) (a b : List Area) → layout a ≡ layout b → is_mapped a page ≡ is_mapped b page
mapped_alike page a b e = sym (is_mapped-layout a page) ∙ (ap (λ (z : List Area). is_mapped z page) e ∙ is_mapped-layout b page)

absent_mapped : (resident : ℕ → Bool) (areas : List Area) (addr len mode : ℕ) (access : Access) (page : ℕ) → violation areas addr len mode access ≡ None → first_absent resident addr len ≡ Some page → is_mapped areas page ≡ true
unfolding first_absent
absent_mapped resident areas addr zero mode access page h e = cc
absent_mapped resident areas addr (suc len) mode access page h e =
    let g = allowed_first areas addr len mode access h in
    elim (cases_Bool (resident (page_of addr))) [
      | inl t ↦ absent_mapped resident areas (after addr) len mode access page g.1 (rw t at e)
      | inr f ↦
          let k : Some (page_of addr) ≡ Some page = rw f at e in
          let q : page_of addr ≡ page = cc in
          ap (λ (z : ℕ). is_mapped areas z) (sym q) ∙ mapped_where_accessible areas (page_of addr) mode access g.0
    ]

range_mapped : (resident : ℕ → Bool) (areas : List Area) (addr len mode : ℕ) (access : Access) (page : ℕ) (here later : Option ℕ) → violation areas addr len mode access ≡ None → first_absent resident addr len ≡ here → or_else here later ≡ Some page → (later ≡ Some page → is_mapped areas page ≡ true) → is_mapped areas page ≡ true
range_mapped resident areas addr len mode access page (Some other) later h a e more =
    let same : other ≡ page = cc in
    absent_mapped resident areas addr len mode access page h (a ∙ ap (λ (z : ℕ). Some z) same)
range_mapped resident areas addr len mode access page None later h a e more = more e

stopped_mapped : (resident : ℕ → Bool) (areas : List Area) (addr len mode : ℕ) (access : Access) (writes : Bool) (ranges : List Range) (page : ℕ) (v : Option Violation) → violation areas addr len mode access ≡ v → first_missing resident (unless_stopped v (record { addr = addr; len = len; writes = writes } ∷ ranges)) ≡ Some page → (first_missing resident ranges ≡ Some page → is_mapped areas page ≡ true) → is_mapped areas page ≡ true
unfolding first_missing
stopped_mapped resident areas addr len mode access writes ranges page (Some x) b e more = cc
stopped_mapped resident areas addr len mode access writes ranges page None b e more =
    range_mapped resident areas addr len mode access page (first_absent resident addr len) (first_missing resident ranges) b refl e more

checked_mapped : (resident : ℕ → Bool) (areas : List Area) (ranges : List Range) (page : ℕ) (v : Option Violation) → first_missing resident (unless_stopped v ranges) ≡ Some page → (first_missing resident ranges ≡ Some page → is_mapped areas page ≡ true) → is_mapped areas page ≡ true
unfolding first_missing
checked_mapped resident areas ranges page (Some x) e more = cc
checked_mapped resident areas ranges page None e more = more e

nothing_missing : (resident : ℕ → Bool) (page : ℕ) → first_missing resident [] ≡ Some page → ⊥
unfolding first_missing
nothing_missing resident page e = cc

tree_mapped : {A : Type 0} (tree : Accesses A) (resident : ℕ → Bool) (memory : List Area) (page : ℕ) → first_missing resident (touches_of tree memory) ≡ Some page → is_mapped memory page ≡ true
unfolding touches_of
tree_mapped (Done x) resident memory page e = absurd (nothing_missing resident page e)
tree_mapped (Raises x) resident memory page e = absurd (nothing_missing resident page e)
tree_mapped (Checks addr len mode access next) resident memory page e = checked_mapped resident memory (touches_of next memory) page (violation memory addr len mode access) e (λ r. tree_mapped next resident memory page r)
tree_mapped (Asks addr len mode access next) resident memory page e = tree_mapped (next (is_allowed (violation memory addr len mode access))) resident memory page e
tree_mapped (Reads addr len mode next) resident memory page e =
    stopped_mapped resident memory addr len mode Read false (touches_of (next (number (byte_at memory) addr len)) memory) page (violation memory addr len mode Read) refl e (λ r. tree_mapped (next (number (byte_at memory) addr len)) resident memory page r)
tree_mapped (Writes addr len value mode next) resident memory page e =
    stopped_mapped resident memory addr len mode Write true (touches_of next (written memory addr len value)) page (violation memory addr len mode Write) refl e
    (λ r. sym (mapped_alike page (written memory addr len value) memory (layout-written memory addr len value)) ∙ tree_mapped next resident (written memory addr len value) page r)
tree_mapped (ReadsRun addr len mode next) resident memory page e =
    stopped_mapped resident memory addr len mode Read false (touches_of (next (bytes_from (byte_at memory) addr len)) memory) page (violation memory addr len mode Read) refl e (λ r. tree_mapped (next (bytes_from (byte_at memory) addr len)) resident memory page r)
tree_mapped (WritesRun addr bytes mode next) resident memory page e =
    stopped_mapped resident memory addr (length bytes) mode Write true (touches_of next (written_run memory addr bytes)) page (violation memory addr (length bytes) mode Write) refl e
    (λ r. sym (mapped_alike page (written_run memory addr bytes) memory (layout-written_run memory addr bytes)) ∙ tree_mapped next resident (written_run memory addr bytes) page r)

either_step : (a b c d : Option ℕ) (page : ℕ) → or_else a c ≡ Some page → (c ≡ Some page → (b ≡ Some page) ⊎ (d ≡ Some page)) → (or_else a b ≡ Some page) ⊎ (d ≡ Some page)
either_step (Some q) b c d page e more = inl e
either_step None b c d page e more = more e

either : (resident : ℕ → Bool) (xs ys : List Range) (page : ℕ) → first_missing resident (xs ++ ys) ≡ Some page → (first_missing resident xs ≡ Some page) ⊎ (first_missing resident ys ≡ Some page)
unfolding first_missing
either resident [] ys page e = inr e
either resident (x ∷ xs) ys page e =
    either_step (first_absent resident x.addr x.len) (first_missing resident xs) (first_missing resident (xs ++ ys)) (first_missing resident ys) page e (λ r. either resident xs ys page r)

after_mapped : (resident : ℕ → Bool) (m : Flat) (o : Outcome Leaf) (page : ℕ) → first_missing resident (touches_after m o) ≡ Some page → is_mapped m.memory page ≡ true
after_mapped resident m (Ends leaf memory) page e = absurd (nothing_missing resident page e)
after_mapped resident m (Raised x) page e = tree_mapped (whole_delivery x (state_of m)) resident m.memory page e

place_mapped : (resident : ℕ → Bool) (place : Place) (page : ℕ) → first_missing resident (touches_at place) ≡ Some page → is_mapped (machine_at place).memory page ≡ true
place_mapped resident place page e =
    let tree = tree_at place (state_of (machine_at place)) in
    elim (either resident (touches_of tree (machine_at place).memory) (touches_after (gone_back place) (outcome_at place)) page e) [
      | inl one ↦ tree_mapped tree resident (machine_at place).memory page one
      | inr two ↦ after_mapped resident (gone_back place) (outcome_at place) page two
    ]

-- an attempt leaves the areas

unless_layout : {A : Type 0} (v : Option Violation) (outcome : Outcome A) (x : A) (memory left : List Area) → unless_violated v outcome ≡ Ends x left → (outcome ≡ Ends x left → layout left ≡ layout memory) → layout left ≡ layout memory
unless_layout (Some v) outcome x memory left e more = cc
unless_layout None outcome x memory left e more = more e

outcome_layout : {A : Type 0} (tree : Accesses A) (memory : List Area) (x : A) (left : List Area) → outcome_of tree memory ≡ Ends x left → layout left ≡ layout memory
unfolding outcome_of
outcome_layout (Done y) memory x left e = let same : memory ≡ left = cc in ap layout (sym same)
outcome_layout (Raises y) memory x left e = cc
outcome_layout (Checks addr len mode access next) memory x left e = unless_layout (violation memory addr len mode access) (outcome_of next memory) x memory left e (λ r. outcome_layout next memory x left r)
outcome_layout (Asks addr len mode access next) memory x left e = outcome_layout (next (is_allowed (violation memory addr len mode access))) memory x left e
outcome_layout (Reads addr len mode next) memory x left e =
    unless_layout (violation memory addr len mode Read) (outcome_of (next (number (byte_at memory) addr len)) memory) x memory left e (λ r. outcome_layout (next (number (byte_at memory) addr len)) memory x left r)
outcome_layout (Writes addr len value mode next) memory x left e =
    unless_layout (violation memory addr len mode Write) (outcome_of next (written memory addr len value)) x memory left e
    (λ r. outcome_layout next (written memory addr len value) x left r ∙ layout-written memory addr len value)
outcome_layout (ReadsRun addr len mode next) memory x left e =
    unless_layout (violation memory addr len mode Read) (outcome_of (next (bytes_from (byte_at memory) addr len)) memory) x memory left e (λ r. outcome_layout (next (bytes_from (byte_at memory) addr len)) memory x left r)
outcome_layout (WritesRun addr bytes mode next) memory x left e =
    unless_layout (violation memory addr (length bytes) mode Write) (outcome_of next (written_run memory addr bytes)) x memory left e
    (λ r. outcome_layout next (written_run memory addr bytes) x left r ∙ layout-written_run memory addr bytes)

concluded_layout : (m : Flat) (leaf : Leaf) (memory : List Area) → layout memory ≡ layout m.memory → layout (concluded m leaf memory).memory ≡ layout m.memory
concluded_layout m (Went flow.Done s) memory e = e
concluded_layout m (Went flow.Clocked s) memory e = refl
concluded_layout m (Went (flow.Trap kind) s) memory e = refl
concluded_layout m (Went (flow.More opcode units) s) memory e = refl
concluded_layout m (Went (flow.Ended x) s) memory e = refl
concluded_layout m (Found operand s) memory e = refl

delivery_layout : (m : Flat) (tree : Accesses Leaf) (o : Outcome Leaf) → outcome_of tree m.memory ≡ o → layout (after_delivery m o).memory ≡ layout m.memory
delivery_layout m tree (Ends leaf memory) e = concluded_layout m leaf memory (outcome_layout tree m.memory leaf memory e)
delivery_layout m tree (Raised x) e = refl

turn_layout : (m : Flat) (units : ℕ) (o : Outcome Leaf) → ((leaf : Leaf) → (memory : List Area) → o ≡ Ends leaf memory → layout memory ≡ layout m.memory) → layout (machine_at (place_after (turn_from m units o))).memory ≡ layout m.memory
turn_layout m units (Ends (Went flow.Done s) memory) k = k (Went flow.Done s) memory refl
turn_layout m units (Ends (Went flow.Clocked s) memory) k = refl
turn_layout m units (Ends (Went (flow.Trap kind) s) memory) k = refl
turn_layout m units (Ends (Went (flow.More opcode more) s) memory) k = k (Went (flow.More opcode more) s) memory refl
turn_layout m units (Ends (Went (flow.Ended x) s) memory) k = refl
turn_layout m units (Ends (Found operand s) memory) k = refl
turn_layout m units (Raised x) k = delivery_layout m (whole_delivery x (state_of m)) (outcome_of (whole_delivery x (state_of m)) m.memory) refl

place_layout : (place : Place) → layout (machine_at (place_after (turn place))).memory ≡ layout (machine_at place).memory
place_layout place =
    turn_layout (gone_back place) (units_done place) (outcome_at place)
    (λ leaf memory e. outcome_layout (tree_at place (state_of (machine_at place))) (machine_at place).memory leaf memory e)

-- lists in which each page stands once

out_of : (other page : ℕ) (xs : List ℕ) → is_listed other (leave_out page xs) ≡ true → is_listed other xs ≡ true
out_of other page xs h =
    let k : (if other == page then false else is_listed other xs) ≡ true = sym (in_without other page xs) ∙ h in
    elim (cases_Bool (other == page)) [
      | inl e ↦ let no : false ≡ true = rw e at k in cc
      | inr e ↦ rw e at k
    ]

out_both : (other page : ℕ) (xs ys : List ℕ) → (is_listed other xs ≡ true → is_listed other ys ≡ true) → is_listed other (leave_out page xs) ≡ true → is_listed other (leave_out page ys) ≡ true
out_both other page xs ys all h =
    let k : (if other == page then false else is_listed other xs) ≡ true = sym (in_without other page xs) ∙ h in
    elim (cases_Bool (other == page)) [
      | inl e ↦ let no : false ≡ true = rw e at k in cc
      | inr e ↦ let there : is_listed other xs ≡ true = rw e at k in in_without other page ys ∙ rw e (all there)
    ]

still_in : (other page : ℕ) (xs : List ℕ) → is_listed other xs ≡ true → is_listed other (xs ++ page ∷ []) ≡ true
still_in other page xs h = elim (cases_Bool (other == page)) [
  | inl e ↦ in_push other page xs ∙ rw e refl
  | inr e ↦ in_push other page xs ∙ rw e h
]

page_or : (page other : ℕ) (xs : List ℕ) → is_listed other (xs ++ page ∷ []) ≡ true → (other ≡ page) ⊎ (is_listed other xs ≡ true)
page_or page other xs h = elim (cases_eq other page) [
  | inl e ↦ inl e
  | inr o ↦ let k : (if other == page then true else is_listed other xs) ≡ true = sym (in_push other page xs) ∙ h in inr (rw (ne_eqb other page o) at k)
]

once_out : (page : ℕ) (xs : List ℕ) → AreOnce xs → AreOnce (leave_out page xs)
unfolding AreOnce leave_out
once_out page [] h = h
once_out page (x ∷ xs) h = elim (cases_Bool (x == page)) [
  | inl e ↦ rw e (once_out page xs h.1)
  | inr e ↦ rw e (still_out x page xs h.0, once_out page xs h.1)
]

once_push : (page : ℕ) (xs : List ℕ) → AreOnce xs → is_listed page xs ≡ false → AreOnce (xs ++ page ∷ [])
unfolding AreOnce is_listed
once_push page [] once h = (refl, tt)
once_push page (x ∷ xs) once h = elim (cases_Bool (x == page)) [
  | inl e ↦ let no : true ≡ false = rw e at h in cc
  | inr e ↦ let rest : is_listed page xs ≡ false = rw e at h in (in_push x page xs ∙ rw e once.0, once_push page xs once.1 rest)
]

pub one_fewer : (page : ℕ) (xs : List ℕ) → AreOnce xs → is_listed page xs ≡ true → length (leave_out page xs) + 1 ≡ length xs
unfolding AreOnce leave_out is_listed
one_fewer page [] once h = cc
one_fewer page (x ∷ xs) once h = elim (cases_eq x page) [
  | inl same ↦
      let away : is_listed page xs ≡ false = ap (λ (z : ℕ). is_listed z xs) (sym same) ∙ once.0 in
      let e = ap length (out_none page xs away) in
      rw (eq-eqb x page same) (omega (arith, e))
  | inr o ↦
      let n = ne_eqb x page o in
      let there : is_listed page xs ≡ true = rw n at h in
      let e = one_fewer page xs once.1 there in
      rw n (omega (arith, e))
]

-- evictions

abbrev pub last : ℕ
last = 2 ^ 64 - 1

taken_sum : (page : ℕ) (r : Residence) (b : Bool) → is_listed page r.pinned ≡ b → AreOnce r.pinned → (if b then raised r.spoiled else r.spoiled) < last → (length (leave_out page r.pinned) + (if b then raised r.spoiled else r.spoiled) ≡ length r.pinned + r.spoiled) × (r.spoiled ≤ (if b then raised r.spoiled else r.spoiled))
taken_sum page r true e once low = let l = one_fewer page r.pinned once e in (omega (arith, l, low), omega (arith, low))
taken_sum page r false e once low = let l = ap length (out_none page r.pinned e) in (omega (arith, l), omega arith)

record IsTaken (page : ℕ) (r q : Residence) : Type 0 where
  pub order : q.order ≡ leave_out page r.order
  pub pinned : q.pinned ≡ leave_out page r.pinned
  pub sum : AreOnce r.pinned → q.spoiled < last → (length q.pinned + q.spoiled ≡ length r.pinned + r.spoiled) × (r.spoiled ≤ q.spoiled)

taken : (page : ℕ) (r : Residence) → is_listed page r.order ≡ true → IsTaken page r (taken_out page r)
unfolding taken_out
taken page r t = rw t (record { order = refl; pinned = refl; sum = λ once low. taken_sum page r (is_listed page r.pinned) refl once low })

-- services

free_step : (others xs : List ℕ) (x v : ℕ) (b : Bool) → is_listed x others ≡ b → (first_outside others xs ≡ Some v → is_listed v others ≡ false) → (if b then first_outside others xs else Some x) ≡ Some v → is_listed v others ≡ false
free_step others xs x v true e more h = more h
free_step others xs x v false e more h = let k : x ≡ v = cc in ap (λ (z : ℕ). is_listed z others) (sym k) ∙ e

free_out : (others xs : List ℕ) (v : ℕ) → first_outside others xs ≡ Some v → is_listed v others ≡ false
unfolding first_outside
free_out others [] v h = cc
free_out others (x ∷ xs) v h = free_step others xs x v (is_listed x others) refl (free_out others xs v) h

victim_step : (r : Residence) (v : ℕ) (b : Bool) → (if b then None else first_outside r.pinned r.order) ≡ Some v → is_listed v r.pinned ≡ false
victim_step r v true h = cc
victim_step r v false h = free_out r.pinned r.order v h

victim_unpinned : (r : Residence) (v : ℕ) → victim r ≡ Some v → is_listed v r.pinned ≡ false
unfolding victim
victim_unpinned r v h = victim_step r v (nat_lt (length r.order) r.frames) h

record IsServing (page : ℕ) (r q : Residence) : Type 0 where
  pub pinned : q.pinned ≡ r.pinned ++ page ∷ []
  pub spoiled : q.spoiled ≡ r.spoiled
  pub order : (other : ℕ) → is_listed other q.order ≡ true → (other ≡ page) ⊎ (is_listed other r.order ≡ true)
  pub kept : (other : ℕ) → is_listed other r.pinned ≡ true → is_listed other r.order ≡ true → is_listed other q.order ≡ true
  pub here : is_listed page q.order ≡ true

push_here : (page : ℕ) (xs : List ℕ) → is_listed page (xs ++ page ∷ []) ≡ true
push_here page xs = in_push page page xs ∙ rw (eq-eqb page page refl) refl

serving_by : (page : ℕ) (r : Residence) (v : Option ℕ) (left : List ℕ) → victim r ≡ v → IsServing page r (record (without_victim v r) { order = (without_victim v r).order ++ page ∷ []; pinned = (without_victim v r).pinned ++ page ∷ []; kept = left })
serving_by page r None left e = record {
  pinned = refl;
  spoiled = refl;
  order = λ other h. page_or page other r.order h;
  kept = λ other a b. still_in other page r.order b;
  here = push_here page r.order;
}
serving_by page r (Some v) left e = record {
  pinned = refl;
  spoiled = refl;
  order = λ other h. elim (page_or page other (leave_out v r.order) h) [
    | inl same ↦ inl same
    | inr there ↦ inr (out_of other v r.order there)
  ];
  kept = λ other a b. elim (cases_eq other v) [
    | inl same ↦ let no : false ≡ true = sym (victim_unpinned r v e) ∙ (ap (λ (z : ℕ). is_listed z r.pinned) (sym same) ∙ a) in cc
    | inr o ↦ still_in other page (leave_out v r.order) (in_without other v r.order ∙ rw (ne_eqb other v o) b)
  ];
  here = push_here page (leave_out v r.order);
}

serving : (page : ℕ) (r : Residence) → IsServing page r (served page r)
unfolding served
serving page r = serving_by page r (victim r) (kept_after page r) refl

-- turns

-- the pinned pages are few, and few turns were made since the beginning
pub record IsBounded (areas : List Area) (b p : Paged) : Type 0 where
  pub memory : layout (machine_at p.place).memory ≡ layout areas
  pub pins : PinsTouched p.residence p.place
  pub once : AreOnce p.residence.pinned
  pub held : (page : ℕ) → is_listed page p.residence.pinned ≡ true → is_listed page p.residence.order ≡ true
  pub small : (page : ℕ) → is_listed page p.residence.order ≡ true → page < 2 ^ 23
  pub turns : p.residence.spoiled < last →
      p.turns + 41 * b.parts + length b.residence.pinned + b.residence.spoiled ≤ 41 * p.parts + length p.residence.pinned + p.residence.spoiled + b.turns

taken_bounded : (areas : List Area) (b : Paged) (page : ℕ) (p q : Paged) → q.place ≡ p.place → q.parts ≡ p.parts → q.turns ≡ p.turns → IsTaken page p.residence q.residence → IsBounded areas b p → IsBounded areas b q
taken_bounded areas b page p q place parts turns t h = record {
  memory = ap (λ (z : Place). layout (machine_at z).memory) place ∙ h.memory;
  pins = record {
    touched = λ other k. ap (λ (z : Place). is_touched other (touches_at z)) place ∙ h.pins.touched other (out_of other page p.residence.pinned (ap (is_listed other) (sym t.pinned) ∙ k));
  };
  once = rw t.pinned (once_out page p.residence.pinned h.once);
  held = λ other k. ap (is_listed other) t.order ∙ out_both other page p.residence.pinned p.residence.order (h.held other) (ap (is_listed other) (sym t.pinned) ∙ k);
  small = λ other k. h.small other (out_of other page p.residence.order (ap (is_listed other) (sym t.order) ∙ k));
  turns = λ low.
      let s = t.sum h.once low in
      let a = s.0 in
      let c = s.1 in
      let few = h.turns (omega (arith, c, low)) in
      omega (arith, a, few, parts, turns);
}

evicted_bounded : (areas : List Area) (b : Paged) (page : ℕ) (p : Paged) → IsBounded areas b p → IsBounded areas b (evicted page p)
unfolding evicted
evicted_bounded areas b page p h = elim (cases_Bool (is_listed page p.residence.order)) [
  | inl t ↦ rw t (taken_bounded areas b page p _ refl refl refl (taken page p.residence t) h)
  | inr f ↦ rw f h
]

all_bounded : (areas : List Area) (b : Paged) (pages : List ℕ) (p : Paged) → IsBounded areas b p → IsBounded areas b (all_evicted pages p)
unfolding all_evicted
all_bounded areas b [] p h = h
all_bounded areas b (page ∷ pages) p h = all_bounded areas b pages (evicted page p) (evicted_bounded areas b page p h)

pins_of : (areas : List Area) (b : Paged) (p : Paged) → IsBounded areas b p → length p.residence.pinned ≤ 40
pins_of areas b p h = few_pins p.residence p.place h.once h.held h.small h.pins

served_bounded : (areas : List Area) (b : Paged) (page : ℕ) (p q : Paged) → IsSpace areas → first_missing (is_resident p.residence) (touches_at p.place) ≡ Some page → q.place ≡ p.place → q.parts ≡ p.parts → q.turns ≡ p.turns + 1 → IsServing page p.residence q.residence → IsBounded areas b p → IsBounded areas b q
served_bounded areas b page p q space e place parts turns s h =
    let m = missed (is_resident p.residence) (touches_at p.place) page e in
    let away : is_listed page p.residence.pinned ≡ false = elim (cases_Bool (is_listed page p.residence.pinned)) [
      | inl t ↦ let no : false ≡ true = sym m.1 ∙ h.held page t in cc
      | inr f ↦ f
    ] in
    let inside : is_some (area_of areas page) ≡ true = mapped_is areas page (sym (mapped_alike page (machine_at p.place).memory areas h.memory) ∙ place_mapped (is_resident p.residence) p.place page e) in
    record {
      memory = ap (λ (z : Place). layout (machine_at z).memory) place ∙ h.memory;
      pins = record {
        touched = λ other k. ap (λ (z : Place). is_touched other (touches_at z)) place ∙ elim (page_or page other p.residence.pinned (ap (is_listed other) (sym s.pinned) ∙ k)) [
          | inl same ↦ ap (λ (z : ℕ). is_touched z (touches_at p.place)) same ∙ m.0
          | inr there ↦ h.pins.touched other there
        ];
      };
      once = rw s.pinned (once_push page p.residence.pinned h.once away);
      held = λ other k. elim (page_or page other p.residence.pinned (ap (is_listed other) (sym s.pinned) ∙ k)) [
        | inl same ↦ ap (λ (z : ℕ). is_listed z q.residence.order) same ∙ s.here
        | inr there ↦ s.kept other there (h.held other there)
      ];
      small = λ other k. elim (s.order other k) [
        | inl same ↦ subst (λ (z : ℕ). z < 2 ^ 23) (sym same) (page_small areas page space inside)
        | inr there ↦ h.small other there
      ];
      turns = λ low.
          let v = s.spoiled in
          let few = h.turns (omega (arith, v, low)) in
          let l = ap length s.pinned ∙ length-append p.residence.pinned (page ∷ []) in
          omega (arith, few, l, v, parts, turns);
    }

by_attempt : (areas : List Area) (b : Paged) (p : Paged) (m : Option ℕ) → IsSpace areas → first_missing (is_resident p.residence) (touches_at p.place) ≡ m → IsBounded areas b p → IsBounded areas b (attempted_by m p)
unfolding is_listed AreOnce
by_attempt areas b p None space e h = record {
  memory = place_layout p.place ∙ h.memory;
  pins = record { touched = λ page k. let no : false ≡ true = k in cc };
  once = tt;
  held = λ page k. let no : false ≡ true = k in cc;
  small = h.small;
  turns = λ low.
      let few = h.turns low in
      let pins = pins_of areas b p h in
      omega (arith, few, pins);
}
by_attempt areas b p (Some page) space e h = served_bounded areas b page p _ space e refl refl refl (serving page p.residence) h

unless_bounded : (areas : List Area) (b : Paged) (how : Option Ending) (p next : Paged) → IsBounded areas b p → IsBounded areas b next → IsBounded areas b (unless_ended how p next)
unless_bounded areas b (Some e) p next x y = x
unless_bounded areas b None p next x y = y

-- only the pages that are modified differ
alike : (areas : List Area) (b p q : Paged) → q.place ≡ p.place → q.parts ≡ p.parts → q.turns ≡ p.turns → q.residence ≡ p.residence → IsBounded areas b p → IsBounded areas b q
alike areas b p q place parts turns r h = record {
  memory = ap (λ (z : Place). layout (machine_at z).memory) place ∙ h.memory;
  pins = rw (place, r) h.pins;
  once = rw r h.once;
  held = rw r h.held;
  small = rw r h.small;
  turns = rw (turns, parts, r) h.turns;
}

attempted_bounded : (areas : List Area) (b : Paged) (p : Paged) → IsSpace areas → IsBounded areas b p → IsBounded areas b (attempted p)
unfolding attempted
attempted_bounded areas b p space h =
    let m = first_missing (is_resident p.residence) (touches_at p.place) in
    unless_bounded areas b (machine_at p.place).ending p (attempted_by m (marked p)) h (by_attempt areas b (marked p) m space refl (alike areas b p (marked p) refl refl refl refl h))

pub paged_bounded : (areas : List Area) (asks : ℕ → List Target) (count : ℕ) (b p : Paged) → IsSpace areas → IsBounded areas b p → IsBounded areas b (paged areas asks count p)
unfolding paged
paged_bounded areas asks zero b p space h = h
paged_bounded areas asks (suc count) b p space h =
    let q = paged areas asks count p in
    let pages = all_named areas (asks (q.turns + 1)) in
    attempted_bounded areas b (all_evicted pages q) space (all_bounded areas b pages q (paged_bounded areas asks count b p space h))

-- where a machine begins
pub begun_bounded : (areas : List Area) (p : Paged) → layout (machine_at p.place).memory ≡ layout areas → PinsTouched p.residence p.place → AreOnce p.residence.pinned → ((page : ℕ) → is_listed page p.residence.pinned ≡ true → is_listed page p.residence.order ≡ true) → ((page : ℕ) → is_listed page p.residence.order ≡ true → page < 2 ^ 23) → IsBounded areas p p
begun_bounded areas p memory pins once held small = record { memory = memory; pins = pins; once = once; held = held; small = small; turns = λ low. omega arith }

pub few_turns : (areas : List Area) (b p : Paged) → IsBounded areas b p → FewTurns b p
few_turns areas b p h = record { pins = pins_of areas b p h; turns = h.turns }

-- where a page that was missed wasn't served, fewer than 40 pages are pinned
missed_pins : (areas : List Area) (b p : Paged) → IsSpace areas → IsBounded areas b p → Misses p → length p.residence.pinned < 40
missed_pins areas b p space h m =
    let inside : is_some (area_of areas m.page) ≡ true =
    mapped_is areas m.page (sym (mapped_alike m.page (machine_at p.place).memory areas h.memory) ∙ place_mapped (is_resident p.residence) p.place m.page m.missing) in
    fewer_pins p.residence p.place m.page h.once h.held h.small (page_small areas m.page space inside) h.pins m.missing

pub few_cut : (areas : List Area) (b p : Paged) (front rest : List ℕ) (asks : Asking) (before after : Option BlockFile) → IsSpace areas → IsBounded areas b p → NextCallFails areas b (all_evicted front p) rest asks before after → (all_evicted front p).residence.spoiled < last → asks.turns + 41 * b.parts + length b.residence.pinned + b.residence.spoiled ≤ 41 * p.parts + 40 + (all_evicted front p).residence.spoiled + b.turns
few_cut areas b p front rest asks before after space h fails low =
    let q = all_evicted front p in
    let k = all_bounded areas b front p h in
    let same = many_evicted front p in
    let few = k.turns low in
    let pins = pins_of areas b q k in
    let a = same.parts in
    let c = same.turns in
    elim fails [
      | inl none ↦ let e = none.2 in omega (arith, few, pins, a, c, e)
      | inr m ↦
          let less = missed_pins areas b q space k m.1.missed in
          let e = m.1.made in
          omega (arith, few, less, a, c, e)
    ]

-- where a run begins

fresh_bounded : (r : Run) → IsProper r → IsBounded r.areas (fresh r.frames r.start) (fresh r.frames r.start)
unfolding is_listed AreOnce
fresh_bounded r proper =
    begun_bounded r.areas (fresh r.frames r.start) proper.memory (record { touched = λ page k. let no : false ≡ true = k in cc }) tt (λ page k. let no : false ≡ true = k in cc) (λ page k. let no : false ≡ true = k in cc)

run_bounded : (r : Run) (n : ℕ) → IsProper r → IsBounded r.areas (fresh r.frames r.start) (state_at r n)
run_bounded r n proper = paged_bounded r.areas r.asks n (fresh r.frames r.start) (fresh r.frames r.start) proper.space (fresh_bounded r proper)

pub turns_bounded : (r : Run) (n : ℕ) → IsProper r → IsCounted (state_at r n) → HasFewTurns (state_at r n)
turns_bounded r n proper low =
    let h = run_bounded r n proper in
    let few = h.turns low in
    let pins = pins_of r.areas (fresh r.frames r.start) (state_at r n) h in
    omega (arith, few, pins)

-- as long as no part is completed

pub parts_end : (r : Run) (n more : ℕ) → IsProper r → IsCounted (state_at r (more + n)) → (state_at r (more + n)).parts ≡ (state_at r n).parts → IsSoonAfter (state_at r n) (state_at r (more + n))
parts_end r n more proper low parts =
    let b = state_at r n in
    let h = run_bounded r n proper in
    let begun = begun_bounded r.areas b h.memory h.pins h.once h.held h.small in
    let k = subst (λ (z : Paged). IsBounded r.areas b z) (paged_more r.areas r.asks more n (fresh r.frames r.start)) (paged_bounded r.areas r.asks more b b proper.space begun) in
    let few = k.turns low in
    let pins = pins_of r.areas b (state_at r (more + n)) k in
    omega (arith, few, pins, parts)

-- with nothing due no pinned page is evicted

attempt_unspoiled : (p : Paged) (m : Option ℕ) → (attempted_by m p).residence.spoiled ≡ p.residence.spoiled
attempt_unspoiled p None = refl
attempt_unspoiled p (Some page) = (serving page p.residence).spoiled

unless_unspoiled : (how : Option Ending) (p next : Paged) → next.residence.spoiled ≡ p.residence.spoiled → (unless_ended how p next).residence.spoiled ≡ p.residence.spoiled
unless_unspoiled (Some e) p next h = refl
unless_unspoiled None p next h = h

attempted_unspoiled : (p : Paged) → (attempted p).residence.spoiled ≡ p.residence.spoiled
unfolding attempted
attempted_unspoiled p =
    let m = first_missing (is_resident p.residence) (touches_at p.place) in
    unless_unspoiled (machine_at p.place).ending p (attempted_by m (marked p)) (attempt_unspoiled (marked p) m)

pub never_spoiled : (r : Run) (n : ℕ) → IsIdle r → (state_at r n).residence.spoiled ≡ 0
unfolding paged all_evicted
never_spoiled r zero idle = refl
never_spoiled r (suc n) idle =
    let q = state_at r n in
    ap (λ (ts : List Target). (attempted (all_evicted (all_named r.areas ts) q)).residence.spoiled) (idle (q.turns + 1))
    ∙ (attempted_unspoiled q ∙ never_spoiled r n idle)

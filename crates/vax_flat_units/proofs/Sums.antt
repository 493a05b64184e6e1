-- At every place within a step the units that are done and those that are left come to the same.
use Rattle.std.proofs.Common.{◌≡◌, ℕ, zero, suc, ◌+◌, ◌-◌, ◌<◌, ◌≤◌, ◌^◌, true, Option, Some, None, List, refl, sym, ap, subst, ◌∙◌, arith}
use Rattle.std.specs.Prelude.{nat_lt}
use Rattle.std.proofs.lemmas.Bool.Decides.{nat_tests}
use Rattle.vax_word.specs.declared.Core.{Core}
use Rattle.vax_space.specs.declared.Area.{Area}
use Rattle.vax_isa.specs.declared.actions.Text.{Text}
use Rattle.vax_strpart.specs.declared.packing.Progress.{Progress}
use Rattle.vax_strpart.specs.Packing.{packed, unpacked}
use Rattle.vax_flat.specs.declared.Flow.TheVariants as flow
use Rattle.vax_flat.specs.State.{State, mode}
use Rattle.vax_flat.specs.Accesses.{Leaf, Went, Found}
use Rattle.vax_flat.specs.Outcome.{Outcome, Ends, Raised, outcome_of}
use Rattle.vax_flat.specs.Step.{Flat, state_of}
use Rattle.vax_flat.specs.String.{low_registers, suspended, from_registers, IsReady}
use Rattle.vax_flat.specs.StringParts.{resumed}
use Rattle.vax_flat.specs.Parts.{Partway, Place, At, Within, Leaves, GoesBy, later, gone_back, units_done, left_by, after_part, partway, outcome_at, turn, turn_from, units_after}
use Rattle.vax_flat.specs.Bound.{LeavesNoPart}
use Rattle.vax_flat.proofs.StringState.{mode_low, unpacked_suspended}
use Rattle.vax_flat.proofs.StringGoing.{Family, IsSound, Goes, Completed, Leaving, Failing, fin, later_of, part_of}
use Rattle.vax_flat.proofs.Suspended.{suspended_kept, state_there, kept_low, on, sound_on, ready_on, later_part, later_goes}
use Rattle.vax_flat.proofs.StringBeginning.{family_of, opcode_of, resumed_is}
use Rattle.vax_flat_units.specs.Units.{Counts}
use Rattle.vax_flat_units.specs.Violations.{units_reached}
use Rattle.vax_flat_units.specs.Places.{AreMade, units_of, units_from}
use Rattle.vax_flat_units.proofs.Families.{units_by, counts}
use Rattle.vax_flat_units.proofs.Reached.{reached_by, reached_is, AreClear, clears, made_of, mode_suspended}
use Rattle.vax_flat_units.proofs.Places.{IsFirst, Whole, Opens, first_is, few}

-- A string instruction is left here, with a progress in the registers: the units that are done and those that are left are these.
pub record IsOpen (total : ℕ) (p : Partway) : Type 0 where
  pub text : Text
  pub rest : Progress
  pub state : State
  pub is_opcode : p.opcode ≡ opcode_of text
  pub op : rest.op ≡ opcode_of text
  pub ready : IsReady state
  pub sound : IsSound (family_of text) rest state p.now.memory
  pub here : state_of p.now ≡ suspended rest state
  pub some : 1 ≤ reached_by (family_of text) rest (mode state) p.now.memory
  pub sum : total ≡ p.units + reached_by (family_of text) rest (mode state) p.now.memory

-- the part from registers that were left makes units, and leaves as many fewer
later_counts : (f : Family) (q : Progress) (u : State) (memory : List Area) (ready : IsReady u) (sound : IsSound f q u memory) → Counts (units_by f) q.op (units_by f q memory) (outcome_of (part_of f q (on f q u memory ready sound) fin) memory)
later_counts f q u memory ready sound = counts f q (on f q u memory ready sound) memory (ready_on f q u memory ready sound) (sound_on f q u memory ready sound)

-- and none of them violates
later_clears : (f : Family) (q : Progress) (u : State) (memory : List Area) (ready : IsReady u) (sound : IsSound f q u memory) → AreClear f q (on f q u memory ready sound) memory (outcome_of (part_of f q (on f q u memory ready sound) fin) memory)
later_clears f q u memory ready sound = clears f q (on f q u memory ready sound) memory (ready_on f q u memory ready sound) (sound_on f q u memory ready sound)

abbrev left_there : Flat → Core → Progress → State → ℕ → List Area → Partway
left_there m start q u units memory = record {
  opcode = q.op;
  start = start;
  units = units;
  now = record m { core = (suspended q u).core; memory = memory; taken = (suspended q u).taken };
}

opened : (m : Flat) (start : Core) (t : Text) (q : Progress) (u : State) (total units : ℕ) (memory : List Area) → q.op ≡ opcode_of t → IsReady u → IsSound (family_of t) q u memory → u.input ≡ m.input → u.sent ≡ None →
    1 ≤ reached_by (family_of t) q (mode u) memory → total ≡ units + reached_by (family_of t) q (mode u) memory → IsOpen total (left_there m start q u units memory)
opened m start t q u total units memory op ready sound input sent some sum =
    let s = suspended_kept q u in record {
      text = t;
      rest = q;
      state = u;
      is_opcode = op;
      op = op;
      ready = ready;
      sound = sound;
      here = state_there m (suspended q u) memory (s.0 ∙ input) (s.2 ∙ sent);
      some = some;
      sum = sum;
    }

not_left : (m : Flat) (units : ℕ) (o : Outcome Leaf) → LeavesNoPart o → left_by (turn_from m units o) ≡ None
not_left m units (Ends (Went flow.Done s) memory) h = refl
not_left m units (Ends (Went flow.Clocked s) memory) h = refl
not_left m units (Ends (Went (flow.Trap kind) s) memory) h = refl
not_left m units (Ends (Went (flow.More opcode more) s) memory) h = absurd h
not_left m units (Ends (Went (flow.Ended e) s) memory) h = refl
not_left m units (Ends (Found operand s) memory) h = refl
not_left m units (Raised e) h = refl

-- units are counted, as there are no more than their number can say
all_counted : (done made : ℕ) → done + made < 2 ^ 32 → units_after done made ≡ done + made
all_counted done made few = let t : nat_lt (done + made) (2 ^ 32) ≡ true = grind (arith, nat_tests) in rw t refl

-- the place that a turn leaves has more units done, and the same sum
pub record IsNext (total done : ℕ) (p : Partway) : Type 0 where
  pub opens : IsOpen total p
  pub more : done < p.units

-- after the first part
first_opens : (m : Flat) (total : ℕ) (o : Outcome Leaf) → total < 2 ^ 32 → IsFirst m total o → (p : Partway) → left_by (turn_from m 0 o) ≡ Some p → IsNext total 0 p
first_opens m total o few (Whole x none) p e = let no' : None ≡ Some p = sym (not_left m 0 x none) ∙ e in absurd (cc)
first_opens m total o few (Opens t q made u memory op ready sound input sent some rest sum) p e =
    let count : units_after 0 made ≡ made = all_counted 0 made (omega (arith, sum)) ∙ (let z : 0 + made ≡ made = omega arith in z) in
    let is : left_there m m.core q u (units_after 0 made) memory ≡ p = cc in
    subst (IsNext total 0) is (record {
      opens = opened m m.core t q u total (units_after 0 made) memory op ready sound input sent rest (sum ∙ ap (λ n. n + reached_by (family_of t) q (mode u) memory) (sym count));
      more = omega (arith, count);
    })

-- after a later part
module _ (total : ℕ) (few : total < 2 ^ 32) (p : Partway) (o : IsOpen total p) where
  abbrev f : Family
  f = family_of o.text

  abbrev here : State
  here = on f o.rest o.state p.now.memory o.ready o.sound

  later_outcome : outcome_at (Within p) ≡ outcome_of (part_of f o.rest here fin) p.now.memory
  unfolding later
  later_outcome =
      ap (λ opcode. outcome_of (resumed opcode (state_of p.now) fin) p.now.memory) o.is_opcode
      ∙ (ap (λ tree. outcome_of tree p.now.memory) (resumed_is o.text (state_of p.now) fin)
      ∙ (ap (λ opcode. outcome_of (from_registers opcode (later_of f) (state_of p.now) fin) p.now.memory) (sym o.op)
      ∙ (ap (λ s. outcome_of (from_registers o.rest.op (later_of f) s fin) p.now.memory) o.here
      ∙ later_part f o.rest o.state p.now.memory o.ready o.sound)))

  later_opens : (outcome : Outcome Leaf) → Goes f o.rest here p.now.memory outcome → Counts (units_by f) o.rest.op (units_by f o.rest p.now.memory) outcome → AreClear f o.rest here p.now.memory outcome →
      (next : Partway) → left_by (turn_from (gone_back (Within p)) p.units outcome) ≡ Some next → IsNext total p.units next
  later_opens outcome (Completed t memory) c k next e = absurd (cc)
  later_opens outcome (Failing x reads) c k next e = absurd (cc)
  later_opens outcome (Leaving q made memory same sound kept less) c k next e =
      let ready = ready_on f o.rest o.state p.now.memory o.ready o.sound in
      let of = made_of f o.rest q here made p.now.memory memory ready sound same kept c k in
      let made_so : reached_by f o.rest (mode o.state) p.now.memory ≡ made + reached_by f q (mode here) memory = ap (λ n. reached_by f o.rest n p.now.memory) (sym (mode_low o.state (packed o.rest (low_registers o.state)))) ∙ of.sum in
      let all = o.sum in
      let some = of.some in
      let sum : total ≡ p.units + made + reached_by f q (mode here) memory = omega arith in
      let count : units_after p.units made ≡ p.units + made = all_counted p.units made (omega arith) in
      let there : left_there (gone_back (Within p)) p.start q here (units_after p.units made) memory ≡ next = cc in
      let low = kept_low (packed o.rest (low_registers o.state)) o.state in
      let s = suspended_kept o.rest o.state in
      let input : o.state.input ≡ p.now.input = sym s.0 ∙ sym (ap (λ x. x.input) o.here) in
      let sent : o.state.sent ≡ None = sym s.2 ∙ sym (ap (λ x. x.sent) o.here) in
      subst (IsNext total p.units) there (record {
        opens = opened (gone_back (Within p)) p.start o.text q here total (units_after p.units made) memory (same ∙ o.op) ready sound (low.0 ∙ input) (low.2 ∙ sent) of.rest (sum ∙ ap (λ n. n + reached_by f q (mode here) memory) (sym count));
        more = omega (arith, count, some);
      })

  later_next : (next : Partway) → left_by (turn (Within p)) ≡ Some next → IsNext total p.units next
  later_next next e =
      later_opens (outcome_of (part_of f o.rest here fin) p.now.memory) (later_goes f o.rest o.state p.now.memory o.ready o.sound) (later_counts f o.rest o.state p.now.memory o.ready o.sound) (later_clears f o.rest o.state p.now.memory o.ready o.sound) next
      (sym (ap (λ x. left_by (turn_from (gone_back (Within p)) p.units x)) later_outcome) ∙ e)

  -- what its registers say
  left_here : units_from (Within p) ≡ reached_by f o.rest (mode o.state) p.now.memory
  left_here =
      ap (λ opcode. units_reached opcode (unpacked opcode (low_registers (state_of p.now))) (mode (state_of p.now)) p.now.memory) (o.is_opcode ∙ sym o.op)
      ∙ (ap (λ s. units_reached o.rest.op (unpacked o.rest.op (low_registers s)) (mode s) p.now.memory) o.here
      ∙ (ap (λ r. units_reached o.rest.op r (mode (suspended o.rest o.state)) p.now.memory) (unpacked_suspended o.rest o.state o.ready.full o.sound.proper)
      ∙ (ap (λ n. units_reached o.rest.op o.rest n p.now.memory) (mode_suspended o.rest o.state)
      ∙ (ap (λ opcode. units_reached opcode o.rest (mode o.state) p.now.memory) o.op ∙ reached_is o.text o.rest (mode o.state) p.now.memory))))

module _ (m : Flat) where
  open_after : (count : ℕ) (p : Partway) → partway count m ≡ Some p → IsOpen (units_of m) p
  unfolding partway
  open_after zero p e = (first_opens m (units_of m) (outcome_at (At m)) (few m) (first_is m) p e).opens
  open_after (suc count) p e = by (partway count m) (λ q is. open_after count q is) e
    where
      by : (before : Option Partway) → ((q : Partway) → before ≡ Some q → IsOpen (units_of m) q) → after_part before ≡ Some p → IsOpen (units_of m) p
      by None open_before e = absurd (cc)
      by (Some q) open_before e = (later_next (units_of m) (few m) q (open_before q refl) p e).opens

  pub sums : (place : Place) → GoesBy m place → units_done place + units_from place ≡ units_of m
  sums (At n) same = let z : 0 + units_of n ≡ units_of n = omega arith in z ∙ ap units_of same
  sums (Within p) by =
      let o = open_after by.0 p by.1 in
      ap (λ n. p.units + n) (left_here (units_of m) (few m) p o) ∙ sym o.sum

  rests : (p : Partway) → GoesBy m (Within p) → 1 ≤ units_from (Within p)
  rests p by =
      let o = open_after by.0 p by.1 in
      subst (λ n. 1 ≤ n) (sym (left_here (units_of m) (few m) p o)) o.some

  pub grows : (place : Place) (next : Partway) → GoesBy m place → turn place ≡ Leaves next → units_done place < next.units
  grows (At n) next same is = (first_opens m (units_of m) (outcome_at (At m)) (few m) (first_is m) next (ap (λ x. left_by (turn (At x))) (sym same) ∙ ap left_by is)).more
  grows (Within p) next by is = (later_next (units_of m) (few m) p (open_after by.0 p by.1) next (ap left_by is)).more

  goes_on : (place : Place) (next : Partway) → GoesBy m place → turn place ≡ Leaves next → GoesBy m (Within next)
  unfolding partway
  goes_on (At n) next same is = (0, ap (λ x. left_by (turn (At x))) (sym same) ∙ ap left_by is)
  goes_on (Within p) next by is = (suc by.0, ap after_part by.1 ∙ ap left_by is)

  pub made : (place : Place) (next : Partway) → GoesBy m place → turn place ≡ Leaves next → AreMade place next
  made place next by is =
      let before = sums place by in
      let behind = sums (Within next) (goes_on place next by is) in
      let more = grows place next by is in
      record {
        made = next.units - units_done place;
        some = omega (arith, more);
        done = omega (arith, more);
        left = omega (arith, more, before, behind);
        rest = rests next (goes_on place next by is);
      }

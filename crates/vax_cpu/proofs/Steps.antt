-- What an attempt came to, said by the flat machine.
use Rattle.std.specs.Prelude.{IfSome}
use Rattle.std.proofs.Common.{Bool, ◌≡◌, ℕ, suc, zero, Option, Some, None, List, refl, sym, ap, subst, ◌∙◌}
use Rattle.vax_word.specs.declared.Core.{Core}
use Rattle.vax_space.specs.declared.Area.{Area}
use Rattle.vax_flat.specs.declared.Exception.{Exception}
use Rattle.vax_flat.specs.declared.Cut.TheVariants as cut
use Rattle.vax_flat.specs.declared.Ending.{Ending}
use Rattle.vax_flat.specs.declared.Flow.TheVariants as flow
use Rattle.vax_flat.specs.State.{State, with_sent}
use Rattle.vax_flat.specs.Port.{View, StandsFor, with_marks}
use Rattle.vax_flat.specs.Inside.{IsMissing}
use Rattle.vax_flat.specs.Accesses.{Accesses, Leaf, Went}
use Rattle.vax_flat.specs.Outcome.{Outcome, Ends, Raised, outcome_of, touches_of, first_missing, or_else, marked_by, unless_absent}
use Rattle.vax_flat.specs.OverPort.{Present, Arrival, Comes, Stops, Agrees, marks_of, over_port}
use Rattle.vax_flat.specs.Bound.{LeavesNoPart}
use Rattle.vax_flat.specs.Step.{Flat, state_of, whole_delivery, concluded, ended, after_delivery, touches_after, with_byte_sent}
use Rattle.vax_flat.specs.Parts.{Partway, Place, At, Within, Completes, Leaves, GoesBy, after_part, gone_back, left_by, machine_at, outcome_at, partway, start_of, touches_at, tree_at, turn, turn_from, units_after, units_done}
use Rattle.vax_flat.proofs.Parts.{turns_agree}
use Rattle.vax_flat.proofs.Steps.{delivers_whole}
use Rattle.vax_flat.proofs.Standing.{standing}
use Rattle.vax_flat.proofs.Marks.{marks_are, marked_by-append}
use Rattle.vax_flat.proofs.Inside.{stops_missing}
use Rattle.vax_flat.proofs.Joined.{first_missing-append}
use Rattle.vax_undo.specs.declared.term.Term.{Term}
use Rattle.vax_undo.specs.Transaction.{state_of as state_at}
use Rattle.vax_cpu.specs.declared.attempt.Tried.{Tried}
use Rattle.vax_cpu.specs.declared.attempt.Tried.TheVariants as tried
use Rattle.vax_cpu.specs.declared.cpu.Attempt.TheVariants as attempt
use Rattle.vax_cpu.specs.declared.cpu.Cpu.{Cpu}
use Rattle.vax_cpu.specs.declared.cpu.Open.{Open}
use Rattle.vax_cpu.specs.Tried.{IsFinal, IsTried, Made, AtOnce, Delivered, led_back, marked_as, put_again, start_by, tree_of, with_registers}
use Rattle.vax_cpu.specs.Attempt.{flat_of, answer_of, open_after, open_at, Attempted, LeavesMemory, Marks, StopsInside}

flat_alike : (c d : Core) (memory : List Area) (i j : List ℕ) (t u : ℕ) (o p : List ℕ) (e f : Option Ending) → c ≡ d → i ≡ j → t ≡ u → o ≡ p → e ≡ f →
    ◌≡◌ {A = Flat} (record { core = c; memory = memory; input = i; taken = t; output = o; ending = e }) (record { core = d; memory = memory; input = j; taken = u; output = p; ending = f })
flat_alike c d memory i j t u o p e f ec ei et eo ee k = record { core = ec k; memory = memory; input = ei k; taken = et k; output = eo k; ending = ee k }

-- a processor after a step that was kept
after_step : (m : Flat) (s : State) (memory : List Area) (cpu : Cpu) (sent : Option ℕ) → m.ending ≡ None → m.input ≡ cpu.term.input.items →
    cpu.core ≡ s.core → cpu.term.place ≡ s.taken → sent ≡ s.sent → concluded m (Went flow.Done s) memory ≡ flat_of cpu memory (with_byte_sent m.output sent)
after_step m s memory cpu sent running input core taken byte =
    flat_alike s.core cpu.core memory m.input cpu.term.input.items s.taken cpu.term.place (with_byte_sent m.output s.sent) (with_byte_sent m.output sent) m.ending None
    (sym core) input (sym taken) (ap (with_byte_sent m.output) (sym byte)) running

-- a processor that has sent nothing
pub unsent : (core : Core) (term : Term) (view : View) → term.out ≡ None →
    ◌≡◌ {A = Present} (record { state = state_at core term; view = view }) (record { state = record { core = core; input = term.input.items; taken = term.place; sent = None }; view = view })
unsent core term view e k = record { state = record { core = core; input = term.input.items; taken = term.place; sent = e k }; view = view }

-- a port stands for the same memories whatever is marked
pub stands_marked : (view : View) (marked : ℕ → Bool) (memory : List Area) → StandsFor view memory → StandsFor (with_marks view marked) memory
stands_marked view marked memory st = record { areas = st.areas; bytes = st.bytes; whole = st.whole }

-- what a tree comes to, and the pages that it marks
module _ (tree : Accesses Leaf) (view : View) (memory : List Area) (st : StandsFor view memory) (arrival : Arrival Leaf) (came : over_port tree view ≡ arrival) where
  agrees : Agrees view memory arrival (first_missing view.resident (touches_of tree memory)) (outcome_of tree memory)
  agrees = subst (λ x. Agrees view memory x (first_missing view.resident (touches_of tree memory)) (outcome_of tree memory)) came (standing tree view memory st)

  marks : marks_of arrival ≡ marked_by view.resident view.marked (touches_of tree memory)
  marks = sym (ap marks_of came) ∙ marks_are tree view memory st

-- the step goes on by the part that is left
pub goes_by : (m : Flat) (place : Place) (next : Partway) → turn place ≡ Leaves next → GoesBy m place → GoesBy m (Within next)
unfolding partway
goes_by m (At n) next is same = (zero, ap (λ x. left_by (turn (At x))) (sym same) ∙ ap left_by is)
goes_by m (Within p) next is by = (suc by.0, ap after_part by.1 ∙ ap left_by is)

-- the part that is open, where it is
opened_is : (place : Place) (done : Open) → done.start ≡ (machine_at place).core →
    open_after (open_at place) (tried.Part done) ≡ Some (record { opcode = done.opcode; start = start_of place; units = units_after (units_done place) done.units })
opened_is (At m) done start = ap (λ (c : Core). Some (record { opcode = done.opcode; start = c; units = units_after 0 done.units })) start
opened_is (Within p) done start = refl

pub tree_there : (place : Place) → tree_of (open_at place) ≡ tree_at place
tree_there (At m) = refl
tree_there (Within p) = refl

pub start_there : (place : Place) → start_by (open_at place) (machine_at place).core ≡ start_of place
start_there (At m) = refl
start_there (Within p) = refl

-- a step that was completed so, as the flat machine makes it
pub record Concluded (view : View) (place : Place) (s : State) (after : View) : Type 0 where
  pub first : first_missing view.resident (touches_at place) ≡ None
  pub memory : List Area
  pub turn : turn place ≡ Completes (concluded (gone_back place) (Went flow.Done s) memory)
  pub leaves : LeavesMemory view place memory after

module _ (view : View) (place : Place) (st : StandsFor view (machine_at place).memory) where
  abbrev here : Flat
  here = machine_at place

  abbrev back : Flat
  back = gone_back place

  abbrev tree : Accesses Leaf
  tree = tree_at place (state_of here)

  abbrev tree_first : Option ℕ
  tree_first = first_missing view.resident (touches_of tree here.memory)

  abbrev tree_marks : ℕ → Bool
  tree_marks = marked_by view.resident view.marked (touches_of tree here.memory)

  turn_is : (outcome : Outcome Leaf) → outcome_at place ≡ outcome → turn place ≡ turn_from back (units_done place) outcome
  turn_is outcome e = ap (turn_from back (units_done place)) e

  touches_are : (first : Option ℕ) (outcome : Outcome Leaf) → tree_first ≡ first → outcome_at place ≡ outcome →
      first_missing view.resident (touches_at place) ≡ or_else first (first_missing view.resident (touches_after back outcome))
  touches_are first outcome e f =
      first_missing-append view.resident (touches_of tree here.memory) (touches_after back (outcome_at place))
      ∙ (ap (λ x. or_else x (first_missing view.resident (touches_after back (outcome_at place)))) e
      ∙ ap (λ x. or_else first (first_missing view.resident (touches_after back x))) f)

  marks_join : (first : Option ℕ) (outcome : Outcome Leaf) (marked : ℕ → Bool) → tree_first ≡ first → outcome_at place ≡ outcome → marked ≡ tree_marks →
      marked_by view.resident view.marked (touches_at place) ≡ unless_absent first marked (marked_by view.resident marked (touches_after back outcome))
  marks_join first outcome marked e f g =
      marked_by-append view.resident view.marked (touches_of tree here.memory) (touches_after back (outcome_at place))
      ∙ (ap (λ x. unless_absent x tree_marks (marked_by view.resident tree_marks (touches_after back (outcome_at place)))) e
      ∙ (ap (λ x. unless_absent first x (marked_by view.resident x (touches_after back (outcome_at place)))) (sym g)
      ∙ ap (λ x. unless_absent first marked (marked_by view.resident marked (touches_after back x))) f))

  -- where the tree came to its end, nothing follows
  first_none : (leaf : Leaf) (memory : List Area) → tree_first ≡ None → outcome_at place ≡ Ends leaf memory → first_missing view.resident (touches_at place) ≡ None
  unfolding first_missing
  first_none leaf memory e f = touches_are None (Ends leaf memory) e f

  marks_whole : (leaf : Leaf) (memory : List Area) (marked : ℕ → Bool) → tree_first ≡ None → outcome_at place ≡ Ends leaf memory → marked ≡ tree_marks → marked ≡ marked_by view.resident view.marked (touches_at place)
  unfolding marked_by
  marks_whole leaf memory marked e f g = sym (marks_join None (Ends leaf memory) marked e f g)

  -- what the tree leaves where it came to its end
  module _ (leaf : Leaf) (after : View) (came : over_port tree view ≡ Comes leaf after) where
    ended_at : Agrees view here.memory (Comes leaf after) tree_first (outcome_at place)
    ended_at = agrees tree view here.memory st (Comes leaf after) came

    first_end : first_missing view.resident (touches_at place) ≡ None
    first_end = first_none leaf ended_at.3.0 ended_at.0 ended_at.3.1

    leaves_end : LeavesMemory view place ended_at.3.0 after
    leaves_end = record {
      stands = ended_at.3.2;
      absent = ended_at.3.3;
      resident = ended_at.1;
      areas = ended_at.2;
      marks = marks_whole leaf ended_at.3.0 after.marked ended_at.0 ended_at.3.1 (marks tree view here.memory st (Comes leaf after) came);
    }

  -- an instruction that was completed
  pub step_concluded : (s : State) (after : View) → over_port tree view ≡ Comes (Went flow.Done s) after → Concluded view place s after
  step_concluded s after came =
      let a = ended_at (Went flow.Done s) after came in
      record { first = first_end (Went flow.Done s) after came; memory = a.3.0; turn = turn_is (Ends (Went flow.Done s) a.3.0) a.3.1; leaves = leaves_end (Went flow.Done s) after came }

  -- what the flat machine raises
  pub raises_there : (x : Exception) (after : Present) → IsTried (tree_at place) (record { state = state_of here; view = view }) (tried.Event x) after → outcome_at place ≡ Raised x
  raises_there x after t = (agrees tree view here.memory st (Stops (cut.Event x) after.view.marked) t.0).1

  module _ (running : here.ending ≡ None) (cpu : Cpu) (after : View) (input : here.input ≡ cpu.term.input.items) where
    abbrev new : Present
    new = record { state = state_at cpu.core cpu.term; view = after }

    kept : (s : State) (sent : Option ℕ) → Concluded view place s after → state_at cpu.core cpu.term ≡ with_sent s None → sent ≡ s.sent → Attempted view place (attempt.Step sent) cpu after
    kept s sent c same byte =
        let is : turn place ≡ Completes (flat_of cpu c.memory (with_byte_sent here.output sent)) =
        c.turn ∙ ap (λ x. Completes x) (after_step back s c.memory cpu sent running input (ap (λ (x : State). x.core) same) (ap (λ (x : State). x.taken) same) byte) in (
          c.first,
          record { memory = c.memory; turn = is; step = λ m going by. turns_agree m place _ going by is; leaves = c.leaves },
        )

    -- a part that was kept
    parted : (done : Open) (s : State) → over_port tree view ≡ Comes (Went (flow.More done.opcode done.units) s) after → state_at cpu.core cpu.term ≡ with_sent s None →
        cpu.latch ≡ Some (record { opcode = done.opcode; start = start_of place; units = units_after (units_done place) done.units }) → Attempted view place attempt.Part cpu after
    parted done s came same latched =
        let end : Leaf = Went (flow.More done.opcode done.units) s in
        let a = ended_at end after came in
        let next : Partway = record {
          opcode = done.opcode;
          start = start_of place;
          units = units_after (units_done place) done.units;
          now = record back { core = s.core; memory = a.3.0; taken = s.taken };
        } in
        let is : turn place ≡ Leaves next = turn_is (Ends end a.3.0) a.3.1 in (
          first_end end after came,
          record {
            next = next;
            turn = is;
            by = λ m by. goes_by m place next is by;
            at = record {
              open_one = latched;
              machine = flat_alike cpu.core s.core a.3.0 cpu.term.input.items here.input cpu.term.place s.taken here.output here.output None here.ending
                  (ap (λ (x : State). x.core) same) (sym input) (ap (λ (x : State). x.taken) same) refl (sym running);
            };
            leaves = leaves_end end after came;
          },
        )

    at_end : (e : Ending) → first_missing view.resident (touches_at place) ≡ None → turn place ≡ Completes (ended back e) → Marks view place after → Attempted view place (attempt.Ended e) cpu after
    at_end e first is marks_are = (first, record { turn = is; step = λ m going by. turns_agree m place _ going by is; marks = marks_are })

    -- an attempt that raised no exception
    at_once : (t : Tried) (mid : Present) → IsFinal t → IsTried (tree_at place) (record { state = state_of here; view = view }) t mid → new ≡ led_back (start_of place) t mid →
        cpu.latch ≡ open_after (open_at place) t → IfSome (answer_of t) (λ a. Attempted view place a cpu after)
    at_once (tried.Step sent) mid final is led latched =
        let t : IsTried (tree_at place) (record { state = state_of here; view = view }) (tried.Step sent) new = subst (IsTried (tree_at place) (record { state = state_of here; view = view }) (tried.Step sent)) (sym led) is in
        kept t.0 sent (step_concluded t.0 after t.1) t.2 t.3
    at_once (tried.Part done) mid final is led latched =
        let t : IsTried (tree_at place) (record { state = state_of here; view = view }) (tried.Part done) new = subst (IsTried (tree_at place) (record { state = state_of here; view = view }) (tried.Part done)) (sym led) is in
        parted done t.0 t.1 t.2 (latched ∙ opened_is place done t.3)
    at_once (tried.Absent page) mid final is led latched =
        let t : IsTried (tree_at place) (record { state = state_of here; view = view }) (tried.Absent page) new = subst (IsTried (tree_at place) (record { state = state_of here; view = view }) (tried.Absent page)) (sym led) is in
        let a = agrees tree view here.memory st (Stops (cut.Absent page) after.marked) t.0 in
        let k = marks tree view here.memory st (Stops (cut.Absent page) after.marked) t.0 in
        (touches_are (Some page) (outcome_at place) a refl, sym (marks_join (Some page) (outcome_at place) after.marked a refl k))
    at_once (tried.Ended e) mid final is led latched =
        let end : Leaf = Went (flow.Ended e) is.0 in
        let a = agrees tree view here.memory st (Comes end is.1) is.2 in
        let k = marks tree view here.memory st (Comes end is.1) is.2 in
        let same : after.marked ≡ mid.view.marked = ap (λ (p : Present). p.view.marked) led in
        at_end e (first_none end a.3.0 a.0 a.3.1) (turn_is (Ends end a.3.0) a.3.1) (marks_whole end a.3.0 after.marked a.0 a.3.1 (same ∙ (sym is.3 ∙ k)))
    at_once (tried.Event e) mid final is led latched = absurd final

    -- one that raised an exception, whose delivery follows
    module _ (x : Exception) (marked : ℕ → Bool) (raised : over_port tree view ≡ Stops (cut.Event x) marked) where
      abbrev there : View
      there = with_marks view marked

      stands_there : StandsFor there here.memory
      stands_there = stands_marked view marked here.memory st

      abbrev delivery_tree : Accesses Leaf
      delivery_tree = whole_delivery x (state_of back)

      abbrev delivery_outcome : Outcome Leaf
      delivery_outcome = outcome_of delivery_tree here.memory

      raises : (tree_first ≡ None) × (outcome_at place ≡ Raised x)
      raises = agrees tree view here.memory st (Stops (cut.Event x) marked) raised

      touches_it : first_missing view.resident (touches_at place) ≡ first_missing view.resident (touches_of delivery_tree here.memory)
      touches_it = touches_are None (Raised x) raises.0 raises.1

      marks_it : marked_by view.resident view.marked (touches_at place) ≡ marked_by view.resident marked (touches_of delivery_tree here.memory)
      marks_it = marks_join None (Raised x) marked raises.0 raises.1 (marks tree view here.memory st (Stops (cut.Event x) marked) raised)

      turn_it : (outcome : Outcome Leaf) → delivery_outcome ≡ outcome → turn place ≡ Completes (after_delivery back outcome)
      turn_it outcome e = turn_is (Raised x) raises.1 ∙ ap (λ o. Completes (after_delivery back o)) e

      delivery_concluded : (s : State) → over_port delivery_tree there ≡ Comes (Went flow.Done s) after → Concluded view place s after
      delivery_concluded s came =
          let a = agrees delivery_tree there here.memory stands_there (Comes (Went flow.Done s) after) came in
          record {
            first = touches_it ∙ a.0;
            memory = a.3.0;
            turn = turn_it (Ends (Went flow.Done s) a.3.0) a.3.1;
            leaves = record {
              stands = a.3.2;
              resident = a.1;
              areas = a.2;
              absent = a.3.3;
              marks = marks delivery_tree there here.memory stands_there (Comes (Went flow.Done s) after) came ∙ sym marks_it;
            };
          }

      -- a delivery leaves no part
      no_part : (opcode units : ℕ) (s : State) (next : View) → over_port delivery_tree there ≡ Comes (Went (flow.More opcode units) s) next → ⊥
      no_part opcode units s next came =
          let a = agrees delivery_tree there here.memory stands_there (Comes (Went (flow.More opcode units) s) next) came in
          subst LeavesNoPart a.3.1 (delivers_whole x (state_of back) here.memory)

      delivered : (t : Tried) (mid : Present) → IsTried (whole_delivery x) (record { state = state_of back; view = there }) t mid → new ≡ put_again here.core t mid → IfSome (answer_of t) (λ a. Attempted view place a cpu after)
      delivered (tried.Step sent) mid is put =
          let t : IsTried (whole_delivery x) (record { state = state_of back; view = there }) (tried.Step sent) new = subst (IsTried (whole_delivery x) (record { state = state_of back; view = there }) (tried.Step sent)) (sym put) is in
          kept t.0 sent (delivery_concluded t.0 t.1) t.2 t.3
      delivered (tried.Part done) mid is put = absurd (no_part done.opcode done.units is.0 mid.view is.1)
      delivered (tried.Absent page) mid is put =
          let same : after.marked ≡ mid.view.marked = ap (λ (p : Present). p.view.marked) put in
          let k = marks delivery_tree there here.memory stands_there (Stops (cut.Absent page) mid.view.marked) is.0 in
          (touches_it ∙ agrees delivery_tree there here.memory stands_there (Stops (cut.Absent page) mid.view.marked) is.0, same ∙ (k ∙ sym marks_it))
      delivered (tried.Ended e) mid is put =
          let end : Leaf = Went (flow.Ended e) is.0 in
          let a = agrees delivery_tree there here.memory stands_there (Comes end is.1) is.2 in
          let k = marks delivery_tree there here.memory stands_there (Comes end is.1) is.2 in
          let same : after.marked ≡ mid.view.marked = ap (λ (p : Present). p.view.marked) put in
          at_end e (touches_it ∙ a.0) (turn_it (Ends end a.3.0) a.3.1) (same ∙ (sym is.3 ∙ (k ∙ sym marks_it)))
      delivered (tried.Event e) mid is put = tt

    pub attempted : (t : Tried) → Made (tree_at place) (start_of place) (record { state = state_of here; view = view }) t new → cpu.latch ≡ open_after (open_at place) t → IfSome (answer_of t) (λ a. Attempted view place a cpu after)
    attempted t (AtOnce mid final is led) latched = at_once t mid final is led latched
    attempted t (Delivered x raised mid is of_it put) latched =
        delivered x raised.view.marked is.0 t mid (subst (λ (p : Present). IsTried (whole_delivery x) (with_registers (start_of place) p) t mid) is.1 of_it) put

-- where no step was made, everything is where it was, but for the marks; an ending goes back to the registers at the start
abbrev pub Unmoved : Core → Tried → Present → Present → Type 0
Unmoved start (tried.Step sent) old now = Unit {0}
Unmoved start (tried.Part done) old now = Unit {0}
Unmoved start (tried.Absent page) old now = now ≡ marked_as old now.view
Unmoved start (tried.Ended e) old now = now ≡ with_registers start (marked_as old now.view)
Unmoved start (tried.Event e) old now = now ≡ with_registers start (marked_as old now.view)

module _ (start : Core) (old now : Present) where
  back_seen : (seen : View) → seen ≡ now.view → now ≡ marked_as old seen → now ≡ marked_as old now.view
  back_seen seen same e = e ∙ ap (marked_as old) same

  start_seen : (seen : View) → seen ≡ now.view → now ≡ with_registers start (marked_as old seen) → now ≡ with_registers start (marked_as old now.view)
  start_seen seen same e = e ∙ ap (λ (v : View). with_registers start (marked_as old v)) same

  module _ (raised mid : Present) (first : raised ≡ marked_as old raised.view) (second : mid ≡ marked_as (with_registers start raised) mid.view) where
    delivered_absent : now ≡ with_registers old.state.core mid → now ≡ marked_as old now.view
    delivered_absent e =
        back_seen mid.view (sym (ap (λ (p : Present). p.view) e))
        (e ∙ (ap (with_registers old.state.core) second ∙ ap (λ (p : Present). with_registers old.state.core (marked_as (with_registers start p) mid.view)) first))

    delivered_end : now ≡ mid → now ≡ with_registers start (marked_as old now.view)
    delivered_end e =
        start_seen mid.view (sym (ap (λ (p : Present). p.view) e))
        (e ∙ (second ∙ ap (λ (p : Present). marked_as (with_registers start p) mid.view) first))

  pub unmoved : (accesses : State → Accesses Leaf) (t : Tried) → Made accesses start old t now → Unmoved start t old now
  unmoved accesses (tried.Step sent) made = tt
  unmoved accesses (tried.Part done) made = tt
  unmoved accesses (tried.Absent page) (AtOnce mid final is led) = back_seen mid.view (sym (ap (λ (p : Present). p.view) led)) (led ∙ is.1)
  unmoved accesses (tried.Absent page) (Delivered x raised mid is of_it put) = delivered_absent raised mid is.1 of_it.1 put
  unmoved accesses (tried.Ended e) (AtOnce mid final is led) =
      start_seen mid.view (sym (ap (λ (p : Present). p.view) led)) (led ∙ ap (with_registers start) is.4)
  unmoved accesses (tried.Ended e) (Delivered x raised mid is of_it put) = delivered_end raised mid is.1 of_it.4 put
  unmoved accesses (tried.Event e) (AtOnce mid final is led) = absurd final
  unmoved accesses (tried.Event e) (Delivered x raised mid is of_it put) = delivered_end raised mid is.1 of_it.1 put

-- a page for which an attempt stops
inside_later : (old now : Present) (page : ℕ) → now ≡ marked_as old now.view → IsMissing now.view page → IsMissing old.view page
inside_later old now page same missing = subst (λ (p : Present). IsMissing p.view page) same missing

pub inside : (accesses : State → Accesses Leaf) (start : Core) (t : Tried) (old now : Present) → Made accesses start old t now → IfSome (answer_of t) (λ a. StopsInside a old.view)
inside accesses start (tried.Step sent) old now made = tt
inside accesses start (tried.Part done) old now made = tt
inside accesses start (tried.Ended e) old now made = tt
inside accesses start (tried.Event e) old now made = tt
inside accesses start (tried.Absent page) old now (AtOnce mid final is led) = stops_missing (accesses old.state) old.view page mid.view.marked is.0
inside accesses start (tried.Absent page) old now (Delivered x raised mid is of_it put) =
    inside_later old raised page is.1 (stops_missing (whole_delivery x (with_registers start raised).state) raised.view page mid.view.marked of_it.0)

-- what isn't an exception is final
pub final_of : (t : Tried) → ((e : Exception) → t ≡ tried.Event e → ⊥) → IsFinal t
final_of (tried.Step sent) other = tt
final_of (tried.Part done) other = tt
final_of (tried.Ended e) other = tt
final_of (tried.Absent page) other = tt
final_of (tried.Event e) other = other e refl

-- Several attempts, said by the flat machine.
use Rattle.std.proofs.Common.{Bool, false, ◌+◌, ◌⊎◌, ◌≡◌, ◌<◌, ℕ, zero, suc, Option, Some, None, List, [], refl, sym, ap, subst, ◌∙◌, arith, inl, inr}
use Rattle.std.proofs.lemmas.Bool.{cases_lt}
use Rattle.vax_word.specs.declared.Core.{Core}
use Rattle.vax_space.specs.declared.Area.{Area}
use Rattle.vax_space.specs.Reference.{page_of}
use Rattle.vax_flat.specs.declared.Flow.TheVariants as flow
use Rattle.vax_flat.specs.State.{State, with_sent}
use Rattle.vax_flat.specs.Memory.{byte_at}
use Rattle.vax_flat.specs.Port.{View, StandsFor, with_marks}
use Rattle.vax_flat.specs.Accesses.{Accesses, Leaf, Went}
use Rattle.vax_flat.specs.Outcome.{first_missing, marked_by}
use Rattle.vax_flat.specs.OverPort.{Present}
use Rattle.vax_flat.specs.Step.{Flat, step, run, state_of, concluded, with_byte_sent}
use Rattle.vax_flat.specs.Parts.{Place, At, Completes, machine_at, outcome_at, part_step, start_of, touches_at, tree_at, turn}
use Rattle.vax_flat.proofs.Parts.{turns_agree}
use Rattle.vax_cpu.specs.declared.attempt.Tried.{Tried}
use Rattle.vax_cpu.specs.declared.attempt.Tried.TheVariants as tried
use Rattle.vax_cpu.specs.Tried.{IsFinal, IsTried, Made, marked_as, start_by, tree_of, with_registers}
use Rattle.vax_cpu.specs.Batch.{Ran}
use Rattle.vax_cpu.specs.declared.cpu.Attempt.{Attempt}
use Rattle.vax_cpu.specs.declared.cpu.Attempt.TheVariants as attempt
use Rattle.vax_cpu.specs.declared.cpu.Cpu.{Cpu}
use Rattle.vax_cpu.specs.declared.cpu.Open.{Open}
use Rattle.vax_undo.specs.declared.term.Term.{Term}
use Rattle.vax_undo.specs.Transaction.{state_of as state_at}
use Rattle.vax_cpu.specs.Attempt.{flat_of, answer_of, open_after, Attempted, IsAsBefore, IsAt, IsOpenAfter, LeavesMemory, Marks, StopsInside}
use Rattle.vax_cpu.specs.Batch.{AreAttempts, Raises, StaysAt, marks_after}
use Rattle.vax_cpu.proofs.Steps.{Unmoved, attempted, inside, raises_there, stands_marked, start_there, step_concluded, tree_there, unmoved}
use Rattle.vax_flat.proofs.Inside.{tree_alike}
use Rattle.vax_space.specs.Areas.{area_of}
use Rattle.std.specs.Prelude.{is_some, IfSome, IsSome}
use Rattle.std.proofs.lemmas.Option.{IfSome_then}

-- the flat machine is where a transaction is
pub record IsWhere (view : View) (p : Present) (m : Flat) : Type 0 where
  pub running : m.ending ≡ None
  pub state : p.state ≡ state_of m
  pub stands : StandsFor p.view m.memory
  pub resident : p.view.resident ≡ view.resident
  pub areas : p.view.areas ≡ view.areas

-- it came there in so many steps
pub record Reaches (view : View) (m : Flat) (count : ℕ) (p : Present) : Type 0 where
  pub here : Flat
  pub steps : run count m ≡ here
  pub resident : (k : ℕ) → k < count → first_missing view.resident (touches_at (At (run k m))) ≡ None
  pub at_once : (k : ℕ) → k < count → turn (At (run k m)) ≡ Completes (step (run k m))
  pub silent : here.output ≡ m.output
  pub input : here.input ≡ m.input
  pub absent : (addr : ℕ) → view.resident (page_of addr) ≡ false → byte_at here.memory addr ≡ byte_at m.memory addr
  pub marks : p.view.marked ≡ marks_after view.resident view.marked count m
  pub is : IsWhere view p here

sent_nothing : (output : List ℕ) (sent : Option ℕ) → None ≡ sent → with_byte_sent output sent ≡ output
sent_nothing output None e = refl
sent_nothing output (Some byte) e = cc

state_after : (s : State) (m : Flat) (memory : List Area) → s.input ≡ m.input → with_sent s None ≡ state_of (concluded m (Went flow.Done s) memory)
state_after s m memory e k = record { core = s.core; input = e k; taken = s.taken; sent = None }

-- one more step
reaches_more : (view : View) (m : Flat) (count : ℕ) (mid next : Present) → Reaches view m count mid → IsTried part_step mid (tried.Step None) next → next.state.input ≡ mid.state.input → Reaches view m (suc count) next
unfolding run marks_after
reaches_more view m count mid next r t input =
    let here = r.here in
    let from_here : IsTried part_step (record { state = state_of here; view = mid.view }) (tried.Step None) next =
    subst (λ (s : State). IsTried part_step (record { state = s; view = mid.view }) (tried.Step None) next) r.is.state t in
    let one = step_concluded mid.view (At here) r.is.stands from_here.0 next.view from_here.1 in
    record {
      here = concluded here (Went flow.Done from_here.0) one.memory;
      steps = ap step r.steps ∙ turns_agree here (At here) (concluded here (Went flow.Done from_here.0) one.memory) r.is.running refl one.turn;
      resident = λ k below. elim (cases_lt k count) [
        | inl earlier ↦ r.resident k earlier
        | inr late ↦
            let last : k ≡ count = omega arith in
            ap (λ n. first_missing view.resident (touches_at (At (run n m)))) last
            ∙ (ap (λ x. first_missing view.resident (touches_at (At x))) r.steps ∙ (ap (λ f. first_missing f (touches_at (At here))) (sym r.is.resident) ∙ one.first))
      ];
      at_once = λ k below. elim (cases_lt k count) [
        | inl earlier ↦ r.at_once k earlier
        | inr late ↦
            let last : k ≡ count = omega arith in
            let now : turn (At here) ≡ Completes (step here) = one.turn ∙ ap (λ x. Completes x) (sym (turns_agree here (At here) (concluded here (Went flow.Done from_here.0) one.memory) r.is.running refl one.turn)) in
            subst (λ (n : ℕ). turn (At (run n m)) ≡ Completes (step (run n m))) (sym last) (subst (λ (x : Flat). turn (At x) ≡ Completes (step x)) (sym r.steps) now)
      ];
      silent = sent_nothing here.output from_here.0.sent from_here.3 ∙ r.silent;
      input = r.input;
      absent = λ addr gone. one.leaves.absent addr (ap (λ (f : ℕ → Bool). f (page_of addr)) r.is.resident ∙ gone) ∙ r.absent addr gone;
      marks = one.leaves.marks
          ∙ (ap (λ (f : ℕ → Bool). marked_by f mid.view.marked (touches_at (At here))) r.is.resident
          ∙ (ap (λ (f : ℕ → Bool). marked_by view.resident f (touches_at (At here))) r.marks
          ∙ ap (λ (x : Flat). marked_by view.resident (marks_after view.resident view.marked count m) (touches_at (At x))) (sym r.steps)));
      is = record {
        running = r.is.running;
        state = from_here.2 ∙ state_after from_here.0 here one.memory (sym (ap (λ (s : State). s.input) from_here.2) ∙ (input ∙ ap (λ (s : State). s.input) r.is.state));
        stands = one.leaves.stands;
        resident = one.leaves.resident ∙ r.is.resident;
        areas = one.leaves.areas ∙ r.is.areas;
      };
    }

pub reaches : (view : View) (m : Flat) (count : ℕ) (old new : Present) → IsWhere view old m → old.view.marked ≡ view.marked → Ran count old new → Reaches view m count new
unfolding run marks_after
reaches view m zero old new w marked ran = record {
  here = m;
  steps = refl;
  resident = λ k below. absurd (omega arith);
  at_once = λ k below. absurd (omega arith);
  silent = refl;
  input = refl;
  absent = λ addr gone. refl;
  marks = ap (λ (p : Present). p.view.marked) ran ∙ marked;
  is = subst (λ (p : Present). IsWhere view p m) (sym ran) w;
}
reaches view m (suc count) old new w marked ran = reaches_more view m count ran.0 new (reaches view m count old ran.0 w marked ran.1) ran.2 ran.3

-- where a transaction is, said by the flat machine
pub is_here : (view : View) (m : Flat) (p : Present) → IsWhere view p m → p ≡ record { state = state_of m; view = p.view }
is_here view m p w = λ k. record { state = w.state k; view = p.view }

-- an attempt seen from a view with the same areas, resident pages and marks
module _ (a b : View) (place : Place) (cpu : Cpu) (after : View) (resident : a.resident ≡ b.resident) (areas : a.areas ≡ b.areas) (marked : a.marked ≡ b.marked) where
  first_seen : (first : Option ℕ) → first_missing a.resident (touches_at place) ≡ first → first_missing b.resident (touches_at place) ≡ first
  first_seen first e = ap (λ f. first_missing f (touches_at place)) (sym resident) ∙ e

  marks_seen : Marks a place after → Marks b place after
  marks_seen e = e ∙ (ap (λ (f : ℕ → Bool). marked_by f a.marked (touches_at place)) resident ∙ ap (λ (f : ℕ → Bool). marked_by b.resident f (touches_at place)) marked)

  leaves_seen : (memory : List Area) → LeavesMemory a place memory after → LeavesMemory b place memory after
  leaves_seen memory k = record {
    stands = k.stands;
    absent = λ addr gone. k.absent addr (ap (λ (f : ℕ → Bool). f (page_of addr)) resident ∙ gone);
    resident = k.resident ∙ resident;
    areas = k.areas ∙ areas;
    marks = marks_seen k.marks;
  }

  pub seen : (answer : Attempt) → Attempted a place answer cpu after → Attempted b place answer cpu after
  seen (attempt.Step sent) k = (
    first_seen None k.0,
    record { memory = k.1.memory; turn = k.1.turn; step = k.1.step; leaves = leaves_seen k.1.memory k.1.leaves },
  )
  seen attempt.Part k = (
    first_seen None k.0,
    record { next = k.1.next; turn = k.1.turn; by = k.1.by; at = k.1.at; leaves = leaves_seen k.1.next.now.memory k.1.leaves },
  )
  seen (attempt.Absent page) k = (first_seen (Some page) k.0, marks_seen k.1)
  seen (attempt.Ended e) k = (first_seen None k.0, record { turn = k.1.turn; step = k.1.step; marks = marks_seen k.1.marks })

-- the last attempt, from where the steps before it came to
module _ (view : View) (m : Flat) (count : ℕ) (mid : Present) (r : Reaches view m count mid) (cpu : Cpu) (after : View) (input : m.input ≡ cpu.term.input.items) where
  abbrev new : Present
  new = record { state = state_at cpu.core cpu.term; view = after }

  input_here : r.here.input ≡ cpu.term.input.items
  input_here = r.input ∙ input

  -- registers and memory are where they were
  stays : new ≡ marked_as mid after → (flat_of cpu r.here.memory r.here.output ≡ r.here) × StandsFor after r.here.memory
  stays e =
      let s : new.state ≡ state_of r.here = ap (λ (p : Present). p.state) e ∙ r.is.state in (
        λ k. record {
          core = ap (λ (x : State). x.core) s k;
          memory = r.here.memory;
          input = sym input_here k;
          taken = ap (λ (x : State). x.taken) s k;
          output = r.here.output;
          ending = sym r.is.running k;
        },
        subst (λ (v : View). StandsFor v r.here.memory) (sym (ap (λ (p : Present). p.view) e)) (stands_marked mid.view after.marked r.here.memory r.is.stands),
      )

  abbrev before : View
  before = with_marks view (marks_after view.resident view.marked count m)

  all : (answer : Attempt) → Attempted before (At r.here) answer cpu after → StaysAt r.here answer cpu after → after.resident ≡ view.resident → after.areas ≡ view.areas → AreAttempts view m count answer cpu after
  all answer attempted stays_at pages areas = record { here = r.here; steps = r.steps; running = r.is.running; resident = r.resident; at_once = r.at_once; silent = r.silent; absent = r.absent; attempted = attempted; stays = stays_at; pages = pages; areas = areas }

  -- where the last attempt made no step
  none_made : (answer : Attempt) → Attempted before (At r.here) answer cpu after → StaysAt r.here answer cpu after → new ≡ marked_as mid after → AreAttempts view m count answer cpu after
  none_made answer attempted stays_at e =
      all answer attempted stays_at (ap (λ (p : Present). p.view.resident) e ∙ r.is.resident) (ap (λ (p : Present). p.view.areas) e ∙ r.is.areas)

  by_answer : (t : Tried) → Unmoved mid.state.core t mid new → IfSome (answer_of t) (λ a. Attempted before (At r.here) a cpu after) → IfSome (answer_of t) (λ a. AreAttempts view m count a cpu after)
  by_answer (tried.Step sent) u k = all (attempt.Step sent) k tt k.1.leaves.resident k.1.leaves.areas
  by_answer (tried.Part done) u k = all attempt.Part k tt k.1.leaves.resident k.1.leaves.areas
  by_answer (tried.Absent page) u k = none_made (attempt.Absent page) k (stays u) u
  by_answer (tried.Ended e) u k = none_made (attempt.Ended e) k (stays u) u
  by_answer (tried.Event e) u k = tt

  pub are_attempts : (t : Tried) → Made part_step mid.state.core mid t new → cpu.latch ≡ open_after None t → IfSome (answer_of t) (λ a. AreAttempts view m count a cpu after)
  are_attempts t made latched =
      let here = is_here view r.here mid r.is in
      let from_here : Made part_step r.here.core (record { state = state_of r.here; view = mid.view }) t new = subst (λ (p : Present). Made part_step p.state.core p t new) here made in
      by_answer t (unmoved mid.state.core mid new part_step t made)
      (IfSome_then (answer_of t) (attempted mid.view (At r.here) r.is.stands r.is.running cpu after input_here t from_here latched)
      (λ answer k. seen mid.view before (At r.here) cpu after r.is.resident r.is.areas r.marks answer k))

-- a batch goes on to its end, unless a step wasn't completed, sent a byte or raised an exception
pub goes_on : (view : View) (m : Flat) (count : ℕ) (mid : Present) (r : Reaches view m count mid) (most : ℕ) (t settled : Tried) (raised : Present) → (IsFinal t → settled ≡ t) → (t ≡ tried.Step None → count + 1 ≡ most) → IsTried part_step mid t raised →
    answer_of settled ≡ Some (attempt.Step None) → (count + 1 ≡ most) ⊎ Raises (run count m)
goes_on view m count mid r most (tried.Step sent) settled raised kept all is answer =
    let step : Some (attempt.Step sent) ≡ Some (attempt.Step None) = sym (ap answer_of (kept tt)) ∙ answer in
    let nothing : sent ≡ None = cc in
    inl (all (ap (λ x. tried.Step x) nothing))
goes_on view m count mid r most (tried.Part done) settled raised kept all is answer =
    let no : Some attempt.Part ≡ Some (attempt.Step None) = sym (ap answer_of (kept tt)) ∙ answer in cc
goes_on view m count mid r most (tried.Absent page) settled raised kept all is answer =
    let no : Some (attempt.Absent page) ≡ Some (attempt.Step None) = sym (ap answer_of (kept tt)) ∙ answer in cc
goes_on view m count mid r most (tried.Ended e) settled raised kept all is answer =
    let no : Some (attempt.Ended e) ≡ Some (attempt.Step None) = sym (ap answer_of (kept tt)) ∙ answer in cc
goes_on view m count mid r most (tried.Event x) settled raised kept all is answer =
    let from_here = subst (λ (p : Present). IsTried part_step p (tried.Event x) raised) (is_here view r.here mid r.is) is in
    inr (x, ap (λ (h : Flat). outcome_at (At h)) r.steps ∙ raises_there mid.view (At r.here) r.is.stands x raised from_here)

-- the start
pub at_start : (core : _) (term : Term) (view : View) (m : Flat) → m.ending ≡ None → term.out ≡ None → m.core ≡ core → m.input ≡ term.input.items → m.taken ≡ term.place → StandsFor view m.memory →
    IsWhere view (record { state = state_at core term; view = view }) m
at_start core term view m running out c i t st = record {
  running = running;
  state = λ k. record { core = sym c k; input = sym i k; taken = sym t k; sent = out k };
  stands = st;
  resident = refl;
  areas = refl;
}

-- where no step was made, registers and console are as before, or as at the start
module _ (before cpu : Cpu) (view after : View) (input : cpu.term.input.items ≡ before.term.input.items) where
  abbrev from : Present
  from = record { state = state_at before.core before.term; view = view }

  abbrev to : Present
  to = record { state = state_at cpu.core cpu.term; view = after }

  same_place : (core : Core) → to ≡ with_registers core (marked_as from after) → (flat_of cpu [] [] ≡ record (flat_of before [] []) { core = core }) × (after ≡ with_marks view after.marked)
  same_place core e =
      let s : to.state ≡ record from.state { core = core } = ap (λ (p : Present). p.state) e in
      (λ k. record { core = ap (λ (x : State). x.core) s k; memory = []; input = input k; taken = ap (λ (x : State). x.taken) s k; output = []; ending = None }, ap (λ (p : Present). p.view) e)

  pub as_before : (t : Tried) → Unmoved (start_by before.latch before.core) t from to → IfSome (answer_of t) (λ a. IsAsBefore a before view cpu after)
  as_before (tried.Step sent) u = tt
  as_before (tried.Part done) u = tt
  as_before (tried.Absent page) u = same_place before.core u
  as_before (tried.Ended e) u = same_place (start_by before.latch before.core) u
  as_before (tried.Event e) u = tt

-- what is open afterwards
pub opens : (latch now : Option Open) (t : Tried) → now ≡ open_after latch t → IfSome (answer_of t) (λ a. IsOpenAfter a latch now)
opens latch now (tried.Step sent) e = e
opens latch now (tried.Part done) e = subst IsSome (sym e) refl
opens latch now (tried.Absent page) e = e
opens latch now (tried.Ended e) is = is
opens latch now (tried.Event e) is = tt

-- the pages for which the last of several attempts stops
ran_alike : (count : ℕ) (old now : Present) → Ran count old now → (now.view.resident ≡ old.view.resident) × (now.view.areas ≡ old.view.areas)
ran_alike zero old now ran = (ap (λ (p : Present). p.view.resident) ran, ap (λ (p : Present). p.view.areas) ran)
ran_alike (suc count) old now ran =
    let before = ran_alike count old ran.0 ran.1 in
    let one = tree_alike (part_step ran.0.state) ran.0.view (Went flow.Done ran.2.0) now.view ran.2.1 in
    (one.0 ∙ before.0, one.1 ∙ before.1)

inside_alike : (a b : View) (answer : Attempt) → a.resident ≡ b.resident → a.areas ≡ b.areas → StopsInside answer a → StopsInside answer b
inside_alike a b (attempt.Step sent) r s h = tt
inside_alike a b attempt.Part r s h = tt
inside_alike a b (attempt.Absent page) r s h = (ap (λ (f : ℕ → Bool). f page) (sym r) ∙ h.0, ap (λ areas. is_some (area_of areas page)) (sym s) ∙ h.1)
inside_alike a b (attempt.Ended e) r s h = tt

pub inside_batch : (count : ℕ) (start : Core) (old mid now : Present) (t : Tried) → Ran count old mid → Made part_step start mid t now → IfSome (answer_of t) (λ a. StopsInside a old.view)
inside_batch count start old mid now t ran made =
    let same = ran_alike count old mid ran in
    IfSome_then (answer_of t) (inside part_step start t mid now made) (λ answer h. inside_alike mid.view old.view answer same.0 same.1 h)

-- a processor at a place
module _ (cpu : Cpu) (view : View) (place : Place) (at : IsAt cpu place) where
  pub running_there : (machine_at place).ending ≡ None
  running_there = ap (λ (m : Flat). m.ending) (sym at.machine)

  pub input_there : (machine_at place).input ≡ cpu.term.input.items
  input_there = ap (λ (m : Flat). m.input) (sym at.machine)

  state_there : cpu.term.out ≡ None → state_at cpu.core cpu.term ≡ state_of (machine_at place)
  state_there out k = record { core = (at.machine k).core; input = (at.machine k).input; taken = (at.machine k).taken; sent = out k }

  pub made_there : (t : Tried) (new : Present) → cpu.term.out ≡ None →
      Made (tree_of cpu.latch) (start_by cpu.latch cpu.core) (record { state = state_at cpu.core cpu.term; view = view }) t new →
      Made (tree_at place) (start_of place) (record { state = state_of (machine_at place); view = view }) t new
  made_there t new out made =
      let start : start_by cpu.latch cpu.core ≡ start_of place = (λ k. start_by (at.open_one k) (at.machine k).core) ∙ start_there place in
      let tree : tree_of cpu.latch ≡ tree_at place = ap tree_of at.open_one ∙ tree_there place in
      let state = state_there out in
      subst (λ (x : State). Made (tree_at place) (start_of place) (record { state = x; view = view }) t new) state
      (subst (λ (c : Core). Made (tree_at place) c (record { state = state_at cpu.core cpu.term; view = view }) t new) start
      (subst (λ (f : State → Accesses Leaf). Made f (start_by cpu.latch cpu.core) (record { state = state_at cpu.core cpu.term; view = view }) t new) tree made))

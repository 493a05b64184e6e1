-- From what a transaction followed to what an attempt came to.
use Rattle.std.proofs.Common.{true, false, Result, add-one, Bool, ◌+◌, ◌≤◌, ◌≡◌, ℕ, Option, Some, None, Ok, Err, refl, sym, ap, subst, ◌∙◌, arith}
use Rattle.vax_word.specs.declared.Core.{Core}
use Rattle.vax_word.specs.declared.Psl.{Psl}
use Rattle.vax_flat.specs.declared.Cut.{Cut}
use Rattle.vax_flat.specs.declared.Cut.TheVariants as cut
use Rattle.vax_flat.specs.declared.Ending.{Ending}
use Rattle.vax_flat.specs.declared.Exception.{Exception}
use Rattle.vax_flat.specs.declared.Flow.{Flow}
use Rattle.vax_flat.specs.declared.Flow.TheVariants as flow
use Rattle.vax_flat.specs.State.{State, with_sent}
use Rattle.vax_flat.specs.Port.{View, unmarked, with_marks}
use Rattle.vax_flat.specs.Accesses.{Accesses, Leaf, Went}
use Rattle.vax_flat.specs.OverPort.{Present, Arrival, Comes, Stops, over_port, Follows}
use Rattle.vax_flat.specs.Step.{leaf, whole_delivery}
use Rattle.vax_flat.specs.Parts.{part, part_step}
use Rattle.vax_flat.specs.Quiet.{IsQuiet}
use Rattle.vax_flat.proofs.Quiet.{quiet_whole}
use Rattle.vax_undo.specs.FirstPart.{NothingOpen, first_part_done}
use Rattle.vax_undo.specs.declared.txn.CutShort.{CutShort}
use Rattle.vax_undo.specs.declared.txn.Txn.{Txn as Transaction}
use Rattle.vax_undo.specs.Transaction.{bare, undone, IsReady, IsSame, Keeps, KeepsUnlessDone}
use Rattle.vax_cpu.specs.declared.attempt.Tried.{Tried}
use Rattle.vax_cpu.specs.declared.attempt.Tried.TheVariants as tried
use Rattle.vax_x_str.specs.Ends.{ClosesIfDone}
use Rattle.vax_cpu.specs.Tried.{IsFinal, IsTried, KeepsClosed, KeepsClosedLater, KeepsTime, LeadsBack, UnlessDone, came as how_came, marked_as, start_by}
use Rattle.vax_cpu.specs.Attempt.{open_after}
use Rattle.vax_cpu.specs.declared.cpu.Open.{Open}
use Rattle.vax_cpu.specs.Batch.{Ran}

-- what was undone is as before, but for the marks
pub undone_as : (old back : Present) (state : State) (view : View) → state ≡ back.state → unmarked view ≡ back.view → back ≡ bare old → record { state = state; view = view } ≡ marked_as old view
undone_as old back state view s v e =
    let here : state ≡ old.state = s ∙ ap (λ (p : Present). p.state) e in
    let there : view ≡ with_marks old.view view.marked = ap (λ (x : View). with_marks x view.marked) (v ∙ ap (λ (p : Present). p.view) e) in
    ap (λ x. record { state = x; view = view }) here ∙ ap (λ x. record { state = old.state; view = x }) there

module _ (tree : State → (Flow → State → Accesses Leaf) → Accesses Leaf) (old mid new : Present) where
  came : (how : Flow) → Follows (tree old.state) old (Ok how) mid → over_port (tree old.state leaf) old.view ≡ Comes (Went how mid.state) mid.view
  unfolding over_port
  came how follows = follows leaf

  stopped : (why : Cut) → Follows (tree old.state) old (Err why) mid → over_port (tree old.state leaf) old.view ≡ Stops why mid.view.marked
  stopped why follows = follows leaf

  -- a step that is kept
  pub kept : (sent : Option ℕ) → Follows (tree old.state) old (Ok flow.Done) mid → new.state ≡ with_sent mid.state None → new.view ≡ mid.view → sent ≡ mid.state.sent → IsTried (λ s. tree s leaf) old (tried.Step sent) new
  kept sent follows state view byte = (
    mid.state,
    came flow.Done follows ∙ ap (λ v. Comes (Went flow.Done mid.state) v) (sym view),
    state,
    byte,
  )

  -- a part that is kept
  pub parted : (done : Open) → Follows (tree old.state) old (Ok (flow.More done.opcode done.units)) mid → new.state ≡ with_sent mid.state None → new.view ≡ mid.view → done.start ≡ old.state.core → IsTried (λ s. tree s leaf) old (tried.Part done) new
  parted done follows state view start = (
    mid.state,
    came (flow.More done.opcode done.units) follows ∙ ap (λ v. Comes (Went (flow.More done.opcode done.units) mid.state) v) (sym view),
    state,
    start,
  )

  -- one that ends the run
  pub finished : (e : Ending) → Follows (tree old.state) old (Ok (flow.Ended e)) mid → new.view.marked ≡ mid.view.marked → new ≡ marked_as old new.view → IsTried (λ s. tree s leaf) old (tried.Ended e) new
  finished e follows marks same = (mid.state, mid.view, came (flow.Ended e) follows, sym marks, same)

  -- one that was cut short
  pub missed : (page : ℕ) → Follows (tree old.state) old (Err (cut.Absent page)) mid → new.view.marked ≡ mid.view.marked → new ≡ marked_as old new.view → IsTried (λ s. tree s leaf) old (tried.Absent page) new
  missed page follows marks same = (stopped (cut.Absent page) follows ∙ ap (λ x. Stops (cut.Absent page) x) (sym marks), same)

  pub raised : (e : Exception) → Follows (tree old.state) old (Err (cut.Event e)) mid → new.view.marked ≡ mid.view.marked → new ≡ marked_as old new.view → IsTried (λ s. tree s leaf) old (tried.Event e) new
  raised e follows marks same = (stopped (cut.Event e) follows ∙ ap (λ x. Stops (cut.Event e) x) (sym marks), same)

-- the same of what a present is made of
pub tried_at : (tree : State → Accesses Leaf) (old : Present) (t : Tried) (mid : Present) (state : State) (view : View) → state ≡ mid.state → view ≡ mid.view → IsTried tree old t mid → IsTried tree old t (record { state = state; view = view })
tried_at tree old t mid state view s v h = subst (IsTried tree old t) (λ k. record { state = sym s k; view = sym v k }) h

-- a delivery raises no exception
pub quiet_final : (e : Exception) (old new : Present) (t : Tried) → IsTried (whole_delivery e) old t new → IsFinal t
quiet_final e old new (tried.Step sent) is = tt
quiet_final e old new (tried.Part part) is = tt
quiet_final e old new (tried.Absent page) is = tt
quiet_final e old new (tried.Ended x) is = tt
quiet_final e old new (tried.Event x) is = let P : Arrival Leaf → Type 0 = λ a. IsQuiet a in subst P is.0 ((quiet_whole e old.state).port old.view)

-- the same of a clock that has counted the same
pub clock_at : (clock mid : ℕ) (t : Tried) → clock ≡ mid → KeepsTime mid t → KeepsTime clock t
clock_at clock mid t e within = subst (λ x. KeepsTime x t) (sym e) within

-- the same of a status that is the same
pub closed_at : (psl mid : Psl) (t : Tried) → psl ≡ mid → KeepsClosed mid t → KeepsClosed psl t
closed_at psl mid t e closed = subst (λ x. KeepsClosed x t) (sym e) closed

-- what leaves no instruction open
pub still_closed : (old new : Psl) → first_part_done new ≤ first_part_done old → NothingOpen old → NothingOpen new
still_closed old new kept closed = omega arith

pub closes : (work : Result Flow CutShort) (psl : Psl) → NothingOpen psl → ClosesIfDone work psl
closes (Ok flow.Done) psl closed = closed
closes (Ok flow.Clocked) psl closed = closed
closes (Ok (flow.Trap trap)) psl closed = closed
closes (Ok (flow.More opcode units)) psl closed = tt
closes (Ok (flow.Ended e)) psl closed = tt
closes (Err short) psl closed = tt

-- an attempt at a step, and one at a later part, by the registers at the start of what is open afterwards
pub first_closed : (core : Core) (t : Tried) → KeepsClosed core.psl t → NothingOpen (start_by (open_after None t) core).psl
first_closed core (tried.Step sent) closed = closed
first_closed core (tried.Part part) closed = closed
first_closed core (tried.Absent page) closed = closed
first_closed core (tried.Ended e) closed = closed
first_closed core (tried.Event e) closed = closed

pub later_closed : (latched : Open) (core : Core) (t : Tried) → IsFinal t → NothingOpen latched.start.psl → KeepsClosedLater core.psl t → NothingOpen (start_by (open_after (Some latched) t) core).psl
later_closed latched core (tried.Step sent) final start closed = closed
later_closed latched core (tried.Part part) final start closed = start
later_closed latched core (tried.Absent page) final start closed = start
later_closed latched core (tried.Ended e) final start closed = closed
later_closed latched core (tried.Event e) final start closed = absurd final

pub closed_later : (psl : Psl) (t : Tried) → KeepsClosed psl t → KeepsClosedLater psl t
closed_later psl (tried.Step sent) closed = closed
closed_later psl (tried.Part part) closed = tt
closed_later psl (tried.Absent page) closed = tt
closed_later psl (tried.Ended e) closed = closed
closed_later psl (tried.Event e) closed = tt

pub step_closed_later : (psl : Psl) (t : Tried) → ((sent : Option ℕ) → t ≡ tried.Step sent → NothingOpen psl) → ((e : Ending) → t ≡ tried.Ended e → ⊥) → KeepsClosedLater psl t
step_closed_later psl (tried.Step sent) closed other = closed sent refl
step_closed_later psl (tried.Part part) closed other = tt
step_closed_later psl (tried.Absent page) closed other = tt
step_closed_later psl (tried.Ended e) closed other = absurd (other e refl)
step_closed_later psl (tried.Event e) closed other = tt

-- what was completed, and what wasn't
pub came_done : (done : Bool) (other : Result Flow CutShort) → done ≡ true → how_came done other ≡ Ok flow.Done
came_done done other is = ap (λ d. how_came d other) is

pub came_other : (done : Bool) (other : Result Flow CutShort) → done ≡ false → how_came done other ≡ other
came_other done other is = ap (λ d. how_came d other) is

pub unless : (work : Result Flow CutShort) (a b : Type 0) → (a → b) → UnlessDone work a → UnlessDone work b
unless (Ok flow.Done) a b f holds = tt
unless (Ok flow.Clocked) a b f holds = f holds
unless (Ok (flow.Trap trap)) a b f holds = f holds
unless (Ok (flow.More opcode units)) a b f holds = f holds
unless (Ok (flow.Ended e)) a b f holds = f holds
unless (Err short) a b f holds = f holds

-- what isn't completed leads back to registers and console, and its log can be undone
abbrev Backs : {P : Type 0} → (P → View) → Transaction P → Transaction P → Type 0
Backs view old next = ((undone view next).state ≡ (undone view old).state) × (IsReady view old → IsReady view next)

module _ {P : Type 0} (view : P → View) (along : P → P → Type 0) (count : ℕ) where
  backs_of : (old next : Transaction P) → Keeps view along count old next → Backs view old next
  backs_of old next keeps = (ap (λ (p : Present). p.state) keeps.undone, keeps.ready)

  backs_unless : (work : Result Flow CutShort) (old next : Transaction P) → KeepsUnlessDone view along count work old next → UnlessDone work (Backs view old next)
  backs_unless (Ok flow.Done) old next keeps = tt
  backs_unless (Ok flow.Clocked) old next keeps = backs_of old next keeps
  backs_unless (Ok (flow.Trap trap)) old next keeps = backs_of old next keeps
  backs_unless (Ok (flow.More opcode units)) old next keeps = (keeps.state, keeps.ready)
  backs_unless (Ok (flow.Ended e)) old next keeps = backs_of old next keeps
  backs_unless (Err short) old next keeps = backs_of old next keeps

  -- what conclude needs of the work of a transaction that had just begun
  pub leads_back : (work : Result Flow CutShort) (old next : Transaction P) → KeepsUnlessDone view along count work old next → (start : Present) → undone view old ≡ bare start → LeadsBack view start work next
  leads_back (Ok flow.Done) old next keeps start e = tt
  leads_back (Ok flow.Clocked) old next keeps start e = keeps.undone ∙ e
  leads_back (Ok (flow.Trap trap)) old next keeps start e = keeps.undone ∙ e
  leads_back (Ok (flow.More opcode units)) old next keeps start e = keeps.state ∙ ap (λ (p : Present). p.state) e
  leads_back (Ok (flow.Ended e)) old next keeps start is = keeps.undone ∙ is
  leads_back (Err short) old next keeps start e = keeps.undone ∙ e

  pub ready_unless : (work : Result Flow CutShort) (old next : Transaction P) → KeepsUnlessDone view along count work old next → IsReady view old → UnlessDone work (IsReady view next)
  ready_unless work old next keeps ready = unless work _ _ (λ (k : Backs view old next). k.1 ready) (backs_unless work old next keeps)

  pub unsent_unless : (work : Result Flow CutShort) (old next : Transaction P) → KeepsUnlessDone view along count work old next → (undone view old).state.sent ≡ None → UnlessDone work ((undone view next).state.sent ≡ None)
  unsent_unless work old next keeps e = unless work _ _ (λ (k : Backs view old next). ap (λ (s : State). s.sent) k.0 ∙ e) (backs_unless work old next keeps)

  pub clock_unless : (work : Result Flow CutShort) (old next : Transaction P) → KeepsUnlessDone view along count work old next → (undone view old).state.core.clock ≤ 999 → UnlessDone work ((undone view next).state.core.clock ≤ 999)
  clock_unless work old next keeps within = unless work _ _ (λ (k : Backs view old next). subst (λ (s : State). s.core.clock ≤ 999) (sym k.0) within) (backs_unless work old next keeps)

  pub closed_unless : (work : Result Flow CutShort) (old next : Transaction P) → KeepsUnlessDone view along count work old next → NothingOpen (undone view old).state.core.psl → UnlessDone work (NothingOpen (undone view next).state.core.psl)
  closed_unless work old next keeps closed = unless work _ _ (λ (k : Backs view old next). subst (λ (s : State). NothingOpen s.core.psl) (sym k.0) closed) (backs_unless work old next keeps)

  pub closes_through : (work : Result Flow CutShort) (old next : Transaction P) → KeepsUnlessDone view along count work old next → NothingOpen old.core.now.psl → ClosesIfDone work next.core.now.psl
  closes_through (Ok flow.Done) old next keeps closed = still_closed old.core.now.psl next.core.now.psl keeps.closed closed
  closes_through (Ok flow.Clocked) old next keeps closed = still_closed old.core.now.psl next.core.now.psl keeps.closed closed
  closes_through (Ok (flow.Trap trap)) old next keeps closed = still_closed old.core.now.psl next.core.now.psl keeps.closed closed
  closes_through (Ok (flow.More opcode units)) old next keeps closed = tt
  closes_through (Ok (flow.Ended e)) old next keeps closed = tt
  closes_through (Err short) old next keeps closed = tt

-- a step that was kept and sent nothing, and what it began anew from
pub renewed_step : (now mid next : Present) → Follows (part now.state) now (Ok flow.Done) mid →
    next ≡ record { state = with_sent mid.state None; view = mid.view } → None ≡ mid.state.sent → IsTried part_step now (tried.Step None) next
renewed_step now mid next follows same silent =
    kept part now mid next None follows (ap (λ (p : Present). p.state) same) (ap (λ (p : Present). p.view) same) silent

-- one that sent a byte
pub sent_step : (now mid next new : Present) (byte : ℕ) → Follows (part now.state) now (Ok flow.Done) mid →
    next ≡ record { state = with_sent mid.state None; view = mid.view } → new.state ≡ with_sent next.state None → new.view ≡ next.view → Some byte ≡ mid.state.sent →
    IsTried part_step now (tried.Step (Some byte)) new
sent_step now mid next new byte follows same state view sent =
    kept part now mid new (Some byte) follows (state ∙ ap (λ (p : Present). with_sent p.state None) same) (view ∙ ap (λ (p : Present). p.view) same) sent

pub ran_more : (count : ℕ) (old now next : Present) → Ran count old now → IsTried part_step now (tried.Step None) next → next.state.input ≡ now.state.input → Ran (count + 1) old next
ran_more count old now next ran one input = rw add-one (now, ran, one, input)

-- however an instruction ended, its transaction is over the same
module _ {P : Type 0} (view : P → View) (along : P → P → Type 0) where
  pub same_of : (n : ℕ) (r : Result Flow CutShort) (a b : Transaction P) → KeepsUnlessDone view along n r a b → IsSame along a b
  same_of n (Ok flow.Done) a b k = k.same
  same_of n (Ok flow.Clocked) a b k = k.same
  same_of n (Ok (flow.Trap trap)) a b k = k.same
  same_of n (Ok (flow.More opcode units)) a b k = k.same
  same_of n (Ok (flow.Ended e)) a b k = k.same
  same_of n (Err short) a b k = k.same

-- From the accesses that a transaction made to those of an attempt.
use Rattle.std.proofs.Common.{◌≡◌, ℕ, Bool, Result, Ok, Err, List, [], ◌∷◌, ◌++◌, refl, ap, sym, subst, ◌∙◌}
use Rattle.std.specs.Prelude.{All, IfSome}
use Rattle.std.proofs.lemmas.List.Elements.{All-nil, All-cons, All-append}
use Rattle.vax_word.specs.declared.Core.{Core}
use Rattle.vax_flat.specs.declared.Cut.{Cut}
use Rattle.vax_flat.specs.declared.Cut.TheVariants as cut
use Rattle.vax_flat.specs.declared.Ending.{Ending}
use Rattle.vax_flat.specs.declared.Exception.{Exception}
use Rattle.vax_flat.specs.declared.Flow.{Flow}
use Rattle.vax_flat.specs.declared.Flow.TheVariants as flow
use Rattle.vax_flat.specs.State.{State}
use Rattle.vax_flat.specs.Port.{View}
use Rattle.vax_flat.specs.Accesses.{Accesses, Leaf, Went}
use Rattle.vax_flat.specs.OverPort.{Present, Follows}
use Rattle.vax_flat.specs.Step.{leaf, whole_delivery}
use Rattle.vax_undo.specs.declared.entry.Entry.{Entry}
use Rattle.vax_undo.specs.declared.entry.Kept.{Kept}
use Rattle.vax_undo.specs.declared.entry.Kept.TheVariants as kept
use Rattle.vax_undo.specs.declared.term.Term.{Term}
use Rattle.vax_undo.specs.declared.txn.CutShort.{CutShort}
use Rattle.vax_undo.specs.declared.txn.Txn.{Txn as Transaction}
use Rattle.vax_undo.specs.Blocks.{low_bytes}
use Rattle.vax_undo.specs.Trail.{Made, Trail, Traced, Arrives, FollowsTraced, noted, over_trail, writing}
use Rattle.vax_undo.specs.Transaction.{present, seen, state_of, told, traced, trail_back, trail_undone, Does}
use Rattle.vax_undo.proofs.Trail.{follows, present_of}
use Rattle.vax_cpu.specs.declared.attempt.Tried.{Tried}
use Rattle.vax_cpu.specs.declared.attempt.Tried.TheVariants as tried
use Rattle.vax_cpu.specs.declared.cpu.Attempt.TheVariants.{Step, Part, Absent, Ended}
use Rattle.vax_cpu.specs.Attempt.{answer_of}
use Rattle.vax_cpu.specs.Tried.{IsFinal, IsTried}
use Rattle.vax_cpu.specs.Trail.{AtOnce, Completes, Delivered, EndsRun, IsPutBack, IsWrite, Stops, TracesTried, Trailed, TrailedTried, noted_all, raised_at, traced_of}

-- what a call of a transaction follows, with the accesses left aside
pub plain : {P : Type 0} (view : P → View) (trail : P → Trail) (tree : State → (Flow → State → Accesses Leaf) → Accesses Leaf) (r : Result Flow CutShort) (old new : Transaction P) → Does view trail tree r old new → Follows (tree (present view old).state) (present view old) (told new r) (present view new)
plain view trail tree r old new exact = follows (tree (present view old).state) (traced view trail old) (told new r) (traced view trail new) exact

-- the writes by which a log is undone
abbrev write_of : Kept → Entry → List Made
write_of kept.Register e = []
write_of kept.Stack e = []
write_of kept.Requests e = []
write_of kept.Timer e = []
write_of kept.Taken e = []
write_of kept.Sent e = []
write_of kept.Bytes e = writing e.addr (low_bytes e.number e.old) ∷ []

abbrev writes_of : List Entry → List Made
writes_of [] = []
writes_of (e ∷ es) = writes_of es ++ write_of e.kept e

noted_all-append : (xs ys : List Made) (trail : Trail) → noted_all trail (xs ++ ys) ≡ noted_all (noted_all trail xs) ys
unfolding noted_all
noted_all-append [] ys trail = refl
noted_all-append (x ∷ xs) ys trail = noted_all-append xs ys (noted trail x)

back_is : (k : Kept) (e : Entry) (trail : Trail) → trail_back k e trail ≡ noted_all trail (write_of k e)
unfolding noted_all
back_is kept.Register e trail = refl
back_is kept.Stack e trail = refl
back_is kept.Requests e trail = refl
back_is kept.Timer e trail = refl
back_is kept.Taken e trail = refl
back_is kept.Sent e trail = refl
back_is kept.Bytes e trail = refl

undone_is : (log : List Entry) (trail : Trail) → trail_undone log trail ≡ noted_all trail (writes_of log)
unfolding noted_all
undone_is [] trail = refl
undone_is (e ∷ es) trail =
    back_is e.kept e (trail_undone es trail)
    ∙ (ap (λ t. noted_all t (write_of e.kept e)) (undone_is es trail) ∙ sym (noted_all-append (writes_of es) (write_of e.kept e) trail))

one_write : (k : Kept) (e : Entry) → All IsWrite (write_of k e)
one_write kept.Register e = All-nil IsWrite
one_write kept.Stack e = All-nil IsWrite
one_write kept.Requests e = All-nil IsWrite
one_write kept.Timer e = All-nil IsWrite
one_write kept.Taken e = All-nil IsWrite
one_write kept.Sent e = All-nil IsWrite
one_write kept.Bytes e = All-cons IsWrite _ [] refl (All-nil IsWrite)

all_writes : (log : List Entry) → All IsWrite (writes_of log)
all_writes [] = All-nil IsWrite
all_writes (e ∷ es) = All-append IsWrite (writes_of es) (write_of e.kept e) (all_writes es) (one_write e.kept e)

pub put_back : (log : List Entry) (made trail : Trail) → trail ≡ trail_undone log made → IsPutBack made trail
put_back log made trail is = record { writes = writes_of log; all = all_writes log; behind = is ∙ undone_is log made }

module _ (tree : State → (Flow → State → Accesses Leaf) → Accesses Leaf) (old mid : Traced) (trail : Trail) where
  pub came : (how : Flow) → FollowsTraced (tree old.state) old (Ok how) mid → trail ≡ mid.trail → Completes (tree old.state leaf) old.view old.trail (Went how) trail
  unfolding over_trail
  came how made same = record { state = mid.state; after = mid.view; lands = made leaf ∙ ap (λ t. Arrives (Went how mid.state) mid.view t) (sym same) }

  pub ended : (e : Ending) (log : List Entry) → FollowsTraced (tree old.state) old (Ok (flow.Ended e)) mid → trail ≡ trail_undone log mid.trail → EndsRun (tree old.state leaf) old.view old.trail (Went (flow.Ended e)) trail
  unfolding over_trail
  ended e log made is = record { made = mid.trail; ends = record { state = mid.state; after = mid.view; lands = made leaf }; back = put_back log mid.trail trail is }

  pub stopped : (why : Cut) (log : List Entry) → FollowsTraced (tree old.state) old (Err why) mid → trail ≡ trail_undone log mid.trail → Stops (tree old.state leaf) old.view old.trail why trail
  stopped why log made is = record { marked = mid.view.marked; made = mid.trail; lands = made leaf; back = put_back log mid.trail trail is }

-- the same of what a start is made of
pub traces_at : (tree : State → Accesses Leaf) (old mid : Traced) (t : Tried) (trail : Trail) → old ≡ mid → TracesTried tree mid t trail → TracesTried tree old t trail
traces_at tree old mid t trail same h = subst (λ (o : Traced). TracesTried tree o t trail) (sym same) h

-- an attempt that raised no exception
pub at_once : (tree : State → Accesses Leaf) (start : Core) (old : Traced) (t : Tried) (trail : Trail) → IsFinal t → TracesTried tree old t trail → TrailedTried tree start old t trail
at_once tree start old (tried.Step sent) trail final h = AtOnce h
at_once tree start old (tried.Part part) trail final h = AtOnce h
at_once tree start old (tried.Absent page) trail final h = AtOnce h
at_once tree start old (tried.Ended e) trail final h = AtOnce h
at_once tree start old (tried.Event e) trail final h = absurd final

-- one whose exception was delivered
then_delivered : (tree : State → Accesses Leaf) (start : Core) (old : Traced) (e : Exception) (marked : ℕ → Bool) (raised : Trail) (t : Tried) (trail : Trail) → Stops (tree old.state) old.view old.trail (cut.Event e) raised → IsFinal t →
    TracesTried (whole_delivery e) (raised_at start old marked raised) t trail → TrailedTried tree start old t trail
then_delivered tree start old e marked raised (tried.Step sent) trail first final h = Delivered e marked raised first h
then_delivered tree start old e marked raised (tried.Part part) trail first final h = Delivered e marked raised first h
then_delivered tree start old e marked raised (tried.Absent page) trail first final h = Delivered e marked raised first h
then_delivered tree start old e marked raised (tried.Ended x) trail first final h = Delivered e marked raised first h
then_delivered tree start old e marked raised (tried.Event x) trail first final h = absurd final

pub delivered : (tree : State → Accesses Leaf) (start : Core) (old : Traced) (now : Present) (e : Exception) (was : Tried) (raised : Trail) (t : Tried) (trail : Trail) → was ≡ tried.Event e →
    IsTried tree (present_of old) was now → TracesTried tree old was raised → IsFinal t →
    TracesTried (whole_delivery e) (record { state = record now.state { core = start }; view = now.view; trail = raised }) t trail → TrailedTried tree start old t trail
delivered tree start old now e was raised t trail event is first final h =
    let so = subst (λ (x : Tried). IsTried tree (present_of old) x now) event is in
    then_delivered tree start old e now.view.marked raised t trail (subst (λ (x : Tried). TracesTried tree old x raised) event first) final
    (subst (λ (p : Present). TracesTried (whole_delivery e) (record { state = record p.state { core = start }; view = p.view; trail = raised }) t trail) so.1 h)

-- the same where the registers at the start are those before
pub first_delivered : (tree : State → Accesses Leaf) (old : Traced) (now : Present) (e : Exception) (was : Tried) (raised : Trail) (t : Tried) (trail : Trail) → was ≡ tried.Event e →
    IsTried tree (present_of old) was now → TracesTried tree old was raised → IsFinal t →
    TracesTried (whole_delivery e) (record { state = now.state; view = now.view; trail = raised }) t trail → TrailedTried tree old.state.core old t trail
first_delivered tree old now e was raised t trail event is first final h =
    let so = subst (λ (x : Tried). IsTried tree (present_of old) x now) event is in
    then_delivered tree old.state.core old e now.view.marked raised t trail (subst (λ (x : Tried). TracesTried tree old x raised) event first) final
    (subst (λ (p : Present). TracesTried (whole_delivery e) (record { state = p.state; view = p.view; trail = raised }) t trail) so.1 h)

-- the same trail
pub trail_at : (tree : State → Accesses Leaf) (old : Traced) (t : Tried) (trail other : Trail) → trail ≡ other → TracesTried tree old t other → TracesTried tree old t trail
trail_at tree old t trail other same h = subst (TracesTried tree old t) (sym same) h

-- where a transaction has just begun
pub begun : {P : Type 0} (view : P → View) (trail : P → Trail) (t : Transaction P) (core : Core) (term : Term) (port : P) → present view t ≡ seen view core term port → t.port.now ≡ port → traced view trail t ≡ traced_of view trail core term port
begun view trail t core term port same lent =
    ap (λ (p : Present). record { state = p.state; view = p.view; trail = trail t.port.now }) same
    ∙ ap (λ q. record { state = state_of core term; view = view port; trail = trail q }) lent

-- what is answered
pub answered : (tree : State → Accesses Leaf) (start : Core) (old : Traced) (t : Tried) (trail : Trail) → TrailedTried tree start old t trail → IfSome (answer_of t) (λ a. Trailed tree start old a trail)
answered tree start old (tried.Step sent) trail h = h
answered tree start old (tried.Part part) trail h = h
answered tree start old (tried.Absent page) trail h = h
answered tree start old (tried.Ended e) trail h = h
answered tree start old (tried.Event e) trail h = absurd h

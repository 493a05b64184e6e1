-- How a part ends that has written.
use Rattle.std.proofs.Common.{ℕ, ◌+◌, ◌≤◌, Result, Ok, Err, ◌∙◌, arith}
use Rattle.vax_flat.specs.declared.Flow.{Flow}
use Rattle.vax_flat.specs.declared.Flow.TheVariants as flow
use Rattle.vax_flat.specs.Port.{View}
use Rattle.vax_undo.specs.declared.txn.Txn.{Txn as Transaction}
use Rattle.vax_undo.specs.declared.txn.CutShort.{CutShort}
use Rattle.vax_undo.specs.Transaction.{IsLeft, IsLeftOpen, IsSame, Keeps, KeepsUnlessDone}
use Rattle.vax_undo.proofs.Left.{open_then}
use Rattle.vax_undo.specs.FirstPart.{NothingOpen}
use Rattle.vax_x_str.specs.Ends.{ClosesIfDone, IsPartEnd}

module _ {P : Type 0} (view : P → View) (along : P → P → Type 0) where
  same_through : (a b c : Transaction P) → IsSame along a b → IsSame along b c → IsSame along a c
  same_through a b c first second = record {
    core = second.core ∙ first.core;
    term = second.term ∙ first.term;
    port = second.port ∙ first.port;
    input = second.input ∙ first.input;
    clock = λ h. second.clock (first.clock h);
    since = λ start h. second.since start (first.since start h);
  }

  both_left : (n m : ℕ) (a b c : Transaction P) → IsLeft along n a b → IsLeft along m b c → IsLeft along (n + m) a c
  both_left n m a b c first second = record { room = omega (arith, first.room, second.room); closed = omega (arith, first.closed, second.closed); same = same_through a b c first.same second.same }

  -- what has written, and then ends so
  pub part_ends : (n m : ℕ) (how : Flow) (a b c : Transaction P) → IsLeft along n a b → IsLeftOpen view along n a b → IsPartEnd how → KeepsUnlessDone view along m (Ok how) b c → KeepsUnlessDone view along (n + m) (Ok how) a c
  part_ends n m flow.Done a b c left first ends second = both_left n m a b c left second
  part_ends n m flow.Clocked a b c left first ends second = absurd ends
  part_ends n m (flow.Trap kind) a b c left first ends second = absurd ends
  part_ends n m (flow.More opcode units) a b c left first ends second = open_then view along n m a b c first second
  part_ends n m (flow.Ended e) a b c left first ends second = absurd ends

  keeps_more : (n m : ℕ) (a b : Transaction P) → n ≤ m → Keeps view along n a b → Keeps view along m a b
  keeps_more n m a b more k = record { undone = k.undone; ready = k.ready; room = omega (arith, k.room); closed = k.closed; same = k.same }

  -- what used so many entries used no more than so many
  pub with_more : (n m : ℕ) (r : Result Flow CutShort) (a b : Transaction P) → n ≤ m → KeepsUnlessDone view along n r a b → KeepsUnlessDone view along m r a b
  with_more n m (Ok flow.Done) a b more k = record { room = omega (arith, k.room); closed = k.closed; same = k.same }
  with_more n m (Ok flow.Clocked) a b more k = keeps_more n m a b more k
  with_more n m (Ok (flow.Trap trap)) a b more k = keeps_more n m a b more k
  with_more n m (Ok (flow.More opcode units)) a b more k = record { state = k.state; ready = k.ready; room = omega (arith, k.room); same = k.same }
  with_more n m (Ok (flow.Ended e)) a b more k = keeps_more n m a b more k
  with_more n m (Err e) a b more k = keeps_more n m a b more k

  -- nothing was open, so a part that completes an instruction leaves nothing open
  pub closes : (n : ℕ) (r : Result Flow CutShort) (a b : Transaction P) → NothingOpen a.core.now.psl → KeepsUnlessDone view along n r a b → ClosesIfDone r b.core.now.psl
  closes n (Ok flow.Done) a b clear k = omega (arith, clear, k.closed)
  closes n (Ok flow.Clocked) a b clear k = omega (arith, clear, k.closed)
  closes n (Ok (flow.Trap trap)) a b clear k = omega (arith, clear, k.closed)
  closes n (Ok (flow.More opcode units)) a b clear k = tt
  closes n (Ok (flow.Ended e)) a b clear k = tt
  closes n (Err e) a b clear k = tt

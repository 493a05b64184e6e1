-- Calls that can be undone unless they completed an instruction.
use Rattle.std.proofs.Common.{ℕ, ◌+◌, Result, Ok, Err, ap, ◌∙◌, arith}
use Rattle.vax_flat.specs.declared.Flow.{Flow}
use Rattle.vax_flat.specs.declared.Flow.TheVariants as flow
use Rattle.vax_flat.specs.Port.{View}
use Rattle.vax_flat.specs.OverPort.{Present}
use Rattle.vax_undo.specs.declared.txn.CutShort.{CutShort}
use Rattle.vax_undo.specs.declared.txn.Txn.{Txn as Transaction}
use Rattle.vax_undo.specs.Transaction.{IsLeft, IsLeftOpen, IsSame, Keeps, KeepsUnlessDone}

module _ {P : Type 0} (view : P → View) (along : P → P → Type 0) where
  abbrev Kept : ℕ → Transaction P → Transaction P → Type 0
  Kept count old new = Keeps view along count old new

  same_through : (a b c : Transaction P) → IsSame along a b → IsSame along b c → IsSame along a c
  same_through a b c first second = record {
    core = second.core ∙ first.core;
    term = second.term ∙ first.term;
    port = second.port ∙ first.port;
    input = second.input ∙ first.input;
    clock = λ h. second.clock (first.clock h);
    since = λ start h. second.since start (first.since start h);
  }

  pub kept_through : (n m : ℕ) (a b c : Transaction P) → Kept n a b → Kept m b c → Kept (n + m) a c
  kept_through n m a b c first second = record {
    undone = second.undone ∙ first.undone;
    ready = λ h. second.ready (first.ready h);
    room = omega (arith, first.room, second.room);
    closed = omega (arith, first.closed, second.closed);
    same = same_through a b c first.same second.same;
  }

  pub left_then : (n m : ℕ) (a b c : Transaction P) → IsLeft along n a b → Kept m b c → IsLeft along (n + m) a c
  left_then n m a b c first second = record { room = omega (arith, first.room, second.room); closed = omega (arith, first.closed, second.closed); same = same_through a b c first.same second.same }

  pub left_of : (n : ℕ) (a b : Transaction P) → Kept n a b → IsLeft along n a b
  left_of n a b keeps = record { room = keeps.room; closed = keeps.closed; same = keeps.same }

  pub left_through : (n m : ℕ) (a b c : Transaction P) → Kept n a b → IsLeft along m b c → IsLeft along (n + m) a c
  left_through n m a b c first second = record { room = omega (arith, first.room, second.room); closed = omega (arith, first.closed, second.closed); same = same_through a b c first.same second.same }

  pub open_of : (n : ℕ) (a b : Transaction P) → Kept n a b → IsLeftOpen view along n a b
  open_of n a b keeps = record { state = ap (λ (p : Present). p.state) keeps.undone; ready = keeps.ready; room = keeps.room; same = keeps.same }

  pub open_through : (n m : ℕ) (a b c : Transaction P) → Kept n a b → IsLeftOpen view along m b c → IsLeftOpen view along (n + m) a c
  open_through n m a b c first second = record {
    state = second.state ∙ ap (λ (p : Present). p.state) first.undone;
    ready = λ h. second.ready (first.ready h);
    room = omega (arith, first.room, second.room);
    same = same_through a b c first.same second.same;
  }

  -- two steps that leave an instruction open
  pub open_then : (n m : ℕ) (a b c : Transaction P) → IsLeftOpen view along n a b → IsLeftOpen view along m b c → IsLeftOpen view along (n + m) a c
  open_then n m a b c first second = record {
    state = second.state ∙ first.state;
    ready = λ h. second.ready (first.ready h);
    room = omega (arith, first.room, second.room);
    same = same_through a b c first.same second.same;
  }

  -- what can always be undone
  pub always : (n : ℕ) (r : Result Flow CutShort) (a b : Transaction P) → Kept n a b → KeepsUnlessDone view along n r a b
  always n (Ok flow.Done) a b keeps = left_of n a b keeps
  always n (Ok flow.Clocked) a b keeps = keeps
  always n (Ok (flow.Trap trap)) a b keeps = keeps
  always n (Ok (flow.More opcode units)) a b keeps = open_of n a b keeps
  always n (Ok (flow.Ended e)) a b keeps = keeps
  always n (Err e) a b keeps = keeps

  -- behind what can always be undone
  pub behind : (n m : ℕ) (r : Result Flow CutShort) (a b c : Transaction P) → Kept n a b → KeepsUnlessDone view along m r b c → KeepsUnlessDone view along (n + m) r a c
  behind n m (Ok flow.Done) a b c first second = left_through n m a b c first second
  behind n m (Ok flow.Clocked) a b c first second = kept_through n m a b c first second
  behind n m (Ok (flow.Trap trap)) a b c first second = kept_through n m a b c first second
  behind n m (Ok (flow.More opcode units)) a b c first second = open_through n m a b c first second
  behind n m (Ok (flow.Ended e)) a b c first second = kept_through n m a b c first second
  behind n m (Err e) a b c first second = kept_through n m a b c first second

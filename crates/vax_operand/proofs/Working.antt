-- The transaction as one who carries out an instruction: what it says of a call, as every one who does.
use Rattle.std.proofs.Common.{◌≡◌, ℕ, Result, Ok, Err, refl, ◌∙◌, sym, subst}
use Rattle.std.proofs.Math.Nat.{le_trans, le_refl}
use Rattle.vax_flat.specs.State.{State}
use Rattle.vax_flat.specs.Accesses.{Accesses, Leaf}
use Rattle.vax_flat.specs.Port.{View}
use Rattle.vax_undo.specs.Trail.{Trail}
use Rattle.vax_undo.specs.Transaction.{Does, Acts, Keeps, IsSame, room}
use Rattle.vax_undo.specs.declared.txn.CutShort.{CutShort}
use Rattle.vax_undo.specs.declared.txn.Txn.{Txn as Transaction}
use Rattle.vax_operand.specs.Logged.{state_in, reading_in, stops_in, Undoes, always, any}
use Rattle.vax_operand.specs.Working.{Performs, Moves, Reads}
use Rattle.vax_operand.specs.Working as working

pub performed : {P X : Type 0} (view : P → View) (trail : P → Trail) (tree : State → (X → State → Accesses Leaf) → Accesses Leaf)
    (result : Result X CutShort) (old new : Transaction P) → Does view trail tree result old new
    → Performs (state_in view) (reading_in view trail) (stops_in view trail) always tree result old new
performed view trail tree (Ok x) old new d = λ h rest next. d next
performed view trail tree (Err short) old new d = λ h rest next. d next

pub acted : {P : Type 0} (view : P → View) (trail : P → Trail) (tree : State → (State → Accesses Leaf) → Accesses Leaf)
    (result : Result (Unit {0}) CutShort) (old new : Transaction P) → Acts view trail tree result old new
    → working.Acts (state_in view) (reading_in view trail) (stops_in view trail) always tree result old new
acted view trail tree (Ok x) old new d = λ h rest next. d next
acted view trail tree (Err short) old new d = λ h rest next. d next

same_on : {P : Type 0} {along : P → P → Type 0} {start old new : Transaction P} → IsSame along old new → IsSame along start old → IsSame along start new
same_on b a = record {
  core = b.core ∙ a.core;
  term = b.term ∙ a.term;
  port = b.port ∙ a.port;
  input = b.input ∙ a.input;
  clock = λ h. b.clock (a.clock h);
  since = λ first h. b.since first (a.since first h);
}

pub undoes_on : {P : Type 0} (view : P → View) (along : P → P → Type 0) (count : ℕ) (start old new : Transaction P)
    → Keeps view along count old new → Undoes view along start old → Undoes view along start new
undoes_on view along count start old new k u = record {
  undone = k.undone ∙ u.undone;
  ready = λ h. k.ready (u.ready h);
  closed = le_trans k.closed u.closed;
  same = same_on k.same u.same;
}

pub moves : {P : Type 0} (view : P → View) (along : P → P → Type 0) (count : ℕ) (old new : Transaction P)
    → Keeps view along count old new → Moves always room (Undoes view along) count old new
moves view along count old new k = record { seen = λ h. h; room = k.room; kept = λ start. undoes_on view along count start old new k }

pub reads : {P : Type 0} (view : P → View) (along : P → P → Type 0) (count : ℕ) (old new : Transaction P)
    → Keeps view along count old new → Reads always room (Undoes view along) any count old new
reads view along count old new k = record {
  seen = λ h. h;
  room = k.room;
  kept = λ start. undoes_on view along count start old new k;
  stays = λ start h. h;
}

-- what it says as every one who carries out an instruction, as a transaction
pub does : {P X : Type 0} (view : P → View) (trail : P → Trail) (tree : State → (X → State → Accesses Leaf) → Accesses Leaf)
    (result : Result X CutShort) (old new : Transaction P)
    → Performs (state_in view) (reading_in view trail) (stops_in view trail) always tree result old new → Does view trail tree result old new
does view trail tree (Ok x) old new p = λ next. p tt tt next
does view trail tree (Err short) old new p = λ next. p tt tt next

pub keeps : {P : Type 0} (view : P → View) (along : P → P → Type 0) (count : ℕ) (old new : Transaction P)
    → Moves always room (Undoes view along) count old new → Keeps view along count old new
keeps view along count old new m =
    let u : Undoes view along old new = m.kept old (record {
      undone = refl;
      ready = λ h. h;
      closed = le_refl _;
      same = record { core = refl; term = refl; port = refl; input = refl; clock = λ h. h; since = λ first h. h };
    })
    in record { undone = u.undone; ready = u.ready; room = m.room; closed = u.closed; same = u.same }

-- a call that ends with another, after it came to where that begins
module _ {W R O : Type 0} (state : W → R → State) (reading : W → Accesses Leaf → O) (stops : W → O → Type 0) (holds : W → Type 0) where
  pub onward : {X : Type 0} (tree last : State → (X → State → Accesses Leaf) → Accesses Leaf) (result : Result X CutShort) (old mid new : W)
      → (holds new → holds mid)
      → (holds mid → (rest : R) (next : X → State → Accesses Leaf) → reading old (tree (state old rest) next) ≡ reading mid (last (state mid rest) next))
      → Performs state reading stops holds last result mid new → Performs state reading stops holds tree result old new
  onward tree last (Ok x) old mid new seen goes p = λ h rest next. goes (seen h) rest next ∙ p h rest next
  onward tree last (Err short) old mid new seen goes p = λ h rest next. subst (λ out. stops new out) (sym (goes (seen h) rest next)) (p h rest next)

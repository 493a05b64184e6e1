-- The accesses that an attempt makes, where its port keeps them.
use Rattle.std.specs.Prelude.{◌≡◌, ℕ, Bool, List, [], ◌∷◌, All}
use Rattle.vax_word.specs.declared.Core.{Core}
use Rattle.vax_space.specs.declared.Access.TheVariants.{Write}
use Rattle.vax_flat.specs.declared.Cut.{Cut}
use Rattle.vax_flat.specs.declared.Cut.TheVariants as cut
use Rattle.vax_flat.specs.declared.Exception.{Exception}
use Rattle.vax_flat.specs.declared.Flow.TheVariants as flow
use Rattle.vax_flat.specs.State.{State}
use Rattle.vax_flat.specs.Port.{View, with_marks}
use Rattle.vax_flat.specs.Accesses.{Accesses, Leaf, Went}
use Rattle.vax_flat.specs.Step.{whole_delivery}
use Rattle.vax_undo.specs.declared.term.Term.{Term}
use Rattle.vax_undo.specs.Trail.{Made, Trail, Traced, Arrives, Breaks, noted, over_trail}
use Rattle.vax_undo.specs.Transaction.{state_of}
use Rattle.vax_cpu.specs.declared.attempt.Tried.{Tried}
use Rattle.vax_cpu.specs.declared.attempt.Tried.TheVariants as tried
use Rattle.vax_cpu.specs.declared.cpu.Attempt.{Attempt}
use Rattle.vax_cpu.specs.declared.cpu.Attempt.TheVariants.{Step, Part, Absent, Ended}

-- these accesses are made one after the other
unfoldable pub noted_all : Trail → List Made → Trail
noted_all trail [] = trail
noted_all trail (made ∷ more) = noted_all (noted trail made) more

abbrev pub IsWrite : Made → Type 0
IsWrite made = made.access ≡ Write

-- behind the accesses of what isn't kept only writes are made, which put back what it wrote
pub record IsPutBack (made trail : Trail) : Type 0 where
  pub writes : List Made
  pub all : All IsWrite writes
  pub behind : trail ≡ noted_all made writes

-- the accesses of a tree that is completed, or that is cut short and then undone, behind those that were made before
pub record Completes (tree : Accesses Leaf) (view : View) (before : Trail) (leaf : State → Leaf) (trail : Trail) : Type 0 where
  pub state : State
  pub after : View
  pub lands : over_trail tree view before ≡ Arrives (leaf state) after trail

pub record EndsRun (tree : Accesses Leaf) (view : View) (before : Trail) (leaf : State → Leaf) (trail : Trail) : Type 0 where
  pub made : Trail
  pub ends : Completes tree view before leaf made
  pub back : IsPutBack made trail

pub record Stops (tree : Accesses Leaf) (view : View) (before : Trail) (why : Cut) (trail : Trail) : Type 0 where
  pub marked : ℕ → Bool
  pub made : Trail
  pub lands : over_trail tree view before ≡ Breaks why marked made
  pub back : IsPutBack made trail

-- by what an attempt came to
abbrev pub Traces : Accesses Leaf → View → Trail → Attempt → Trail → Type 0
Traces tree view before (Step sent) trail = Completes tree view before (Went flow.Done) trail
Traces tree view before Part trail = (opcode : ℕ) × (units : ℕ) × Completes tree view before (Went (flow.More opcode units)) trail
Traces tree view before (Absent page) trail = Stops tree view before (cut.Absent page) trail
Traces tree view before (Ended e) trail = EndsRun tree view before (Went (flow.Ended e)) trail

-- the same before an exception is delivered
abbrev pub TracesTried : (State → Accesses Leaf) → Traced → Tried → Trail → Type 0
TracesTried tree old (tried.Step sent) trail = Traces (tree old.state) old.view old.trail (Step sent) trail
TracesTried tree old (tried.Part part) trail = Traces (tree old.state) old.view old.trail Part trail
TracesTried tree old (tried.Absent page) trail = Traces (tree old.state) old.view old.trail (Absent page) trail
TracesTried tree old (tried.Ended e) trail = Traces (tree old.state) old.view old.trail (Ended e) trail
TracesTried tree old (tried.Event e) trail = Stops (tree old.state) old.view old.trail (cut.Event e) trail

-- registers and console over a port with the accesses that it keeps
abbrev pub traced_of : {P : Type 0} → (P → View) → (P → Trail) → Core → Term → P → Traced
traced_of view trail core term port = record { state = state_of core term; view = view port; trail = trail port }

-- where an exception's delivery begins: at these registers, with the marks of the writes that were undone, and behind the accesses so far
abbrev pub raised_at : Core → Traced → (ℕ → Bool) → Trail → Traced
raised_at start old marked trail = record { state = record old.state { core = start }; view = with_marks old.view marked; trail = trail }

-- An attempt makes the accesses of its instruction alone; where that raises an exception, they are put back, and behind these come the accesses
-- of the exception's delivery from the registers at the instruction's start.
pub data Trailed (tree : State → Accesses Leaf) (start : Core) (old : Traced) (a : Attempt) (trail : Trail) : Type 0 where
  AtOnce : Traces (tree old.state) old.view old.trail a trail → Trailed tree start old a trail
  Delivered : (e : Exception) (marked : ℕ → Bool) (raised : Trail) → Stops (tree old.state) old.view old.trail (cut.Event e) raised →
      Traces (whole_delivery e (raised_at start old marked raised).state) (raised_at start old marked raised).view raised a trail → Trailed tree start old a trail

-- the same of what isn't answered yet
abbrev pub TrailedTried : (State → Accesses Leaf) → Core → Traced → Tried → Trail → Type 0
TrailedTried tree start old (tried.Step sent) trail = Trailed tree start old (Step sent) trail
TrailedTried tree start old (tried.Part part) trail = Trailed tree start old Part trail
TrailedTried tree start old (tried.Absent page) trail = Trailed tree start old (Absent page) trail
TrailedTried tree start old (tried.Ended e) trail = Trailed tree start old (Ended e) trail
TrailedTried tree start old (tried.Event e) trail = ⊥

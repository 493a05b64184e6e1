-- A delivery raises no exception: what it reads and what it pushes it has asked for before.
use Rattle.std.proofs.Common.{◌≡◌, ℕ, Bool, true, false, Option, Some, None, List, [], ◌∷◌, refl, sym, subst}
use Rattle.std.specs.Prelude.{if◌then◌else◌}
use Rattle.vax_word.specs.declared.Psl.{Psl}
use Rattle.vax_space.specs.declared.Access.TheVariants.{Read, Write}
use Rattle.vax_space.specs.declared.Area.{Area}
use Rattle.vax_space.specs.declared.Violation.{Violation}
use Rattle.vax_space.specs.Reference.{violation}
use Rattle.vax_flat.specs.declared.Delivery.{Delivery}
use Rattle.vax_flat.specs.declared.Delivery.TheVariants.{Entered, Ended}
use Rattle.vax_flat.specs.declared.Exception.{Exception}
use Rattle.vax_flat.specs.declared.Ending.TheVariants as ending
use Rattle.vax_flat.specs.Memory.{byte_at, number, written}
use Rattle.vax_flat.specs.State.{State}
use Rattle.vax_flat.specs.Accesses.{Accesses, Leaf}
use Rattle.vax_flat.specs.Port.{View, first_absent, stop_of, with_number}
use Rattle.vax_flat.specs.Outcome.{outcome_of, unless_violated, is_allowed}
use Rattle.vax_flat.specs.OverPort.{Arrival, over_port, unless_hindered}
use Rattle.vax_flat.specs.Operand.{read_in, write_in, asked}
use Rattle.vax_flat.specs.Quiet.{IsQuiet, IsEnd, RaisesNothing}
use Rattle.vax_flat.specs.Delivery.{vectored, pushed_in, pushed_if, pushed_all, entered, dispatched, delivery, interrupted, interrupt}
use Rattle.vax_flat.specs.Step.{handed_over, leaf, whole_delivery, delivered}

-- a range that is allowed may still lie in an absent page
hindered : {A : Type 0} (absent : Option ℕ) (marked : ℕ → Bool) (arrival : Arrival A) → IsQuiet arrival → IsQuiet (unless_hindered (stop_of None absent) marked arrival)
hindered None marked arrival quiet = quiet
hindered (Some page) marked arrival quiet = tt

module _ (addr len mode : ℕ) (s : State) (ends : Accesses Leaf) (quiet : RaisesNothing ends) where
  -- a read that was asked for
  module _ (next : ℕ → State → Accesses Leaf) (q : (x : ℕ) (t : State) → RaisesNothing (next x t)) where
    abbrev asking : Option Violation → Accesses Leaf
    asking v = if is_allowed v then read_in addr len mode s next else ends

    read_over : (view : View) (v : Option Violation) → violation view.areas addr len mode Read ≡ v → IsQuiet (over_port (asking v) view)
    unfolding read_in over_port
    read_over view (Some v) e = quiet.port view
    read_over view None e =
        subst (λ w. IsQuiet (unless_hindered (stop_of w (first_absent view.resident addr len)) view.marked (over_port (next (number view.byte addr len) s) view))) (sym e)
        (hindered (first_absent view.resident addr len) view.marked _ ((q _ s).port view))

    read_flat : (memory : List Area) (v : Option Violation) → violation memory addr len mode Read ≡ v → IsEnd (outcome_of (asking v) memory)
    unfolding read_in outcome_of
    read_flat memory (Some v) e = quiet.flat memory
    read_flat memory None e =
        subst (λ w. IsEnd (unless_violated w (outcome_of (next (number (byte_at memory) addr len) s) memory))) (sym e) ((q _ s).flat memory)

    pub quiet_read : RaisesNothing (asked addr len mode Read s (λ allowed s. if allowed then read_in addr len mode s next else ends))
    unfolding asked over_port outcome_of
    quiet_read = record {
      port = λ view. read_over view (violation view.areas addr len mode Read) refl;
      flat = λ memory. read_flat memory (violation memory addr len mode Read) refl;
    }

  -- a write that was asked for
  module _ (value : ℕ) (next : State → Accesses Leaf) (q : (t : State) → RaisesNothing (next t)) where
    abbrev trying : Option Violation → Accesses Leaf
    trying v = if is_allowed v then write_in addr len value mode s next else ends

    write_over : (view : View) (v : Option Violation) → violation view.areas addr len mode Write ≡ v → IsQuiet (over_port (trying v) view)
    unfolding write_in over_port
    write_over view (Some v) e = quiet.port view
    write_over view None e =
        subst (λ w. IsQuiet (unless_hindered (stop_of w (first_absent view.resident addr len)) view.marked (over_port (next s) (with_number view addr len value)))) (sym e)
        (hindered (first_absent view.resident addr len) view.marked _ ((q s).port _))

    write_flat : (memory : List Area) (v : Option Violation) → violation memory addr len mode Write ≡ v → IsEnd (outcome_of (trying v) memory)
    unfolding write_in outcome_of
    write_flat memory (Some v) e = quiet.flat memory
    write_flat memory None e =
        subst (λ w. IsEnd (unless_violated w (outcome_of (next s) (written memory addr len value)))) (sym e) ((q s).flat _)

    pub quiet_write : RaisesNothing (asked addr len mode Write s (λ allowed s. if allowed then write_in addr len value mode s next else ends))
    unfolding asked over_port outcome_of
    quiet_write = record {
      port = λ view. write_over view (violation view.areas addr len mode Write) refl;
      flat = λ memory. write_flat memory (violation memory addr len mode Write) refl;
    }

either : (b : Bool) (x y : Accesses Leaf) → RaisesNothing x → RaisesNothing y → RaisesNothing (if b then x else y)
either true x y qx qy = qx
either false x y qx qy = qy

quiet_vectored : (offset : ℕ) (s : State) (next : Option ℕ → State → Accesses Leaf) → ((x : Option ℕ) (t : State) → RaisesNothing (next x t)) → RaisesNothing (vectored offset s next)
unfolding vectored asked
quiet_vectored offset s next q = quiet_read _ 4 0 s (next None s) (q None s) _ (λ x t. q (Some x) t)

quiet_if : (value : ℕ) (s : State) (next : Bool → State → Accesses Leaf) → ((done : Bool) (t : State) → RaisesNothing (next done t)) → RaisesNothing (pushed_if value s next)
unfolding pushed_if pushed_in asked
quiet_if value s next q = quiet_write _ 4 0 s (next false s) (q false s) value _ (λ t. q true _)

quiet_pushed : (next : Bool → State → Accesses Leaf) → ((done : Bool) (t : State) → RaisesNothing (next done t)) → (values : List ℕ) (s : State) → RaisesNothing (pushed_all values s next)
unfolding pushed_all
quiet_pushed next q [] s = q true s
quiet_pushed next q (value ∷ values) s = quiet_if value s _ (λ done t. either done _ _ (quiet_pushed next q values t) (q false t))

module _ (next : Delivery → State → Accesses Leaf) (quiet : (how : Delivery) (t : State) → RaisesNothing (next how t)) where
  quiet_entered : (values : List ℕ) (vector : ℕ) (interrupt : Bool) (psl : Psl) (s : State) → RaisesNothing (entered values vector interrupt psl s next)
  unfolding entered
  quiet_entered values vector interrupt psl s = quiet_pushed _ (λ done t. either done _ _ (quiet Entered _) (quiet (Ended ending.Stack) t)) _ _

  by_exception : (e : Exception) (vector : Option ℕ) (s : State) → RaisesNothing (dispatched e vector s next)
  unfolding dispatched
  by_exception e None s = quiet _ s
  by_exception e (Some vector) s = either _ _ _ (quiet _ s) (either _ _ _ (quiet_entered _ vector _ _ s) (quiet_entered _ vector _ _ s))

  pub quiet_delivery : (e : Exception) (s : State) → RaisesNothing (delivery e s next)
  unfolding delivery
  quiet_delivery e s = quiet_vectored _ s _ (λ vector t. by_exception e vector t)

  by_level : (level : ℕ) (vector : Option ℕ) (s : State) → RaisesNothing (interrupted level vector s next)
  unfolding interrupted
  by_level level None s = quiet _ s
  by_level level (Some vector) s = either _ _ _ (quiet _ s) (quiet_entered _ vector _ _ _)

  pub quiet_interrupt : (level : ℕ) (s : State) → RaisesNothing (interrupt level s next)
  unfolding interrupt
  quiet_interrupt level s = quiet_vectored _ s _ (λ vector t. by_level level vector t)

quiet_leaf : (how : Delivery) (t : State) → RaisesNothing (handed_over how t leaf)
unfolding handed_over over_port outcome_of
quiet_leaf Entered t = record { port = λ view. tt; flat = λ memory. tt }
quiet_leaf (Ended e) t = record { port = λ view. tt; flat = λ memory. tt }

-- the delivery of what a step raised
pub quiet_whole : (e : Exception) (s : State) → RaisesNothing (whole_delivery e s)
unfolding delivered
quiet_whole e s = quiet_delivery (λ how t. handed_over how t leaf) quiet_leaf e s

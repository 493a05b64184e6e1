-- Where a tree raises nothing, neither does the call that follows it.
use Rattle.std.proofs.Common.{Result, Ok, Err, subst}
use Rattle.vax_flat.specs.declared.Cut.{Cut}
use Rattle.vax_flat.specs.declared.Cut.TheVariants.{Absent, Event}
use Rattle.vax_flat.specs.declared.Delivery.{Delivery}
use Rattle.vax_flat.specs.declared.Flow.TheVariants as flow
use Rattle.vax_flat.specs.State.{State}
use Rattle.vax_flat.specs.Accesses.{Accesses, Leaf}
use Rattle.vax_flat.specs.Outcome.{outcome_of}
use Rattle.vax_flat.specs.OverPort.{Arrival, over_port}
use Rattle.vax_flat.specs.Quiet.{IsQuiet, RaisesNothing}
use Rattle.vax_flat.specs.Step.{leaf}
use Rattle.vax_undo.specs.Trail.{Traced, FollowsTraced}
use Rattle.vax_undo.proofs.Trail.{follows}
use Rattle.vax_x_sys.specs.Raised.{RaisedNothing}

-- a tree's end
abbrev done : Delivery → State → Accesses Leaf
done how s = leaf flow.Done s

ends : (how : Delivery) (s : State) → RaisesNothing (done how s)
unfolding over_port outcome_of
ends how s = record { port = λ view. tt; flat = λ memory. tt }

pub raised_nothing : (tree : (Delivery → State → Accesses Leaf) → Accesses Leaf) (before after : Traced) (result : Result Delivery Cut)
    → ((next : Delivery → State → Accesses Leaf) → ((how : Delivery) (s : State) → RaisesNothing (next how s)) → RaisesNothing (tree next))
    → FollowsTraced tree before result after → RaisedNothing result
raised_nothing tree before after (Ok how) quiet made = tt
raised_nothing tree before after (Err (Absent page)) quiet made = tt
raised_nothing tree before after (Err (Event e)) quiet made =
    let P : Arrival Leaf → Type 0 = λ a. IsQuiet a in subst P (follows tree before (Err (Event e)) after made done) ((quiet done ends).port before.view)

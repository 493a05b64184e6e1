-- From what a call follows over a port to what it comes to on each memory that the port stands for.
use Rattle.std.proofs.Common.{◌≡◌, ℕ, Option, List, Result, Ok, Err, refl, subst}
use Rattle.vax_space.specs.declared.Area.{Area}
use Rattle.vax_flat.specs.declared.Cut.{Cut}
use Rattle.vax_flat.specs.declared.Cut.TheVariants.{Absent, Event}
use Rattle.vax_flat.specs.State.{State}
use Rattle.vax_flat.specs.Port.{View}
use Rattle.vax_flat.specs.Accesses.{Accesses, Leaf}
use Rattle.vax_flat.specs.Outcome.{Outcome}
use Rattle.vax_flat.specs.OverPort.{Present, Comes, Stops, Agrees, Follows, over_port}
use Rattle.vax_flat.proofs.Standing.{standing}
use Rattle.vax_undo.specs.Trail.{Traced, FollowsTraced}
use Rattle.vax_undo.proofs.Trail.{follows, present_of}
use Rattle.vax_operand.specs.Located.{at_end, Lands, LandsEverywhere}

module _ {X : Type 0} (leaf : X → State → Leaf) where
  landed : (view : View) (memory : List Area) (tree : Accesses Leaf) (first : Option ℕ) (outcome : Outcome Leaf) (result : Result X Cut) (after : Present) →
      Agrees view memory (over_port tree view) first outcome → ((x : X) → result ≡ Ok x → over_port tree view ≡ Comes (leaf x after.state) after.view) → ((cut : Cut) → result ≡ Err cut → over_port tree view ≡ Stops cut after.view.marked) →
      Lands leaf first outcome result after
  landed view memory tree first outcome (Ok x) after law came stops =
      let a = subst (λ y. Agrees view memory y first outcome) (came x refl) law in
      (a.0, (a.3.0, a.3.1, a.3.2))
  landed view memory tree first outcome (Err (Absent page)) after law came stops = subst (λ y. Agrees view memory y first outcome) (stops (Absent page) refl) law
  landed view memory tree first outcome (Err (Event e)) after law came stops = subst (λ y. Agrees view memory y first outcome) (stops (Event e) refl) law

  came_to : (tree : (X → State → Accesses Leaf) → Accesses Leaf) (before : Present) (result : Result X Cut) (after : Present) → Follows tree before result after → (x : X) → result ≡ Ok x → over_port (tree (at_end leaf)) before.view ≡ Comes (leaf x after.state) after.view
  unfolding over_port
  came_to tree before result after follows x is = subst (λ (r : Result X Cut). Follows tree before r after) is follows (at_end leaf)

  stopped_at : (tree : (X → State → Accesses Leaf) → Accesses Leaf) (before : Present) (result : Result X Cut) (after : Present) → Follows tree before result after → (cut : Cut) → result ≡ Err cut → over_port (tree (at_end leaf)) before.view ≡ Stops cut after.view.marked
  stopped_at tree before result after follows cut is = subst (λ (r : Result X Cut). Follows tree before r after) is follows (at_end leaf)

  by_follows : (tree : (X → State → Accesses Leaf) → Accesses Leaf) (before : Present) (result : Result X Cut) (after : Present) → Follows tree before result after → LandsEverywhere leaf tree before result after
  by_follows tree before result after follows = λ memory st.
      landed before.view memory (tree (at_end leaf)) _ _ result after (standing (tree (at_end leaf)) before.view memory st) (came_to tree before result after follows) (stopped_at tree before result after follows)

  pub everywhere : (tree : (X → State → Accesses Leaf) → Accesses Leaf) (before : Traced) (result : Result X Cut) (after : Traced) → FollowsTraced tree before result after → LandsEverywhere leaf tree (present_of before) result (present_of after)
  everywhere tree before result after made = by_follows tree (present_of before) result (present_of after) (follows tree before result after made)

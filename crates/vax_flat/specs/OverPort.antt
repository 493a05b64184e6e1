-- What a tree of accesses comes to over a port: it stops at the first page that it needs and that is absent.
use Rattle.std.specs.Prelude.{◌≡◌, ℕ, Bool, false, Option, Some, None, Result, Ok, Err, List, length}
use Rattle.vax_space.specs.declared.Access.TheVariants.{Read, Write}
use Rattle.vax_space.specs.declared.Area.{Area}
use Rattle.vax_space.specs.declared.Violation.{Violation}
use Rattle.vax_space.specs.Reference.{page_of, violation}
use Rattle.vax_flat.specs.declared.Cut.{Cut}
use Rattle.vax_flat.specs.declared.Cut.TheVariants.{Absent, Event}
use Rattle.vax_flat.specs.declared.Exception.TheVariants as exception
use Rattle.vax_flat.specs.declared.Stop.{Stop}
use Rattle.vax_flat.specs.Memory.{byte_at, number, bytes_from}
use Rattle.vax_flat.specs.State.{State}
use Rattle.vax_flat.specs.Accesses.{Accesses, Done, Raises, Checks, Asks, Reads, Writes, ReadsRun, WritesRun, Leaf}
use Rattle.vax_flat.specs.Outcome.{Outcome, Ends, Raised, is_allowed}
use Rattle.vax_flat.specs.Port.{View, StandsFor, stop, cut_of, with_number, with_run}

-- it comes to its end with what the port then shows, or is cut short with these pages marked
pub data Arrival (A : Type 0) : Type 0 where
  Comes : A → View → Arrival A
  Stops : Cut → (ℕ → Bool) → Arrival A

abbrev pub unless_hindered : {A : Type 0} → Option Stop → (ℕ → Bool) → Arrival A → Arrival A
unless_hindered (Some s) marked arrival = Stops (cut_of s) marked
unless_hindered None marked arrival = arrival

abbrev pub unless_forbidden : {A : Type 0} → Option Violation → (ℕ → Bool) → Arrival A → Arrival A
unless_forbidden (Some v) marked arrival = Stops (Event (exception.Access v)) marked
unless_forbidden None marked arrival = arrival

unfoldable pub over_port : {A : Type 0} → Accesses A → View → Arrival A
over_port (Done x) view = Comes x view
over_port (Raises e) view = Stops (Event e) view.marked
over_port (Checks addr len mode access next) view =
    unless_forbidden (violation view.areas addr len mode access) view.marked (over_port next view)
over_port (Asks addr len mode access next) view =
    over_port (next (is_allowed (violation view.areas addr len mode access))) view
over_port (Reads addr len mode next) view =
    unless_hindered (stop view addr len mode Read) view.marked (over_port (next (number view.byte addr len)) view)
over_port (Writes addr len value mode next) view =
    unless_hindered (stop view addr len mode Write) view.marked (over_port next (with_number view addr len value))
over_port (ReadsRun addr len mode next) view =
    unless_hindered (stop view addr len mode Read) view.marked (over_port (next (bytes_from view.byte addr len)) view)
over_port (WritesRun addr bytes mode next) view =
    unless_hindered (stop view addr (length bytes) mode Write) view.marked (over_port next (with_run view addr bytes))

-- what a transaction works on
pub record Present : Type 0 where
  pub state : State
  pub view : View

abbrev pub goes_on : {A X : Type 0} → Result X Cut → (ℕ → Bool) → (X → Arrival A) → Arrival A
goes_on (Ok x) marked next = next x
goes_on (Err cut) marked next = Stops cut marked

-- A call makes the accesses of a tree: before it, the tree followed by any other comes to what the other comes to where the call ended;
-- and where the call was cut short, so is the tree, with the same pages marked.
abbrev pub Follows : {X : Type 0} → ((X → State → Accesses Leaf) → Accesses Leaf) → Present → Result X Cut → Present → Type 0
Follows tree before result after =
    (next : _ → State → Accesses Leaf) → over_port (tree next) before.view ≡ goes_on result after.view.marked (λ x. over_port (next x after.state) after.view)

-- the same of a call that gives no value
abbrev pub Performs : ((State → Accesses Leaf) → Accesses Leaf) → Present → Result (Unit {0}) Cut → Present → Type 0
Performs tree before result after =
    (next : State → Accesses Leaf) → over_port (tree next) before.view ≡ goes_on result after.view.marked (λ _. over_port (next after.state) after.view)

-- Over each memory that a port stands for, a tree comes to the same end: by the first absent page of its touches, and by its outcome there.
-- The port then stands for that memory, and the bytes of absent pages stay.
abbrev pub Agrees : {A : Type 0} → View → List Area → Arrival A → Option ℕ → Outcome A → Type 0
Agrees view memory (Comes x after) first outcome =
    (first ≡ None) × (after.resident ≡ view.resident) × (after.areas ≡ view.areas)
    × ((now : List Area) × (outcome ≡ Ends x now) × StandsFor after now
    × ((addr : ℕ) → view.resident (page_of addr) ≡ false → byte_at now addr ≡ byte_at memory addr))
Agrees view memory (Stops (Absent page) marked) first outcome = first ≡ Some page
Agrees view memory (Stops (Event e) marked) first outcome = (first ≡ None) × (outcome ≡ Raised e)

-- the pages that are marked where a tree came to its end or was cut short
abbrev pub marks_of : {A : Type 0} → Arrival A → ℕ → Bool
marks_of (Comes x after) = after.marked
marks_of (Stops cut marked) = marked

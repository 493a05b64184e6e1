-- The accesses that are made through a port, where it keeps them, and what a tree of accesses comes to with them.
use Rattle.std.specs.Prelude.{◌≡◌, ℕ, Bool, nat_lt, if◌then◌else◌, Option, Some, None, Result, Ok, Err, List, [], ◌∷◌, ◌++◌, length}
use Rattle.vax_space.specs.declared.Access.{Access}
use Rattle.vax_space.specs.declared.Access.TheVariants.{Read, Write}
use Rattle.vax_space.specs.declared.Violation.{Violation}
use Rattle.vax_space.specs.Reference.{violation}
use Rattle.vax_flat.specs.declared.Cut.{Cut}
use Rattle.vax_flat.specs.declared.Cut.TheVariants.{Event}
use Rattle.vax_flat.specs.declared.Exception.TheVariants as exception
use Rattle.vax_flat.specs.declared.Stop.{Stop}
use Rattle.vax_flat.specs.Memory.{number, bytes_from}
use Rattle.vax_flat.specs.State.{State}
use Rattle.vax_flat.specs.Accesses.{Accesses, Done, Raises, Checks, Asks, Reads, Writes, ReadsRun, WritesRun, Leaf}
use Rattle.vax_flat.specs.Outcome.{is_allowed}
use Rattle.vax_flat.specs.Port.{View, stop, cut_of, with_number, with_run}
use Rattle.vax_undo.specs.Blocks.{low_bytes}

-- an access that was made: the bytes that were read or written, by ascending addresses
pub record Made : Type 0 where
  pub access : Access
  pub addr : ℕ
  pub bytes : List ℕ

-- the accesses in order, of which so many are kept at most; or none are kept
pub data Trail : Type 0 where
  NoneKept : Trail
  KeptUpTo : ℕ → List Made → Trail

-- one more access is made: where it is one too many, none are kept
unfoldable pub noted : Trail → Made → Trail
noted NoneKept made = NoneKept
noted (KeptUpTo most list) made = if nat_lt (length list) most then KeptUpTo most (list ++ made ∷ []) else NoneKept

abbrev pub reading : View → ℕ → ℕ → Made
reading view addr len = record { access = Read; addr = addr; bytes = bytes_from view.byte addr len }

abbrev pub writing : ℕ → List ℕ → Made
writing addr bytes = record { access = Write; addr = addr; bytes = bytes }

-- an access that is stopped isn't made
abbrev pub unless_stopped : Option Stop → Trail → Trail → Trail
unless_stopped (Some s) old new = old
unless_stopped None old new = new

abbrev pub after_reading : View → Trail → ℕ → ℕ → ℕ → Trail
after_reading view trail addr len mode =
    unless_stopped (stop view addr len mode Read) trail (noted trail (reading view addr len))

-- the bytes of a number are written
abbrev pub after_writing : View → Trail → ℕ → ℕ → ℕ → ℕ → Trail
after_writing view trail addr len value mode =
    unless_stopped (stop view addr len mode Write) trail (noted trail (writing addr (low_bytes len value)))

abbrev pub after_writing_run : View → Trail → ℕ → List ℕ → ℕ → Trail
after_writing_run view trail addr bytes mode =
    unless_stopped (stop view addr (length bytes) mode Write) trail (noted trail (writing addr bytes))

-- a tree comes to its end, or is cut short, with what the port then shows and with the accesses that were made until then
pub data Landing (A : Type 0) : Type 0 where
  Arrives : A → View → Trail → Landing A
  Breaks : Cut → (ℕ → Bool) → Trail → Landing A

abbrev pub unless_hindered : {A : Type 0} → Option Stop → (ℕ → Bool) → Trail → Landing A → Landing A
unless_hindered (Some s) marked trail landing = Breaks (cut_of s) marked trail
unless_hindered None marked trail landing = landing

abbrev pub unless_forbidden : {A : Type 0} → Option Violation → (ℕ → Bool) → Trail → Landing A → Landing A
unless_forbidden (Some v) marked trail landing = Breaks (Event (exception.Access v)) marked trail
unless_forbidden None marked trail landing = landing

-- what a tree comes to over a port by which these accesses were made before: a check and a question about a range are none
unfoldable pub over_trail : {A : Type 0} → Accesses A → View → Trail → Landing A
over_trail (Done x) view trail = Arrives x view trail
over_trail (Raises e) view trail = Breaks (Event e) view.marked trail
over_trail (Checks addr len mode access next) view trail =
    unless_forbidden (violation view.areas addr len mode access) view.marked trail (over_trail next view trail)
over_trail (Asks addr len mode access next) view trail =
    over_trail (next (is_allowed (violation view.areas addr len mode access))) view trail
over_trail (Reads addr len mode next) view trail =
    unless_hindered (stop view addr len mode Read) view.marked trail
    (over_trail (next (number view.byte addr len)) view (noted trail (reading view addr len)))
over_trail (Writes addr len value mode next) view trail =
    unless_hindered (stop view addr len mode Write) view.marked trail
    (over_trail next (with_number view addr len value) (noted trail (writing addr (low_bytes len value))))
over_trail (ReadsRun addr len mode next) view trail =
    unless_hindered (stop view addr len mode Read) view.marked trail
    (over_trail (next (bytes_from view.byte addr len)) view (noted trail (reading view addr len)))
over_trail (WritesRun addr bytes mode next) view trail =
    unless_hindered (stop view addr (length bytes) mode Write) view.marked trail
    (over_trail next (with_run view addr bytes) (noted trail (writing addr bytes)))

-- what a transaction works on, with the accesses that were made
pub record Traced : Type 0 where
  pub state : State
  pub view : View
  pub trail : Trail

abbrev pub lands_on : {A X : Type 0} → Result X Cut → (ℕ → Bool) → Trail → (X → Landing A) → Landing A
lands_on (Ok x) marked trail next = next x
lands_on (Err cut) marked trail next = Breaks cut marked trail

-- A call makes the accesses of a tree, and no other: before it, the tree followed by any other comes to what the other comes to where the call
-- ended, with the same accesses made; and where the call was cut short, so is the tree, with the same pages marked and the same accesses made.
abbrev pub FollowsTraced : {X : Type 0} → ((X → State → Accesses Leaf) → Accesses Leaf) → Traced → Result X Cut → Traced → Type 0
FollowsTraced tree before result after =
    (next : _ → State → Accesses Leaf) → over_trail (tree next) before.view before.trail
    ≡ lands_on result after.view.marked after.trail (λ x. over_trail (next x after.state) after.view after.trail)

-- the same of a call that gives no value
abbrev pub PerformsTraced : ((State → Accesses Leaf) → Accesses Leaf) → Traced → Result (Unit {0}) Cut → Traced → Type 0
PerformsTraced tree before result after =
    (next : State → Accesses Leaf) → over_trail (tree next) before.view before.trail
    ≡ lands_on result after.view.marked after.trail (λ _. over_trail (next after.state) after.view after.trail)

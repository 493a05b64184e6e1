-- How much of memory is touched, and which instructions leave parts.
use Rattle.std.specs.Prelude.{◌≡◌, ℕ, suc, zero, ◌+◌, ◌^◌, ◌<◌, ◌≤◌, ◌⊎◌, Bool, false, true, List, [], ◌∷◌, ◌++◌, length}
use Rattle.vax_space.specs.declared.Access.{Access}
use Rattle.vax_space.specs.Reference.{page_of, byte_after}
use Rattle.vax_isa.specs.declared.actions.Action.{Action}
use Rattle.vax_isa.specs.declared.actions.Action.TheVariants as action
use Rattle.vax_flat.specs.declared.Exception.{Exception}
use Rattle.vax_flat.specs.declared.Flow.{Flow}
use Rattle.vax_flat.specs.declared.Flow.TheVariants as flow
use Rattle.vax_flat.specs.Accesses.{Accesses, Raises, Checks, Asks, Reads, Writes, ReadsRun, WritesRun, Leaf, Went, Found}
use Rattle.vax_flat.specs.Outcome.{Outcome, Ends, Raised, Range}

-- the k-th byte of a window or of a range that begins at an address
abbrev pub place : ℕ → ℕ → ℕ
place addr zero = addr
place addr (suc k) = byte_after addr (suc k)

-- a range lies in the window of 512 bytes that begins here
pub record IsWithin (window addr len : ℕ) : Type 0 where
  pub offset : ℕ
  pub begins : addr ≡ place window offset
  pub ends : offset + len ≤ 512

-- in one of these windows
abbrev pub IsCovered : List ℕ → ℕ → ℕ → Type 0
IsCovered [] addr len = ⊥
IsCovered (window ∷ windows) addr len = IsWithin window addr len ⊎ IsCovered windows addr len

-- each of these ranges does
abbrev pub AreCovered : List ℕ → List Range → Type 0
AreCovered windows [] = Unit {0}
AreCovered windows (range ∷ ranges) = IsCovered windows range.addr range.len × AreCovered windows ranges

-- ranges lie in these windows and in at most so many more
pub record LieIn (windows : List ℕ) (more : ℕ) (ranges : List Range) : Type 0 where
  pub others : List ℕ
  pub few : length others ≤ more
  pub covered : AreCovered (windows ++ others) ranges

abbrev pub IsOneOf : List ℕ → ℕ → Type 0
IsOneOf [] page = ⊥
IsOneOf (p ∷ pages) page = (page ≡ p) ⊎ IsOneOf pages page

-- every page of the address space in which a range has a byte is one of these
abbrev pub AreOn : List ℕ → List Range → Type 0
AreOn pages [] = Unit {0}
AreOn pages (range ∷ ranges) =
    ((k : ℕ) → k < range.len → page_of (place range.addr k) < 2 ^ 23 → IsOneOf pages (page_of (place range.addr k))) × AreOn pages ranges

-- ranges lie in at most 20 windows of 512 bytes, and in at most 40 pages
pub record AreFew (ranges : List Range) : Type 0 where
  pub windows : List ℕ
  pub few_windows : length windows ≤ 20
  pub covered : AreCovered windows ranges
  pub pages : List ℕ
  pub few_pages : length pages ≤ 40
  pub on : AreOn pages ranges

-- A property of trees that is kept where a tree grows by an access. The accesses lie in windows, and a tree may take so many more windows of its own.
pub record IsClosed (Q : List ℕ → ℕ → Accesses Leaf → Type 0) : Type 0 where
  pub fewer : (windows : List ℕ) (n : ℕ) (tree : Accesses Leaf) → Q windows n tree → Q windows (suc n) tree
  pub wider : (window : ℕ) (windows : List ℕ) (n : ℕ) (tree : Accesses Leaf) → Q windows n tree → Q (window ∷ windows) n tree
  pub opens : (window : ℕ) (windows : List ℕ) (n : ℕ) (tree : Accesses Leaf) → Q (window ∷ windows) n tree → Q windows (suc n) tree
  pub raises : (windows : List ℕ) (n : ℕ) (e : Exception) → Q windows n (Raises e)
  pub checks : (windows : List ℕ) (n addr len mode : ℕ) (access : Access) (next : Accesses Leaf) → Q windows n next → Q windows n (Checks addr len mode access next)
  pub asks : (windows : List ℕ) (n addr len mode : ℕ) (access : Access) (next : Bool → Accesses Leaf) → ((allowed : Bool) → Q windows n (next allowed)) → Q windows n (Asks addr len mode access next)
  pub reads : (windows : List ℕ) (n addr len mode : ℕ) (next : ℕ → Accesses Leaf) → IsCovered windows addr len → ((x : ℕ) → Q windows n (next x)) → Q windows n (Reads addr len mode next)
  pub writes : (windows : List ℕ) (n addr len value mode : ℕ) (next : Accesses Leaf) → IsCovered windows addr len → Q windows n next → Q windows n (Writes addr len value mode next)
  pub reads_run : (windows : List ℕ) (n addr len mode : ℕ) (next : List ℕ → Accesses Leaf) → IsCovered windows addr len → ((bytes : List ℕ) → length bytes ≡ len → Q windows n (next bytes)) → Q windows n (ReadsRun addr len mode next)
  pub writes_run : (windows : List ℕ) (n addr : ℕ) (bytes : List ℕ) (mode : ℕ) (next : Accesses Leaf) → IsCovered windows addr (length bytes) → Q windows n next → Q windows n (WritesRun addr bytes mode next)

-- an instruction that is completed, or ends the run, and leaves no part
abbrev pub IsWhole : Flow → Type 0
IsWhole flow.Done = Unit {0}
IsWhole flow.Clocked = Unit {0}
IsWhole (flow.Trap kind) = Unit {0}
IsWhole (flow.More opcode units) = ⊥
IsWhole (flow.Ended e) = Unit {0}

abbrev pub LeavesNoPart : Outcome Leaf → Type 0
LeavesNoPart (Ends (Went how s) memory) = IsWhole how
LeavesNoPart (Ends (Found operand s) memory) = Unit {0}
LeavesNoPart (Raised e) = Unit {0}

-- the string instructions, which alone may leave parts
abbrev pub is_string : Action → Bool
is_string (action.Integer i) = false
is_string (action.Control c) = false
is_string (action.Field f) = false
is_string (action.Call c) = false
is_string (action.Queue q) = false
is_string (action.System i) = false
is_string (action.Text t) = true

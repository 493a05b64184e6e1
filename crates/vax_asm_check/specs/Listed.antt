-- All faults of a source in one list, and the first of them (VAX MACRO and Instruction Set Reference Manual, "Diagnostic messages").
use Rattle.std.specs.Prelude.{◌≡◌, ◌<◌, ◌≤◌, ◌⊎◌, ◌==◌, ◌&&◌, ℕ, Bool, List, [], ◌∷◌, ◌++◌, length, slice_index_or}
use Rattle.std.specs.List.{filter}
use Rattle.std.specs.List.Sorted.{IsPermutation}
use Rattle.vax_asm_faults.specs.Least.{IsUpTo}
use Rattle.vax_asm_faults.specs.Refusal.{Faults}
use Rattle.vax_asm_second.specs.declared.types.Fault.{Fault}
use Rattle.vax_macro.specs.Fault.{code_of}

-- None stands behind one of a later line, or behind one of its line with a higher kind.
abbrev pub IsByLine : List Fault → Type 0
IsByLine faults = (i j : ℕ) (d : Fault) → i ≤ j → j < length faults → IsUpTo (slice_index_or faults i d) (slice_index_or faults j d)

-- of one line and of one kind
abbrev pub is_like : Fault → Fault → Bool
is_like f g = (g.origin.place == f.origin.place) && (code_of g.kind == code_of f.kind)

-- The same faults by their lines. Those of one line and of one kind stand as they were found.
pub record IsInOrder (found told : List Fault) : Type 0 where
  pub same : IsPermutation found told
  pub by_line : IsByLine told
  pub stable : (f : Fault) → filter (is_like f) told ≡ filter (is_like f) found

-- All faults: those of the lines as they were found, and behind them those that the whole source decides, in order.
pub record AreAll (told : List Fault) (all : Faults) : Type 0 where
  pub whole : List Fault
  pub order : IsInOrder all.whole whole
  pub joined : told ≡ all.lines ++ whole

-- They begin with one on the line of this fault, of its kind or of a higher one.
pub record BeginAt (f : Fault) (told : List Fault) : Type 0 where
  pub first : Fault
  pub more : List Fault
  pub is : told ≡ first ∷ more
  pub origin : first.origin ≡ f.origin
  pub kind : code_of f.kind ≤ code_of first.kind

-- on an earlier line, or on the same one
abbrev pub StandsBefore : Fault → Fault → Type 0
StandsBefore f g = (f.origin.place < g.origin.place) ⊎ (f.origin ≡ g.origin)

abbrev pub StandsBeforeAll : Fault → List Fault → Type 0
StandsBeforeAll f [] = Unit {0}
StandsBeforeAll f (g ∷ faults) = StandsBefore f g × StandsBeforeAll f faults

-- each stands before all that come behind it
abbrev pub Ascend : List Fault → Type 0
Ascend [] = Unit {0}
Ascend (f ∷ faults) = StandsBeforeAll f faults × Ascend faults

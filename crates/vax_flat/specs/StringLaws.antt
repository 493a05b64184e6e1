-- What the laws of the string instructions say, and of which instructions.
use Rattle.std.specs.Prelude.{true, ◌≡◌, ◌<◌, ◌≤◌, ◌^◌, Bool, List}
use Rattle.vax_space.specs.declared.Area.{Area}
use Rattle.vax_strpart.specs.declared.packing.Progress.{Progress}
use Rattle.vax_strpart.specs.declared.packing.Layout.TheVariants.{Searches, Scans, Compares}
use Rattle.vax_strpart.specs.Packing.{layout_of, IsProper}
use Rattle.vax_flat.specs.declared.Flow.{Flow}
use Rattle.vax_flat.specs.State.{State}
use Rattle.vax_flat.specs.Accesses.{Accesses, Leaf}
use Rattle.vax_flat.specs.Outcome.{outcome_of}
use Rattle.vax_flat.specs.Laws.{Following}
use Rattle.vax_flat.specs.String.{IsReady, from_registers}
use Rattle.vax_flat.specs.StringAgree.{IsBehind, and_rest}
use Rattle.vax_flat.specs.StringEscape.{IsEscapeChecked}
use Rattle.vax_flat.specs.StringMove.{IsChecked, IsMove, moved_count}

-- a string instruction, or a part of one, from a progress
abbrev pub Way : Type 0
Way = Progress → State → Following Flow → Accesses Leaf

-- what is known where it begins
abbrev pub Premise : Type 1
Premise = Progress → State → List Area → Type 0

-- a premise on the progress alone
abbrev pub OfProgress : (Progress → Type 0) → Premise
OfProgress holds p s memory = holds p

-- Wherever a premise holds, one part, and then the rest of what it left, by the registers, come to the whole.
abbrev pub ComesInParts : Premise → (whole part rest : Way) → Type 0
ComesInParts holds whole part rest =
    (p : Progress) (s : State) (memory : List Area) (next : Following Flow) → IsBehind next → IsReady s → IsProper p → holds p s memory →
    outcome_of (whole p s next) memory ≡ and_rest (λ t. from_registers p.op rest t next) (outcome_of (part p s next) memory)

-- a search for a byte
pub record IsSearch (p : Progress) : Type 0 where
  pub layout : layout_of p.op ≡ Searches
  pub address : p.addr1 < 2 ^ 32
  pub delta : p.delta < 2 ^ 8

-- a search by a table
pub record IsScan (p : Progress) : Type 0 where
  pub layout : layout_of p.op ≡ Scans
  pub address : p.addr1 < 2 ^ 32
  pub table : p.table < 2 ^ 32
  pub delta : p.delta < 2 ^ 8

-- a comparison
pub record IsComparison (p : Progress) : Type 0 where
  pub layout : layout_of p.op ≡ Compares
  pub first : p.addr1 < 2 ^ 32
  pub second : p.addr2 < 2 ^ 32
  pub delta : p.delta < 2 ^ 8

-- a match, within the object
pub record IsMatch (p : Progress) : Type 0 where
  pub layout : layout_of p.op ≡ Compares
  pub delta : p.delta < 2 ^ 8
  pub within : p.done ≤ p.len1

-- a move, within the destination
pub record IsMoveWithin (translate : Bool) (p : Progress) : Type 0 where
  pub is : IsMove translate p
  pub within : p.done ≤ p.len2

-- the same where its strings were checked
pub record IsCheckedMove (translate : Bool) (p : Progress) (s : State) (memory : List Area) : Type 0 where
  pub move : IsMoveWithin translate p
  pub checked : IsChecked translate p s memory

-- a move up to a byte that escapes, within what it moves
pub record IsEscape (p : Progress) : Type 0 where
  pub is : IsMove true p
  pub within : p.done ≤ moved_count p

-- the same where its strings were checked
pub record IsCheckedEscape (p : Progress) (s : State) (memory : List Area) : Type 0 where
  pub escape : IsEscape p
  pub checked : IsEscapeChecked p s memory

-- What the laws of units say, and of which instructions.
use Rattle.std.specs.Prelude.{false, ◌≡◌, ◌<◌, ◌≤◌, ◌+◌, ◌-◌, ◌^◌, ℕ, Bool, List, length, min, if◌then◌else◌}
use Rattle.vax_space.specs.declared.Area.{Area}
use Rattle.vax_strpart.specs.declared.packing.Layout.TheVariants.{Compares, Moves, Translates}
use Rattle.vax_strpart.specs.declared.packing.Progress.{Progress}
use Rattle.vax_strpart.specs.Packing.{layout_of, unpacked, IsProper}
use Rattle.vax_flat.specs.State.{State, register}
use Rattle.vax_flat.specs.Outcome.{outcome_of}
use Rattle.vax_flat.specs.Laws.{Following}
use Rattle.vax_flat.specs.declared.Flow.{Flow}
use Rattle.vax_flat.specs.Step.{leaf}
use Rattle.vax_flat.specs.String.{low_registers}
use Rattle.vax_flat.specs.StringAgree.{IsBehind}
use Rattle.vax_flat.specs.StringEscape.{is_escape_reserved}
use Rattle.vax_flat.specs.StringLaws.{Way}
use Rattle.vax_flat.specs.StringMove.{moved_count}
use Rattle.vax_flat_units.specs.Units.{Counts, compare_units}
use Rattle.vax_flat_units.specs.Wholes.{IfCompleted, bytes_read, bytes_written, if_escaped}

-- ---- Whole instructions

-- a number that a progress and a memory decide
abbrev pub Count : Type 0
Count = Progress → List Area → ℕ

-- where an instruction is completed, it read so many bytes
abbrev pub Reads : Way → Count → Type 0
Reads whole count = (p : Progress) (s : State) (memory : List Area) →
    IfCompleted (whole p s leaf) memory (λ t ranges. bytes_read ranges ≡ count p memory)

-- where an instruction is completed, it wrote so many bytes
abbrev pub Writes : Way → Count → Type 0
Writes whole count = (p : Progress) (s : State) (memory : List Area) →
    IfCompleted (whole p s leaf) memory (λ t ranges. bytes_written ranges ≡ count p memory)

-- where an instruction is completed, so many bytes were written or escaped
abbrev pub WritesOrEscapes : Way → Count → Type 0
WritesOrEscapes whole count = (p : Progress) (s : State) (memory : List Area) →
    IfCompleted (whole p s leaf) memory (λ t ranges. bytes_written ranges + if_escaped t ≡ count p memory)

-- a comparison reads for each unit a byte of both strings, but none of one that is exhausted
abbrev pub bytes_compared : Count
bytes_compared p memory = min (compare_units p memory) (p.len1 - p.done) + min (compare_units p memory) (p.len2 - p.done)

-- ---- Parts

-- Wherever a premise holds of its progress, a part that leaves something made a unit or more, and as many fewer are left.
abbrev pub PartsCount : (Progress → Type 0) → Count → Way → Type 0
PartsCount Holds units part =
    (p : Progress) (s : State) (memory : List Area) (next : Following Flow) → IsBehind next → length s.core.regs ≡ 16 → IsProper p → Holds p →
    Counts units p.op (units p memory) (outcome_of (part p s next) memory)

-- a search for a byte
abbrev pub IsSearch : Progress → Type 0
IsSearch p = p.addr1 < 2 ^ 32

-- a search by a table
pub record IsScan (p : Progress) : Type 0 where
  pub address : p.addr1 < 2 ^ 32
  pub table : p.table < 2 ^ 32

-- a comparison
abbrev pub IsComparison : Progress → Type 0
IsComparison p = layout_of p.op ≡ Compares

-- a move, within the destination
pub record IsMove (translate : Bool) (p : Progress) : Type 0 where
  pub layout : layout_of p.op ≡ (if translate then Translates else Moves)
  pub within : p.done ≤ p.len2

-- a move up to a byte that escapes, within what it moves, whose strings and table aren't reserved
pub record IsEscape (p : Progress) : Type 0 where
  pub layout : layout_of p.op ≡ Translates
  pub source : p.addr1 < 2 ^ 32
  pub destination : p.addr2 < 2 ^ 32
  pub table : p.table < 2 ^ 32
  pub unreserved : is_escape_reserved p ≡ false
  pub within : p.done ≤ moved_count p

-- a match, within the object
pub record IsMatch (p : Progress) : Type 0 where
  pub layout : layout_of p.op ≡ Compares
  pub within : p.done ≤ p.len1

-- a later part goes by the registers alone; of MOVTUC its strings and its table aren't reserved
pub record CanResume (opcode : ℕ) (s : State) : Type 0 where
  pub full : length s.core.regs ≡ 16
  pub words : (n : ℕ) → register s n < 2 ^ 32
  pub unreserved : opcode ≡ 0x2F → is_escape_reserved (unpacked opcode (low_registers s)) ≡ false

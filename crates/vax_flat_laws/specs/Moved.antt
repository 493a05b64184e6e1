-- What a part of a move has written, byte by byte (VAX MACRO and Instruction Set Reference Manual, MOVC, MOVTC).
use Rattle.std.specs.Prelude.{◌≡◌, ◌≢◌, ◌<◌, ℕ, ◌+◌, Bool, true, false, List}
use Rattle.vax_space.specs.declared.Area.{Area}
use Rattle.vax_strpart.specs.declared.packing.Progress.{Progress}
use Rattle.vax_flat.specs.declared.Flow.TheVariants as flow
use Rattle.vax_flat.specs.Accesses.{Found, Leaf, Went}
use Rattle.vax_flat.specs.Memory.{byte_at}
use Rattle.vax_flat.specs.Operand.{plus}
use Rattle.vax_flat.specs.Outcome.{Ends, Outcome, Raised}
use Rattle.vax_flat_laws.specs.Maximal.{moved_index}

-- where a tree leaves a part of so many units, this holds of it and of the memory
abbrev pub IfLeftMemory : (ℕ → List Area → Type 0) → Outcome Leaf → Type 0
IfLeftMemory holds (Ends (Went flow.Done s) memory) = Unit {0}
IfLeftMemory holds (Ends (Went flow.Clocked s) memory) = Unit {0}
IfLeftMemory holds (Ends (Went (flow.Trap kind) s) memory) = Unit {0}
IfLeftMemory holds (Ends (Went (flow.More opcode made) s) memory) = holds made memory
IfLeftMemory holds (Ends (Went (flow.Ended e) s) memory) = Unit {0}
IfLeftMemory holds (Ends (Found operand s) memory) = Unit {0}
IfLeftMemory holds (Raised e) = Unit {0}

-- a byte as it is moved: its byte in a table, or itself
abbrev pub as_moved : (translate : Bool) → (table : ℕ) → List Area → (byte : ℕ) → ℕ
as_moved true table memory byte = byte_at memory (plus table byte)
as_moved false table memory byte = byte

-- Each of so many units wrote a byte to its place, and nothing else was written.
pub record Wrote (place content : ℕ → ℕ) (before : List Area) (made : ℕ) (after : List Area) : Type 0 where
  pub written : (j : ℕ) → j < made → byte_at after (place j) ≡ content j
  pub others : (addr : ℕ) → ((j : ℕ) → j < made → addr ≢ place j) → byte_at after addr ≡ byte_at before addr

-- A unit of a move writes the source's byte as it stood before the part, at the same place of the destination.
abbrev pub HasMoved : (translate : Bool) → Progress → List Area → (made : ℕ) → List Area → Type 0
HasMoved translate p before =
    Wrote (λ j. plus p.addr2 (moved_index p j)) (λ j. as_moved translate p.table before (byte_at before (plus p.addr1 (moved_index p j)))) before

-- A unit of a fill writes the fill byte.
abbrev pub HasFilled : Progress → List Area → (made : ℕ) → List Area → Type 0
HasFilled p before = Wrote (λ j. plus p.addr2 (p.done + j)) (λ j. p.byte) before

-- A unit of MOVTUC writes the table's byte, which isn't the escape.
pub record HasEscaped (p : Progress) (before : List Area) (made : ℕ) (after : List Area) : Type 0 where
  pub wrote : Wrote (λ j. plus p.addr2 (p.done + j)) (λ j. as_moved true p.table before (byte_at before (plus p.addr1 (p.done + j)))) before made after
  pub clear : (j : ℕ) → j < made → as_moved true p.table before (byte_at before (plus p.addr1 (p.done + j))) ≢ p.byte

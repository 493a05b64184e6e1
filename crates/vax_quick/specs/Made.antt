-- Work that is done at once on the registers, with no log: what it makes of a tree of accesses, and what of the instruction was seen.
use Rattle.std.specs.Prelude.{◌≡◌, ℕ, zero, suc, ◌^◌, ◌<◌, ◌≤◌, ◌&&◌, Bool, false, Option, Some, None, Ok, List, length, slice_index, slice_set}
use Rattle.vax_word.specs.declared.Codes.{Codes}
use Rattle.vax_word.specs.declared.Core.{Core}
use Rattle.vax_word.specs.declared.Psl.{Psl}
use Rattle.vax_word.specs.Status.{is_one, mode_of}
use Rattle.vax_isa.specs.Rows.{action_of}
use Rattle.vax_flat.specs.declared.Flow.{Flow}
use Rattle.vax_flat.specs.declared.Flow.TheVariants as flow
use Rattle.vax_flat.specs.Instruction.{acted_part_if}
use Rattle.vax_flat.specs.State.{State}
use Rattle.vax_flat.specs.Accesses.{Accesses, Leaf, Went}
use Rattle.vax_flat.specs.OverPort.{Comes, over_port}
use Rattle.vax_flat.specs.Parts.{part_step}
use Rattle.vax_flat.specs.Port.{View, AreBytes, loaded}
use Rattle.vax_flat.specs.Step.{level}
use Rattle.vax_undo.specs.FirstPart.{first_part_done}
use Rattle.vax_quick.specs.declared.window.Window.{Window}

-- the bytes that were seen are those from PC on
pub record IsSeen (view : View) (core : Core) (window : Window) : Type 0 where
  pub small : slice_index core.regs 15 < 2 ^ 32
  pub long : 15 < length core.regs
  pub seen : loaded view (slice_index core.regs 15) window.left (mode_of core.psl) ≡ Ok window.bytes
  pub bytes : AreBytes view.byte

-- the eight bytes from an opcode on
abbrev pub eight : ℕ → Window
eight bytes = record { bytes = bytes; left = 8 }

-- a computer without its console: the registers, and what a port shows
pub record Computer : Type 0 where
  pub core : Core
  pub view : View

abbrev pub computer : {P : Type 0} → (P → View) → Core → P → Computer
computer view core port = record { core = core; view = view port }

-- registers at a console
abbrev pub at_console : Core → List ℕ → ℕ → Option ℕ → State
at_console core input taken sent = record { core = core; input = input; taken = taken; sent = sent }

-- a tree goes on with this value from where a call ended, whatever the console
abbrev pub GoesOn : {X : Type 0} → (State → (X → State → Accesses Leaf) → Accesses Leaf) → X → Computer → Computer → Type 0
GoesOn tree x old new = (input : List ℕ) (taken : ℕ) (sent : Option ℕ) (next : _) →
    over_port (tree (at_console old.core input taken sent) next) old.view ≡ over_port (next x (at_console new.core input taken sent)) new.view

-- the same of a call that gives no value
abbrev pub Proceeds : (State → (State → Accesses Leaf) → Accesses Leaf) → Computer → Computer → Type 0
Proceeds tree old new = (input : List ℕ) (taken : ℕ) (sent : Option ℕ) (next : _) →
    over_port (tree (at_console old.core input taken sent) next) old.view ≡ over_port (next (at_console new.core input taken sent)) new.view

-- a change of registers alone, whatever the console
abbrev pub Becomes : (State → State) → Core → Core → Type 0
Becomes change old new = (input : List ℕ) (taken : ℕ) (sent : Option ℕ) → at_console new input taken sent ≡ change (at_console old input taken sent)

-- a value of registers alone, whatever the console
abbrev pub IsValueOf : {X : Type 0} → (State → X) → X → Core → Type 0
IsValueOf value x core = (input : List ℕ) (taken : ℕ) (sent : Option ℕ) → x ≡ value (at_console core input taken sent)

-- a call that gives a value, with the bytes that are left behind it, makes the accesses of a tree; one that gives none says nothing
abbrev pub Gives : {X : Type 0} → (State → (X → State → Accesses Leaf) → Accesses Leaf) → Option (X × Window) → Computer → Computer → Type 0
Gives tree None old new = Unit {0}
Gives tree (Some found) old new = GoesOn tree found.0 old new

-- the same of a call that writes at most once, and last: where it gives nothing, the port shows what it showed
abbrev pub Acts : (State → (State → Accesses Leaf) → Accesses Leaf) → Option (Unit {0}) → Computer → Computer → Type 0
Acts tree None old new = new.view ≡ old.view
Acts tree (Some done) old new = Proceeds tree old new

-- what an instruction does: its accesses, and what follows
abbrev pub Tree : Type 0
Tree = State → (Flow → State → Accesses Leaf) → Accesses Leaf

-- the same of an instruction, which is done
abbrev pub Makes : Tree → Option (Unit {0}) → Computer → Computer → Type 0
Makes tree None old new = new.view ≡ old.view
Makes tree (Some done) old new = GoesOn tree flow.Done old new

-- an instruction is done, or all is as it was
abbrev pub MakesOrStays : Tree → Option (Unit {0}) → Computer → Computer → Type 0
MakesOrStays tree None old new = new ≡ old
MakesOrStays tree (Some done) old new = GoesOn tree flow.Done old new

-- what an opcode stands for, of which PC is past
unfoldable pub made_by : ℕ → Tree
made_by opcode s next = acted_part_if (action_of opcode) s next

-- the registers with another PC
abbrev pub with_pc : Core → ℕ → Core
with_pc core pc = record core { regs = slice_set core.regs 15 pc }

-- PC has moved at most
abbrev pub IsMoved : Core → Core → Type 0
IsMoved old new = (pc : ℕ) × (new ≡ with_pc old pc)

-- A call changes registers at most.
pub record IsKept (old new : Core) : Type 0 where
  pub psl : new.psl ≡ old.psl
  pub timer : new.iccs ≡ old.iccs
  pub requests : new.sisr ≡ old.sisr
  pub clock : new.clock ≡ old.clock

-- A call reads at most: it may change registers, and moves PC.
pub record Reads {P : Type 0} (view : P → View) (along : P → P → Type 0) (old : Core) (before : P) (new : Core) (after : P) : Type 0 where
  pub same : view after ≡ view before
  pub psl : new.psl ≡ old.psl
  pub timer : new.iccs ≡ old.iccs
  pub requests : new.sisr ≡ old.sisr
  pub clock : new.clock ≡ old.clock
  pub since : (start : P) → along start before → along start after

-- A call leaves the clock, the requests for interrupts, and no instruction open.
pub record Leaves {P : Type 0} (along : P → P → Type 0) (old : Core) (before : P) (new : Core) (after : P) : Type 0 where
  pub timer : new.iccs ≡ old.iccs
  pub requests : new.sisr ≡ old.sisr
  pub clock : new.clock ≡ old.clock
  pub closed : first_part_done new.psl ≤ first_part_done old.psl
  pub since : (start : P) → along start before → along start after

-- no trap follows a result with these codes
pub record IsQuiet (by_zero : Bool) (codes : Codes) (psl : Psl) : Type 0 where
  pub zero : by_zero ≡ false
  pub overflow : (codes.v && is_one psl.0 5) ≡ false

-- no interrupt is asked for, and the interval clock is off
pub record IsStill (core : Core) : Type 0 where
  pub none : level core ≡ 0
  pub off : is_one core.iccs 6 ≡ false

-- a step was completed, whatever the console, which is as before
pub record MakesStep (old new : Computer) : Type 0 where
  pub made : (input : List ℕ) (taken : ℕ) (sent : Option ℕ) →
      over_port (part_step (at_console old.core input taken sent)) old.view ≡ Comes (Went flow.Done (at_console new.core input taken sent)) new.view

-- so many steps, one after the other
abbrev pub MakesSteps : ℕ → Computer → Computer → Type 0
MakesSteps zero old new = new ≡ old
MakesSteps (suc count) old new = (mid : Computer) × MakesSteps count old mid × MakesStep mid new

-- What an attempt does, by the flat machine.
use Rattle.std.specs.Prelude.{◌≡◌, ◌≤◌, ℕ, false, IsSome, IfSome, Option, Some, None, List, []}
use Rattle.vax_space.specs.declared.Area.{Area}
use Rattle.vax_space.specs.Reference.{page_of}
use Rattle.vax_flat.specs.Memory.{byte_at}
use Rattle.vax_flat.specs.Inside.{IsMissing}
use Rattle.vax_flat.specs.Port.{View, StandsFor, with_marks}
use Rattle.vax_flat.specs.Outcome.{first_missing, marked_by}
use Rattle.vax_flat.specs.Step.{Flat, step, ended, with_byte_sent}
use Rattle.vax_flat.specs.Parts.{Partway, Place, At, Within, Completes, Leaves, GoesBy, gone_back, machine_at, touches_at, turn, units_after}
use Rattle.vax_flat.specs.declared.Ending.{Ending}
use Rattle.vax_cpu.specs.declared.attempt.Tried.{Tried}
use Rattle.vax_cpu.specs.declared.attempt.Tried.TheVariants as tried
use Rattle.vax_cpu.specs.declared.cpu.Attempt.{Attempt}
use Rattle.vax_cpu.specs.declared.cpu.Attempt.TheVariants.{Step, Part, Absent, Ended}
use Rattle.vax_cpu.specs.declared.cpu.Cpu.{Cpu}
use Rattle.vax_cpu.specs.declared.cpu.Open.{Open}
use Rattle.vax_cpu.specs.Tried.{start_by}
use Rattle.vax_undo.specs.FirstPart.{NothingOpen}

-- the flat machine that is where a processor is, with this memory and this output so far
abbrev pub flat_of : Cpu → List Area → List ℕ → Flat
flat_of cpu memory output = record {
  core = cpu.core;
  memory = memory;
  input = cpu.term.input.items;
  taken = cpu.term.place;
  output = output;
  ending = None;
}

-- the string instruction that is open there
abbrev pub open_at : Place → Option Open
open_at (At m) = None
open_at (Within p) = Some (record { opcode = p.opcode; start = p.start; units = p.units })

-- a processor is at this place
pub record IsAt (cpu : Cpu) (place : Place) : Type 0 where
  pub open_one : cpu.latch ≡ open_at place
  pub machine : flat_of cpu (machine_at place).memory (machine_at place).output ≡ machine_at place

-- exactly the pages are marked anew that the attempt writes, up to the first range that has an absent page
abbrev pub Marks : View → Place → View → Type 0
Marks before place after = after.marked ≡ marked_by before.resident before.marked (touches_at place)

-- the port stands for this memory; the bytes of absent pages stay, and so do the areas and the resident pages
pub record LeavesMemory (before : View) (place : Place) (memory : List Area) (after : View) : Type 0 where
  pub stands : StandsFor after memory
  pub absent : (addr : ℕ) → before.resident (page_of addr) ≡ false → byte_at memory addr ≡ byte_at (machine_at place).memory addr
  pub resident : after.resident ≡ before.resident
  pub areas : after.areas ≡ before.areas
  pub marks : Marks before place after

-- The step was completed, and the processor is where it leaves the flat machine: it is the step of whatever machine's step goes by this place.
pub record IsStep (before : View) (place : Place) (sent : Option ℕ) (cpu : Cpu) (after : View) : Type 0 where
  pub memory : List Area
  pub turn : turn place ≡ Completes (flat_of cpu memory (with_byte_sent (machine_at place).output sent))
  pub step : (m : Flat) → m.ending ≡ None → GoesBy m place → step m ≡ flat_of cpu memory (with_byte_sent (machine_at place).output sent)
  pub leaves : LeavesMemory before place memory after

-- a part was completed, and the processor is where that leaves the flat machine
pub record IsPart (before : View) (place : Place) (cpu : Cpu) (after : View) : Type 0 where
  pub next : Partway
  pub turn : turn place ≡ Leaves next
  pub by : (m : Flat) → GoesBy m place → GoesBy m (Within next)
  pub at : IsAt cpu (Within next)
  pub leaves : LeavesMemory before place next.now.memory after

-- the step ends the run
pub record IsEnd (before : View) (place : Place) (e : Ending) (after : View) : Type 0 where
  pub turn : turn place ≡ Completes (ended (gone_back place) e)
  pub step : (m : Flat) → m.ending ≡ None → GoesBy m place → step m ≡ ended (gone_back place) e
  pub marks : Marks before place after

-- by the first page of the attempt's touches that isn't resident, and by what the attempt comes to
abbrev pub Attempted : View → Place → Attempt → Cpu → View → Type 0
Attempted before place (Step sent) cpu after = (first_missing before.resident (touches_at place) ≡ None) × IsStep before place sent cpu after
Attempted before place Part cpu after = (first_missing before.resident (touches_at place) ≡ None) × IsPart before place cpu after
Attempted before place (Absent page) cpu after = (first_missing before.resident (touches_at place) ≡ Some page) × Marks before place after
Attempted before place (Ended e) cpu after = (first_missing before.resident (touches_at place) ≡ None) × IsEnd before place e after

-- Where a page is absent, registers, console, the open instruction and every byte are as before; where the run ends, so are all of them, but the
-- registers are those at the instruction's start, and none is open. Pages to which the attempt had written are marked.
abbrev pub IsAsBefore : Attempt → Cpu → View → Cpu → View → Type 0
IsAsBefore (Step sent) old before new after = Unit {0}
IsAsBefore Part old before new after = Unit {0}
IsAsBefore (Absent page) old before new after = (flat_of new [] [] ≡ flat_of old [] []) × (after ≡ with_marks before after.marked)
IsAsBefore (Ended e) old before new after =
    (flat_of new [] [] ≡ record (flat_of old [] []) { core = start_by old.latch old.core }) × (after ≡ with_marks before after.marked)

-- the interval clock counts completed steps up to 999, now and at the start of the string instruction that is open
abbrev pub KeepsTime : Cpu → Type 0
KeepsTime cpu = (cpu.core.clock ≤ 999) × IfSome cpu.latch (λ latched. latched.start.clock ≤ 999)

-- first part done is clear where no instruction is open, and in the registers at the start of the string instruction that is open
abbrev pub StartsClosed : Cpu → Type 0
StartsClosed cpu = NothingOpen (start_by cpu.latch cpu.core).psl

-- the string instruction that is open afterwards
abbrev pub IsOpenAfter : Attempt → Option Open → Option Open → Type 0
IsOpenAfter (Step sent) old new = new ≡ None
IsOpenAfter Part old new = IsSome new
IsOpenAfter (Absent page) old new = new ≡ old
IsOpenAfter (Ended e) old new = new ≡ None

-- a page for which an attempt stops is one of an area, and absent
abbrev pub StopsInside : Attempt → View → Type 0
StopsInside (Step sent) before = Unit {0}
StopsInside Part before = Unit {0}
StopsInside (Absent page) before = IsMissing before page
StopsInside (Ended e) before = Unit {0}

-- what is answered of an instruction with the delivery of its exception, which raises no other
abbrev pub answer_of : Tried → Option Attempt
answer_of (tried.Step sent) = Some (Step sent)
answer_of (tried.Part part) = Some Part
answer_of (tried.Absent page) = Some (Absent page)
answer_of (tried.Ended e) = Some (Ended e)
answer_of (tried.Event e) = None

-- a part more of the instruction that is open, or the first part of one
abbrev pub units_by : Option Open → ℕ
units_by None = 0
units_by (Some latched) = latched.units

abbrev pub opened : Option Open → Open → Open
opened latch part = record { opcode = part.opcode; start = start_by latch part.start; units = units_after (units_by latch) part.units }

-- the string instruction that is open after an attempt
abbrev pub open_after : Option Open → Tried → Option Open
open_after latch (tried.Step sent) = None
open_after latch (tried.Part part) = Some (opened latch part)
open_after latch (tried.Absent page) = latch
open_after latch (tried.Ended e) = None
open_after latch (tried.Event e) = None

-- What a transaction means, and how its log is undone.
use Rattle.std.specs.Prelude.{◌≡◌, ℕ, ◌+◌, ◌-◌, ◌^◌, ◌<◌, ◌≤◌, Bool, true, nat_lt, if◌then◌else◌, Option, Some, None, Result, Ok, Err, List, [], ◌∷◌, length, slice_set, vec_len}
use Rattle.vax_word.specs.declared.Core.{Core}
use Rattle.vax_undo.specs.FirstPart.{first_part_done}
use Rattle.vax_undo.specs.Blocks.{low_bytes}
use Rattle.vax_undo.specs.Trail.{Trail, Traced, FollowsTraced, PerformsTraced, noted, writing, over_trail, lands_on}
use Rattle.vax_space.specs.declared.Access.TheVariants.{Write}
use Rattle.vax_space.specs.declared.Area.{Area}
use Rattle.vax_space.specs.Reference.{violation}
use Rattle.vax_flat.specs.declared.Cut.{Cut}
use Rattle.vax_flat.specs.declared.Flow.{Flow}
use Rattle.vax_flat.specs.declared.Flow.TheVariants as flow
use Rattle.vax_flat.specs.State.{State, with_register, with_psl, with_stack, with_requests, with_timer, with_clock, with_taken, with_sent, next_input}
use Rattle.vax_flat.specs.Port.{View, first_absent, is_in, unmarked, with_number_back}
use Rattle.vax_flat.specs.Accesses.{Accesses, Leaf}
use Rattle.vax_flat.specs.OverPort.{Present}
use Rattle.vax_undo.specs.declared.entry.Entry.{Entry}
use Rattle.vax_undo.specs.declared.entry.Kept.{Kept}
use Rattle.vax_undo.specs.declared.entry.Kept.TheVariants.{Register, Stack, Requests, Timer, Taken, Sent, Bytes}
use Rattle.vax_undo.specs.declared.term.Term.{Term}
use Rattle.vax_undo.specs.declared.txn.CutShort.{CutShort}
use Rattle.vax_undo.specs.declared.txn.Origin.{Origin}
use Rattle.vax_undo.specs.declared.txn.Txn.{Txn as Transaction}

-- registers and console as an instruction sees them
abbrev pub state_of : Core → Term → State
state_of core term = record { core = core; input = term.input.items; taken = term.place; sent = term.out }

-- these over a port
abbrev pub seen : {P : Type 0} → (P → View) → Core → Term → P → Present
seen view core term port = record { state = state_of core term; view = view port }

abbrev pub with_state : Present → State → Present
with_state p s = record { state = s; view = p.view }

abbrev pub with_view : Present → View → Present
with_view p v = record { state = p.state; view = v }

-- what counts where the marks don't: a page stays marked once it was written to, also where the write is undone
abbrev pub bare : Present → Present
bare p = with_view p (unmarked p.view)

-- the next byte of the console's input, and the state once it is taken
abbrev pub next_byte : State → Option ℕ
next_byte s = next_input s

abbrev pub if_some : {A B : Type 0} → Option A → B → B → B
if_some None x y = x
if_some (Some a) x y = y

abbrev pub after_take : State → State
after_take s = if_some (next_byte s) s (with_taken s (s.taken + 1))

-- what was sent to the console, from a number that is 256 where nothing was
abbrev pub sent_of : ℕ → Option ℕ
sent_of number = if nat_lt number 256 then Some number else None

-- the old value of an entry is put back
abbrev pub put_back : Kept → Entry → Present → Present
put_back Register e p = with_state p (with_register p.state e.number e.old)
put_back Stack e p = with_state p (with_stack p.state e.number e.old)
put_back Requests e p = with_state p (with_requests p.state e.old)
put_back Timer e p = with_state p (with_timer p.state e.old)
put_back Taken e p = with_state p (with_taken p.state e.old)
put_back Sent e p = with_state p (with_sent p.state (sent_of e.old))
put_back Bytes e p = with_view p (with_number_back p.view e.addr e.number e.old)

abbrev pub undo : Entry → Present → Present
undo e p = put_back e.kept e p

-- the registers with the old value of an entry, where it is one of theirs
abbrev pub restored_by : Kept → Entry → Core → Core
restored_by Register e core = record core { regs = slice_set core.regs e.number e.old }
restored_by Stack e core = record core { stacks = slice_set core.stacks e.number e.old }
restored_by Requests e core = record core { sisr = e.old }
restored_by Timer e core = record core { iccs = e.old }
restored_by Taken e core = core
restored_by Sent e core = core
restored_by Bytes e core = core

-- what that needs
abbrev pub FitsIn : Kept → Entry → Type 0
FitsIn Register e = (e.number < 16) × (e.old < 2 ^ 32)
FitsIn Stack e = (e.number < 5) × (e.old < 2 ^ 32)
FitsIn Requests e = e.old < 2 ^ 16
FitsIn Timer e = e.old < 2 ^ 8
FitsIn Taken e = Unit {0}
FitsIn Sent e = Unit {0}
FitsIn Bytes e = Unit {0}

-- a log is undone from its last entry backwards
abbrev pub undo_all : List Entry → Present → Present
undo_all [] p = p
undo_all (e ∷ es) p = undo e (undo_all es p)

-- the accesses with the write by which the old value of an entry is put back
abbrev pub trail_back : Kept → Entry → Trail → Trail
trail_back Register e trail = trail
trail_back Stack e trail = trail
trail_back Requests e trail = trail
trail_back Timer e trail = trail
trail_back Taken e trail = trail
trail_back Sent e trail = trail
trail_back Bytes e trail = noted trail (writing e.addr (low_bytes e.number e.old))

-- the accesses with the writes by which a log is undone, from its last entry backwards
abbrev pub trail_undone : List Entry → Trail → Trail
trail_undone [] trail = trail
trail_undone (e ∷ es) trail = trail_back e.kept e (trail_undone es trail)

-- PC, the status longword and the clock's count, which aren't logged, are put back last
abbrev pub restart : Origin → Present → Present
restart origin p = with_state p (with_clock (with_psl (with_register p.state 15 origin.pc) origin.psl) origin.clock)

-- what undoing an entry needs of the console's input, which is so long, of the areas, of the resident pages and of the marked ones: a place is
-- put back where the input has it, and bytes where the mode may write, where the pages are there, and where the write that they undo has
-- marked them
abbrev pub Allows : ℕ → List Area → (ℕ → Bool) → (ℕ → Bool) → Kept → Entry → Type 0
Allows long areas resident marked Register e = (e.number < 16) × (e.old < 2 ^ 32)
Allows long areas resident marked Stack e = (e.number < 5) × (e.old < 2 ^ 32)
Allows long areas resident marked Requests e = e.old < 2 ^ 16
Allows long areas resident marked Timer e = e.old < 2 ^ 8
Allows long areas resident marked Taken e = e.old ≤ long
Allows long areas resident marked Sent e = Unit {0}
Allows long areas resident marked Bytes e =
    (1 ≤ e.number) × (e.number ≤ 8) × (e.mode ≤ 3) × (e.old < 256 ^ e.number)
    × (violation areas e.addr e.number e.mode Write ≡ None) × (first_absent resident e.addr e.number ≡ None)
    × ((page : ℕ) → is_in e.addr e.number page ≡ true → marked page ≡ true)

abbrev pub AllowsAll : ℕ → List Area → (ℕ → Bool) → (ℕ → Bool) → List Entry → Type 0
AllowsAll long areas resident marked [] = Unit {0}
AllowsAll long areas resident marked (e ∷ es) = Allows long areas resident marked e.kept e × AllowsAll long areas resident marked es

module _ {P : Type 0} where
  -- what a transaction works on, as it is now
  abbrev pub present : (P → View) → Transaction P → Present
  present view t = record { state = state_of t.core.now t.term.now; view = view t.port.now }

  -- the same with the accesses that were made
  abbrev pub traced : (P → View) → (P → Trail) → Transaction P → Traced
  traced view trail t = record { state = state_of t.core.now t.term.now; view = view t.port.now; trail = trail t.port.now }

  -- what a call answers, where the transaction says what cut the work short
  abbrev pub told : {X : Type 0} → Transaction P → Result X CutShort → Result X Cut
  told t (Ok x) = Ok x
  told t (Err short) = Err t.why

  -- The call makes the accesses of a tree, and no other. The tree begins at the registers and the console that the call finds.
  abbrev pub Does : {X : Type 0} → (P → View) → (P → Trail) → (State → (X → State → Accesses Leaf) → Accesses Leaf)
      → Result X CutShort → Transaction P → Transaction P → Type 0
  Does view trail tree result old new =
      FollowsTraced (tree (traced view trail old).state) (traced view trail old) (told new result) (traced view trail new)

  -- the same of a call that gives no value
  abbrev pub Acts : (P → View) → (P → Trail) → (State → (State → Accesses Leaf) → Accesses Leaf)
      → Result (Unit {0}) CutShort → Transaction P → Transaction P → Type 0
  Acts view trail tree result old new =
      PerformsTraced (tree (traced view trail old).state) (traced view trail old) (told new result) (traced view trail new)

  -- the same of a call whose answer is told to what follows in some way of its own
  abbrev pub Passes : {X N : Type 0} → (P → View) → (P → Trail) → (State → N → Accesses Leaf) → (N → X → State → Accesses Leaf)
      → Result X CutShort → Transaction P → Transaction P → Type 0
  Passes view trail tree tell result old new =
      (next : _) → over_trail (tree (traced view trail old).state next) (traced view trail old).view (traced view trail old).trail
      ≡ lands_on (told new result) (traced view trail new).view.marked (traced view trail new).trail
      (λ x. over_trail (tell next x (traced view trail new).state) (traced view trail new).view (traced view trail new).trail)

  -- The call changes the registers and the console in this way, and nothing of what the port shows; it makes no access.
  abbrev pub Updates : (P → View) → (P → Trail) → (State → State) → Transaction P → Transaction P → Type 0
  Updates view trail change old new =
      traced view trail new
      ≡ record { state = change (traced view trail old).state; view = (traced view trail old).view; trail = (traced view trail old).trail }

  -- what comes out when the log is undone, but for the marks
  abbrev pub undone : (P → View) → Transaction P → Present
  undone view t = restart t.origin (undo_all t.log.now.entries.items (bare (present view t)))

  -- how many more entries the log takes
  abbrev pub room : Transaction P → ℕ
  room t = 96 - length t.log.now.entries.items

  -- the log can be undone
  abbrev pub IsReady : (P → View) → Transaction P → Type 0
  IsReady view t = AllowsAll (vec_len t.term.now.input) (view t.port.now).areas (view t.port.now).resident (view t.port.now).marked t.log.now.entries.items

  -- the transaction is over the same registers, console and port, the console's input is as it was, and the interval clock has counted fewer
  -- than a thousand steps
  pub record IsSame (along : P → P → Type 0) (old new : Transaction P) : Type 0 where
    pub core : new.core.ghost_name ≡ old.core.ghost_name
    pub term : new.term.ghost_name ≡ old.term.ghost_name
    pub port : new.port.ghost_name ≡ old.port.ghost_name
    pub input : new.term.now.input ≡ old.term.now.input
    pub clock : old.core.now.clock ≤ 999 → new.core.now.clock ≤ 999
    pub since : (start : P) → along start old.port.now → along start new.port.now

  -- A call leaves the transaction so that undoing its log gives what it gave before, and used at most so many entries. It leaves no instruction
  -- open.
  pub record Keeps (view : P → View) (along : P → P → Type 0) (count : ℕ) (old new : Transaction P) : Type 0 where
    pub undone : restart new.origin (undo_all new.log.now.entries.items (bare (present view new))) ≡ restart old.origin (undo_all old.log.now.entries.items (bare (present view old)))
    pub ready : IsReady view old → IsReady view new
    pub room : room old ≤ room new + count
    pub closed : first_part_done new.core.now.psl ≤ first_part_done old.core.now.psl
    pub same : IsSame along old new

  -- A call used at most so many entries; its log need not undo what it did. It leaves no instruction open.
  pub record IsLeft (along : P → P → Type 0) (count : ℕ) (old new : Transaction P) : Type 0 where
    pub room : room old ≤ room new + count
    pub closed : first_part_done new.core.now.psl ≤ first_part_done old.core.now.psl
    pub same : IsSame along old new

  -- A call used at most so many entries; its log still tells registers and console as they were, and need not undo the bytes.
  pub record IsLeftOpen (view : P → View) (along : P → P → Type 0) (count : ℕ) (old new : Transaction P) : Type 0 where
    pub state : (undone view new).state ≡ (undone view old).state
    pub ready : IsReady view old → IsReady view new
    pub room : room old ≤ room new + count
    pub same : IsSame along old new

  -- An instruction that was completed may have written last of all what the log doesn't undo, and so may a part of a string
  -- instruction, of which the log still tells the registers at the start; any other can be undone.
  abbrev pub KeepsUnlessDone : (P → View) → (P → P → Type 0) → ℕ → Result Flow CutShort → Transaction P → Transaction P → Type 0
  KeepsUnlessDone view along count (Ok flow.Done) old new = IsLeft along count old new
  KeepsUnlessDone view along count (Ok flow.Clocked) old new = Keeps view along count old new
  KeepsUnlessDone view along count (Ok (flow.Trap trap)) old new = Keeps view along count old new
  KeepsUnlessDone view along count (Ok (flow.More opcode units)) old new = IsLeftOpen view along count old new
  KeepsUnlessDone view along count (Ok (flow.Ended e)) old new = Keeps view along count old new
  KeepsUnlessDone view along count (Err e) old new = Keeps view along count old new

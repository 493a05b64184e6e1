-- Procedure calls, and registers saved on the stack (VAX Architecture Reference Manual, procedure call instructions; PUSHR, POPR).
-- A frame is one list of longwords, the first of which ends highest. FP has the address of its last.
use Rattle.std.specs.Prelude.{ℕ, zero, suc, ◌+◌, ◌-◌, ◌*◌, ◌/◌, ◌%◌, ◌^◌, Bool, true, false, ◌==◌, ◌&&◌, if◌then◌else◌, List, [], ◌∷◌, ◌++◌, length, map, reverse}
use Rattle.std.specs.Int.{from_bool}
use Rattle.std.specs.List.{filter, range_with_len}
use Rattle.vax_word.specs.declared.Psl.{Psl}
use Rattle.vax_word.specs.Status.{is_one, field}
use Rattle.vax_isa.specs.declared.actions.Call.{Call}
use Rattle.vax_isa.specs.declared.actions.Call.TheVariants as call
use Rattle.vax_flat.specs.declared.Exception.TheVariants as exception
use Rattle.vax_flat.specs.declared.Flow.{Flow}
use Rattle.vax_flat.specs.declared.Flow.TheVariants.{Done}
use Rattle.vax_flat.specs.State.{State, register, with_register, with_psl}
use Rattle.vax_flat.specs.Accesses.{Accesses, Raises, Leaf}
use Rattle.vax_flat.specs.Operand.{plus, read_at, write_at}
use Rattle.vax_flat.specs.Rows.{read_value, address_value}

-- a longword is pushed just below an address; what comes next is given its address
unfoldable pub pushed_one : ℕ → ℕ → State → (ℕ → State → Accesses Leaf) → Accesses Leaf
pushed_one x top s next = write_at (plus top (2 ^ 32 - 4)) 4 x s (λ s. next (plus top (2 ^ 32 - 4)) s)

-- longwords are pushed one after the other, the first just below an address; what comes next is given the address of the last
unfoldable pub pushed_below : List ℕ → ℕ → State → (ℕ → State → Accesses Leaf) → Accesses Leaf
pushed_below [] top s next = next top s
pushed_below (x ∷ xs) top s next = pushed_one x top s (λ top s. pushed_below xs top s next)

-- so many longwords are popped, the first at an address; what comes next is given them and the address behind the last
unfoldable pub popped_from : ℕ → ℕ → State → (List ℕ → ℕ → State → Accesses Leaf) → Accesses Leaf
popped_from zero addr s next = next [] addr s
popped_from (suc count) addr s next =
    read_at addr 4 s (λ x s. popped_from count (plus addr 4) s (λ xs behind s. next (x ∷ xs) behind s))

-- the registers below a number that a mask names, from R0 up
unfoldable pub named : ℕ → ℕ → List ℕ
named count mask = filter (is_one mask) (range_with_len 0 count)

-- registers get values, one after the other
abbrev pub with_registers : List ℕ → List ℕ → State → State
with_registers [] values s = s
with_registers (n ∷ ns) [] s = s
with_registers (n ∷ ns) (value ∷ values) s = with_registers ns values (with_register s n value)

-- registers are pushed from the last to the first
unfoldable pub saved : List ℕ → ℕ → State → (ℕ → State → Accesses Leaf) → Accesses Leaf
saved ns top s next = pushed_below (map (register s) (reverse ns)) top s next

-- registers are popped from the first to the last
unfoldable pub restored : List ℕ → ℕ → State → (ℕ → State → Accesses Leaf) → Accesses Leaf
restored ns addr s next = popped_from (length ns) addr s (λ values behind s. next behind (with_registers ns values s))

-- PUSHR: SP is pushed with its value before
unfoldable pub registers_pushed : ℕ → State → (Flow → State → Accesses Leaf) → Accesses Leaf
registers_pushed mask s next =
    saved (named 15 mask) (register s 14) s (λ top s. next Done (with_register s 14 top))

unfoldable pub push_registers : State → (Flow → State → Accesses Leaf) → Accesses Leaf
push_registers s next = read_value 2 s (λ mask s. registers_pushed mask s next)

-- POPR: SP is the one that was popped, if one was
abbrev pub with_top : ℕ → ℕ → State → State
with_top mask top s = if is_one mask 14 then s else with_register s 14 top

unfoldable pub registers_popped : ℕ → State → (Flow → State → Accesses Leaf) → Accesses Leaf
registers_popped mask s next =
    restored (named 15 mask) (register s 14) s (λ top s. next Done (with_top mask top s))

unfoldable pub pop_registers : State → (Flow → State → Accesses Leaf) → Accesses Leaf
pop_registers s next = read_value 2 s (λ mask s. registers_popped mask s next)

-- the registers of a frame, from the lowest longword up: AP, FP, PC, and those that the entry mask names
abbrev pub linked : ℕ → List ℕ
linked mask = 12 ∷ 13 ∷ 15 ∷ named 12 mask

-- the longword of a frame that says how it was made: how far SP was above a multiple of 4, whether the arguments are on the stack, the entry
-- mask, and the processor status word without trace and condition codes
unfoldable pub frame_word : ℕ → Bool → ℕ → Psl → ℕ
frame_word offset on_stack mask psl =
    2 ^ 30 * offset + 2 ^ 29 * from_bool on_stack + 2 ^ 16 * (mask % 2 ^ 12) + 2 ^ 5 * field psl.0 5 11

-- a frame: its registers, the longword that says how it was made, and a longword for a condition handler
unfoldable pub frame : ℕ → ℕ → State → List ℕ
frame mask word s = map (register s) (reverse (linked mask)) ++ (word ∷ 0 ∷ [])

-- a procedure's status: bits 15:14 of its entry mask enable decimal and integer overflow, and floating underflow and the codes are 0
unfoldable pub entry_status : ℕ → Psl → Psl
entry_status mask psl = record {
  0 = 2 ^ 8 * field psl.0 8 24 + 2 ^ 7 * field mask 15 1 + 2 ^ 5 * field mask 14 1 + 2 ^ 4 * field psl.0 4 1;
}

-- control is at a procedure, behind its entry mask
unfoldable pub at_procedure : ℕ → ℕ → ℕ → ℕ → State → State
at_procedure procedure mask arguments bottom s =
    with_psl
    (with_register (with_register (with_register (with_register s 12 arguments) 13 bottom) 14 bottom) 15 (plus procedure 2))
    (entry_status mask s.core.psl)

-- a frame is pushed below the multiple of 4 at or below an address, and the procedure is entered
unfoldable pub entered : ℕ → ℕ → ℕ → ℕ → Bool → State → (Flow → State → Accesses Leaf) → Accesses Leaf
entered procedure mask arguments top on_stack s next =
    pushed_below (frame mask (frame_word (top % 4) on_stack mask s.core.psl) s) (top / 4 * 4) s (λ bottom s.
    next Done (at_procedure procedure mask arguments bottom s))

-- a procedure's entry mask, of which bits 13:12 are 0
unfoldable pub entry_mask : ℕ → State → (ℕ → State → Accesses Leaf) → Accesses Leaf
entry_mask procedure s next =
    read_at procedure 2 s (λ mask s. if field mask 12 2 == 0 then next mask s else Raises exception.Operand)

-- CALLG
unfoldable pub called_with_list : ℕ → ℕ → State → (Flow → State → Accesses Leaf) → Accesses Leaf
called_with_list arguments procedure s next =
    entry_mask procedure s (λ mask s. entered procedure mask arguments (register s 14) false s next)

unfoldable pub call_with_list : State → (Flow → State → Accesses Leaf) → Accesses Leaf
call_with_list s next =
    address_value 1 s (λ arguments s. address_value 1 s (λ procedure s. called_with_list arguments procedure s next))

-- CALLS: the number of arguments is pushed first, and AP points to it
unfoldable pub called_with_stack : ℕ → ℕ → State → (Flow → State → Accesses Leaf) → Accesses Leaf
called_with_stack count procedure s next =
    entry_mask procedure s (λ mask s.
    pushed_one count (register s 14) s (λ arguments s.
    entered procedure mask arguments arguments true s next))

unfoldable pub call_with_stack : State → (Flow → State → Accesses Leaf) → Accesses Leaf
call_with_stack s next =
    read_value 4 s (λ count s. address_value 1 s (λ procedure s. called_with_stack count procedure s next))

-- bits 15:8 and 4 of the status that a frame gives back are 0
unfoldable pub is_status : ℕ → Bool
is_status word = (field word 8 8 == 0) && (field word 4 1 == 0)

unfoldable pub return_status : ℕ → Psl → Psl
return_status word psl = record { 0 = 2 ^ 16 * field psl.0 16 16 + word % 2 ^ 16 }

-- the address behind arguments on the stack, of which the low byte of the longword there is the number
unfoldable pub behind_arguments : Bool → ℕ → State → (ℕ → State → Accesses Leaf) → Accesses Leaf
behind_arguments on_stack top s next =
    if on_stack then read_at top 4 s (λ count s. next (plus top (4 + 4 * (count % 2 ^ 8))) s) else next top s

-- a frame whose longword was read is popped, and the arguments behind it
unfoldable pub unwound : ℕ → State → (Flow → State → Accesses Leaf) → Accesses Leaf
unwound word s next =
    restored (linked (field word 16 12)) (plus (register s 13) 8) s (λ behind s.
    behind_arguments (is_one word 29) (plus behind (field word 30 2)) s (λ top s.
    next Done (with_psl (with_register s 14 top) (return_status word s.core.psl))))

-- RET
unfoldable pub return_from : State → (Flow → State → Accesses Leaf) → Accesses Leaf
return_from s next =
    read_at (plus (register s 13) 4) 4 s (λ word s. if is_status word then unwound word s next else Raises exception.Operand)

-- by the instruction
unfoldable pub performed : Call → State → (Flow → State → Accesses Leaf) → Accesses Leaf
performed call.WithList s next = call_with_list s next
performed call.WithStack s next = call_with_stack s next
performed call.Return s next = return_from s next
performed call.PushRegisters s next = push_registers s next
performed call.PopRegisters s next = pop_registers s next

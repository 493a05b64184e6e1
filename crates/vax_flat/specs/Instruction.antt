-- The instruction at PC, by the action that the table gives its opcode (VAX Architecture Reference Manual, instruction descriptions).
use Rattle.std.specs.Prelude.{Bool, false, Option, Some, None}
use Rattle.vax_isa.specs.declared.actions.Action.{Action}
use Rattle.vax_isa.specs.declared.actions.Action.TheVariants as action
use Rattle.vax_isa.specs.Rows.{action_of}
use Rattle.vax_flat.specs.declared.Exception.TheVariants.{Privileged}
use Rattle.vax_flat.specs.declared.Flow.{Flow}
use Rattle.vax_flat.specs.State.{State}
use Rattle.vax_flat.specs.Accesses.{Accesses, Raises, Leaf}
use Rattle.vax_flat.specs.Operand.{fetched}
use Rattle.vax_flat.specs.Integer.{performed as integer}
use Rattle.vax_flat.specs.Control.{performed as control}
use Rattle.vax_flat.specs.Field.{performed as field}
use Rattle.vax_flat.specs.Call.{performed as call}
use Rattle.vax_flat.specs.Queue.{performed as queue}
use Rattle.vax_flat.specs.System.{is_for_kernel, performed as system}
use Rattle.vax_flat.specs.StringParts.{text_part, text_whole}

unfoldable pub acted : Action → State → (Flow → State → Accesses Leaf) → Accesses Leaf
acted (action.Integer i) s next = integer i s next
acted (action.Control c) s next = control c s next
acted (action.Field f) s next = field f s next
acted (action.Call c) s next = call c s next
acted (action.Queue q) s next = queue q s next
acted (action.System i) s next = system i s next
acted (action.Text t) s next = text_whole t s next

-- the first part of it: of a string instruction, which may be made in parts, so many of its units; of any other all
unfoldable pub acted_part : Action → State → (Flow → State → Accesses Leaf) → Accesses Leaf
acted_part (action.Integer i) s next = integer i s next
acted_part (action.Control c) s next = control c s next
acted_part (action.Field f) s next = field f s next
acted_part (action.Call c) s next = call c s next
acted_part (action.Queue q) s next = queue q s next
acted_part (action.System i) s next = system i s next
acted_part (action.Text t) s next = text_part t s next

-- the instructions for kernel mode alone
abbrev pub is_privileged : Action → Bool
is_privileged (action.Integer i) = false
is_privileged (action.Control c) = false
is_privileged (action.Field f) = false
is_privileged (action.Call c) = false
is_privileged (action.Queue q) = false
is_privileged (action.System i) = is_for_kernel i
is_privileged (action.Text t) = false

-- an opcode that the table hasn't is reserved
unfoldable pub acted_if : Option Action → State → (Flow → State → Accesses Leaf) → Accesses Leaf
acted_if (Some a) s next = acted a s next
acted_if None s next = Raises Privileged

unfoldable pub acted_part_if : Option Action → State → (Flow → State → Accesses Leaf) → Accesses Leaf
acted_part_if (Some a) s next = acted_part a s next
acted_part_if None s next = Raises Privileged

unfoldable pub instruction : State → (Flow → State → Accesses Leaf) → Accesses Leaf
instruction s next = fetched 1 s (λ opcode s. acted_if (action_of opcode) s next)

-- its first part
unfoldable pub first_part : State → (Flow → State → Accesses Leaf) → Accesses Leaf
first_part s next = fetched 1 s (λ opcode s. acted_part_if (action_of opcode) s next)

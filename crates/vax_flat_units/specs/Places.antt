-- How many units the string instruction at PC has, and how many are left at a place within a step.
use Rattle.std.specs.Prelude.{◌≡◌, ◌≤◌, ◌+◌, ◌||◌, ℕ, Bool, nat_lt, if◌then◌else◌, Option, Some, None, List}
use Rattle.vax_space.specs.declared.Area.{Area}
use Rattle.vax_isa.specs.declared.actions.Action.{Action}
use Rattle.vax_isa.specs.declared.actions.Action.TheVariants as action
use Rattle.vax_isa.specs.declared.actions.Text.{Text}
use Rattle.vax_isa.specs.declared.actions.Text.TheVariants as text
use Rattle.vax_isa.specs.Rows.{action_of}
use Rattle.vax_strpart.specs.declared.packing.Progress.{Progress}
use Rattle.vax_strpart.specs.Packing.{unpacked}
use Rattle.vax_flat.specs.declared.Flow.TheVariants as flow
use Rattle.vax_flat.specs.State.{State, mode, priority}
use Rattle.vax_flat.specs.Accesses.{Accesses, Leaf, Went, Found}
use Rattle.vax_flat.specs.Operand.{fetched}
use Rattle.vax_flat.specs.Outcome.{Outcome, Ends, Raised, outcome_of}
use Rattle.vax_flat.specs.Parts.{Partway, Place, At, Within, units_done}
use Rattle.vax_flat.specs.Step.{Flat, leaf, level, state_of}
use Rattle.vax_flat.specs.String.{low_registers}
use Rattle.vax_flat.specs.StringOperands.{search_operands, scan_operands, equal_operands, filled_operands, translated_operands, match_operands}
use Rattle.vax_flat_units.specs.Violations.{is_reserved_by, is_violated_by, units_reached}

-- the operands of a string instruction, whose opcode PC is past
unfoldable pub text_operands : Text → State → (Progress → State → Accesses Leaf) → Accesses Leaf
text_operands text.Move s next = equal_operands 0x28 s next
text_operands text.MoveFilled s next = filled_operands 0x2C s next
text_operands text.MoveTranslated s next = translated_operands 0x2E s next
text_operands text.MoveTranslatedUntil s next = translated_operands 0x2F s next
text_operands text.Compare s next = equal_operands 0x29 s next
text_operands text.CompareFilled s next = filled_operands 0x2D s next
text_operands text.Locate s next = search_operands 0x3A s next
text_operands text.Skip s next = search_operands 0x3B s next
text_operands text.Scan s next = scan_operands 0x2A s next
text_operands text.Span s next = scan_operands 0x2B s next
text_operands text.Match s next = match_operands 0x39 s next

-- how many units it has, which is none where it raises a reserved operand or where its checks raise a violation
abbrev pub units_at_start : Progress → ℕ → List Area → ℕ
units_at_start p mode memory =
    if is_reserved_by p.op p || is_violated_by p.op p mode memory then 0 else units_reached p.op p mode memory

-- once its operands are read, that is told
abbrev pub tells : List Area → Progress → State → Accesses Leaf
tells memory p s = leaf (flow.More p.op (units_at_start p (mode s) memory)) s

-- no other instruction has units
abbrev pub tells_if : Option Action → List Area → State → Accesses Leaf
tells_if (Some (action.Integer i)) memory s = leaf flow.Done s
tells_if (Some (action.Control c)) memory s = leaf flow.Done s
tells_if (Some (action.Field f)) memory s = leaf flow.Done s
tells_if (Some (action.Call c)) memory s = leaf flow.Done s
tells_if (Some (action.Queue q)) memory s = leaf flow.Done s
tells_if (Some (action.System i)) memory s = leaf flow.Done s
tells_if (Some (action.Text t)) memory s = text_operands t s (tells memory)
tells_if None memory s = leaf flow.Done s

abbrev pub told : Outcome Leaf → ℕ
told (Ends (Went flow.Done s) memory) = 0
told (Ends (Went flow.Clocked s) memory) = 0
told (Ends (Went (flow.Trap kind) s) memory) = 0
told (Ends (Went (flow.More opcode units) s) memory) = units
told (Ends (Went (flow.Ended e) s) memory) = 0
told (Ends (Found operand s) memory) = 0
told (Raised e) = 0

-- How many units the instruction at PC has: of a string instruction whose operands can be read, as many as are left with nothing done. They end
-- with the first that violates in the current access mode.
unfoldable pub instruction_units : Flat → ℕ
instruction_units m = told (outcome_of (fetched 1 (state_of m) (λ opcode s. tells_if (action_of opcode) m.memory s)) m.memory)

-- an interrupt is taken before the instruction at PC
abbrev pub is_interrupted : Flat → Bool
is_interrupted m = nat_lt (priority (state_of m)) (level m.core)

-- How many units a step has: those of its instruction, and none where it takes an interrupt.
unfoldable pub units_of : Flat → ℕ
units_of m = if is_interrupted m then 0 else instruction_units m

-- how many are left between two parts, by the registers
abbrev pub units_within : ℕ → State → List Area → ℕ
units_within opcode s memory = units_reached opcode (unpacked opcode (low_registers s)) (mode s) memory

-- how many are left where an attempt begins
abbrev pub units_from : Place → ℕ
units_from (At m) = units_of m
units_from (Within p) = units_within p.opcode (state_of p.now) p.now.memory

-- a turn made so many units, one or more: so many more are done, and so many fewer are left, one or more
pub record AreMade (place : Place) (next : Partway) : Type 0 where
  pub made : ℕ
  pub some : 1 ≤ made
  pub done : next.units ≡ units_done place + made
  pub left : units_from place ≡ made + units_from (Within next)
  pub rest : 1 ≤ units_from (Within next)

-- The operands that an action takes are those that its instruction lists: its tree goes from one to the next, and then does its own part.
use Rattle.std.proofs.Common.{◌≡◌, ℕ, ◌%◌, false, List, [], ◌∷◌, refl, arith}
use Rattle.std.specs.Prelude.{◌==◌, Bool, true, max, if◌then◌else◌, slice_index_or}
use Rattle.std.specs.Int.Bits.{bit_and}
use Rattle.vax_space.specs.declared.Area.{Area}
use Rattle.vax_word.specs.declared.Size.TheVariants.{B, L}
use Rattle.vax_word.specs.Arithmetic.{bytes_of, signed, compared, answer, sum, difference, shifted, extended_product, extended_quotient}
use Rattle.vax_word.specs.Status.{codes_of, prev_of}
use Rattle.vax_isa.specs.declared.actions.Action.{Action}
use Rattle.vax_isa.specs.declared.actions.Action.TheVariants as action
use Rattle.vax_isa.specs.declared.actions.Integer.{Integer}
use Rattle.vax_isa.specs.declared.actions.Integer.TheVariants as integer
use Rattle.vax_isa.specs.declared.actions.Control.{Control}
use Rattle.vax_isa.specs.declared.actions.Control.TheVariants as control
use Rattle.vax_isa.specs.declared.actions.Field.{Field}
use Rattle.vax_isa.specs.declared.actions.Field.TheVariants as field
use Rattle.vax_isa.specs.declared.actions.System.{System}
use Rattle.vax_isa.specs.declared.actions.System.TheVariants as system
use Rattle.vax_isa.specs.declared.actions.Queue.{Queue}
use Rattle.vax_isa.specs.declared.actions.Queue.TheVariants as queue
use Rattle.vax_isa.specs.declared.actions.Call.{Call}
use Rattle.vax_isa.specs.declared.actions.Call.TheVariants as call
use Rattle.vax_isa.specs.declared.actions.Text.{Text}
use Rattle.vax_isa.specs.declared.actions.Text.TheVariants as text
use Rattle.vax_isa.specs.Actions.{size_of, of_integer, of_control, of_field, of_system, of_queue, of_call, of_text, operands_of}
use Rattle.vax_strpart.specs.declared.packing.Progress.{Progress}
use Rattle.vax_isa.specs.Instructions.{Instruction}
use Rattle.vax_isa.specs.Rows.{action_of}
use Rattle.vax_flat.specs.declared.Operand.{Operand}
use Rattle.vax_flat.specs.declared.Operand.TheVariants as operand
use Rattle.vax_flat.specs.declared.Flow.{Flow}
use Rattle.vax_flat.specs.declared.Flow.TheVariants.{Done}
use Rattle.vax_flat.specs.declared.Flow.TheVariants as flow
use Rattle.vax_flat.specs.declared.Ending.TheVariants as ending
use Rattle.vax_flat.specs.declared.Exception.TheVariants.{Privileged, Customer, Breakpoint}
use Rattle.vax_flat.specs.State.{State, with_conditions, mode}
use Rattle.vax_flat.specs.Accesses.{Accesses, Raises, Leaf}
use Rattle.vax_flat.specs.Rows.{read_value, modify_value, write_place, address_value, branch_target, address_in, stored, settled, answered, carry_of}
use Rattle.vax_flat.specs.Integer.{of_one, of_two, is_by_zero, rotated, unary, two, three, by_one, clear, test_value, compare, bit_test, shift, rotate, move_address, pushed_result, push_address, push, extended_multiply, extended_divide, subscript_flow, index_of, index, performed as integer_performed}
use Rattle.vax_flat.specs.Control.{holds, compares, jumped, jumped_if, branch, called, branch_subroutine, jump, jump_subroutine, return_subroutine, low_bit, looped, add_one, subtract_one, within, add_compare, chosen, case_of, performed as control_performed}
use Rattle.vax_flat.specs.Field.{base_place, extracted, extract, compared_field, compare as compare_field, found, find_first, inserted as inserted_field, insert as insert_field, branched_on, branch as branch_on_bit, performed as field_performed}
use Rattle.vax_flat.specs.Delivery.{change_mode}
use Rattle.vax_flat.specs.System.{halt, is_for_kernel, flow_of_delivery, return_exception, change_of_mode, probed, probe, with_moved, set_processor, to_register, get_processor, from_register, move_status, status_set, status_cleared, set_status, clear_status, unless_privileged, performed as system_performed}
use Rattle.vax_flat.specs.Queue.{inserted, insert, removed, remove, aligned_sum, add_aligned, performed as queue_performed}
use Rattle.vax_flat.specs.Call.{called_with_list, call_with_list, called_with_stack, call_with_stack, return_from, registers_pushed, push_registers, registers_popped, pop_registers, performed as call_performed}
use Rattle.vax_flat.specs.Instruction.{acted, acted_if, instruction, is_privileged}
use Rattle.vax_flat.specs.StringOperands.{word, byte_in, longword, next_word, next_byte, next_longword, begun, length_of, search_operands, scan_operands, equal_operands, filled_operands, translated_operands, match_operands}
use Rattle.vax_flat.specs.StringSearch.{search_part, scan_part, whole_search, whole_scan}
use Rattle.vax_flat.specs.StringCompare.{compare_part, whole_compare}
use Rattle.vax_flat.specs.StringMove.{move_start, whole_move}
use Rattle.vax_flat.specs.StringEscape.{escape_start, whole_escape}
use Rattle.vax_flat.specs.StringMatch.{match_part, whole_match}
use Rattle.vax_flat.specs.StringParts.{text_part, text_whole, first_search, first_scan, first_compare, first_compare_filled, first_move, first_move_filled, first_move_translated, first_escape, first_match}
use Rattle.vax_flat.specs.Grammar.{Sequence, IsInstruction}
use Rattle.vax_flat.specs.Evaluation.{past, passed, taken, all_come_to, next_operands, AreAhead, DoSame, Takes}
use Rattle.vax_flat.proofs.Specifiers.{ahead_past, same_first}
use Rattle.vax_flat.proofs.Sequences.{operands_agree}

-- an operand that was taken, by its place in the list
abbrev pub place : ℕ → List (Operand × ℕ) → Operand
place k xs = (slice_index_or xs k (operand.Value 0, 0)).0

-- its value
abbrev pub value : ℕ → List (Operand × ℕ) → ℕ
value k xs = (slice_index_or xs k (operand.Value 0, 0)).1

-- where it is in memory, or where it goes
abbrev pub target : ℕ → List (Operand × ℕ) → ℕ
target k xs = address_in (place k xs)

abbrev pub Rest : Type 0
Rest = List (Operand × ℕ) → State → (Flow → State → Accesses Leaf) → Accesses Leaf

-- what an integer instruction does behind its last operand
unfoldable pub of_integers : Integer → Rest
of_integers (integer.Unary operation from to) xs s next =
    answered (bytes_of to) (place 1 xs) false (of_one operation from to (value 0 xs) (carry_of s)) s next
of_integers (integer.Two operation size) xs s next =
    answered (bytes_of (size_of size)) (place 1 xs) (is_by_zero operation (value 0 xs)) (of_two operation (size_of size) (value 0 xs) (value 1 xs) (carry_of s)) s next
of_integers (integer.Three operation size) xs s next =
    answered (bytes_of (size_of size)) (place 2 xs) (is_by_zero operation (value 0 xs)) (of_two operation (size_of size) (value 0 xs) (value 1 xs) (carry_of s)) s next
of_integers (integer.ByOne operation size) xs s next =
    answered (bytes_of (size_of size)) (place 0 xs) (is_by_zero operation 1) (of_two operation (size_of size) 1 (value 0 xs) (carry_of s)) s next
of_integers (integer.Clear size) xs s next = answered (bytes_of size) (place 0 xs) false (answer size 0 false (carry_of s)) s next
of_integers (integer.Test size) xs s next = settled false (answer (size_of size) (value 0 xs) false false).1 s next
of_integers (integer.Compare size) xs s next = settled false (compared (size_of size) (value 0 xs) (value 1 xs)) s next
of_integers (integer.BitTest size) xs s next =
    settled false (answer (size_of size) (bit_and (value 1 xs) (value 0 xs)) false (carry_of s)).1 s next
of_integers (integer.Shift size) xs s next =
    answered (bytes_of size) (place 2 xs) false (shifted size (signed B (value 0 xs)) (value 1 xs)) s next
of_integers integer.Rotate xs s next = answered 4 (place 2 xs) false (answer L (rotated (value 0 xs) (value 1 xs)) false (carry_of s)) s next
of_integers (integer.MoveAddress size) xs s next = answered 4 (place 1 xs) false (answer L (target 0 xs) false (carry_of s)) s next
of_integers (integer.PushAddress size) xs s next = pushed_result (target 0 xs) s next
of_integers integer.Push xs s next = pushed_result (value 0 xs) s next
of_integers integer.ExtendedMultiply xs s next =
    answered 8 (place 3 xs) false (extended_product (value 0 xs) (value 1 xs) (value 2 xs)) s next
of_integers integer.ExtendedDivide xs s next =
    stored 4 (place 2 xs) (extended_quotient (value 0 xs) (value 1 xs)).0 s (λ s.
    stored 4 (place 3 xs) (extended_quotient (value 0 xs) (value 1 xs)).1 s (λ s.
    settled (value 0 xs == 0) (extended_quotient (value 0 xs) (value 1 xs)).2 s next))
of_integers integer.Index xs s next =
    stored 4 (place 5 xs) (index_of (value 0 xs) (value 3 xs) (value 4 xs)) s (λ s.
    next (subscript_flow (value 0 xs) (value 1 xs) (value 2 xs)) (with_conditions s (answer L (index_of (value 0 xs) (value 3 xs) (value 4 xs)) false false).1))

-- what a control instruction does behind its last operand
unfoldable pub of_controls : Control → Rest
of_controls (control.Branch condition size) xs s next = next Done (jumped_if (holds condition (codes_of s.core.psl)) (target 0 xs) s)
of_controls (control.BranchSubroutine size) xs s next = called (target 0 xs) s next
of_controls control.Jump xs s next = next Done (jumped (target 0 xs) s)
of_controls control.JumpSubroutine xs s next = called (target 0 xs) s next
of_controls control.Return xs s next = return_subroutine s next
of_controls (control.LowBit set) xs s next =
    next Done (jumped_if (if set then value 0 xs % 2 == 1 else value 0 xs % 2 == 0) (target 1 xs) s)
of_controls (control.AddOne r) xs s next =
    looped L (place 1 xs) (sum L (value 1 xs) 1 false) (compares r (sum L (value 1 xs) 1 false).0 (value 0 xs)) (target 2 xs) s next
of_controls (control.SubtractOne r) xs s next =
    looped L (place 0 xs) (difference L (value 0 xs) 1 false) (compares r (difference L (value 0 xs) 1 false).0 0) (target 1 xs) s next
of_controls (control.AddCompare size) xs s next =
    looped (size_of size) (place 2 xs) (sum (size_of size) (value 2 xs) (value 1 xs) false) (within (size_of size) (value 1 xs) (value 0 xs) (sum (size_of size) (value 2 xs) (value 1 xs) false).0) (target 3 xs) s next
of_controls (control.Case size) xs s next = chosen (size_of size) (difference (size_of size) (value 0 xs) (value 1 xs) false).0 (value 2 xs) s next

pub integer_takes : (i : Integer) (s : State) (next : Flow → State → Accesses Leaf) → integer_performed i s next ≡ next_operands (of_integer i) s (λ xs s. of_integers i xs s next)
unfolding integer_performed unary two three by_one clear test_value compare bit_test shift rotate move_address push_address push extended_multiply extended_divide index read_value modify_value write_place address_value next_operands taken of_integers
integer_takes (integer.Unary operation from to) s next = refl
integer_takes i s next = refl

pub control_takes : (c : Control) (s : State) (next : Flow → State → Accesses Leaf) → control_performed c s next ≡ next_operands (of_control c) s (λ xs s. of_controls c xs s next)
unfolding control_performed branch branch_subroutine jump jump_subroutine low_bit add_one subtract_one add_compare case_of read_value modify_value address_value branch_target next_operands taken of_controls
control_takes (control.Branch condition size) s next = refl
control_takes c s next = refl

-- what a system instruction does behind its last operand
unfoldable pub of_systems : System → Rest
of_systems system.Halt xs s next = next (flow.Ended ending.Halt) s
of_systems system.NoOperation xs s next = next Done s
of_systems system.Breakpoint xs s next = Raises Breakpoint
of_systems system.Customer xs s next = Raises Customer
of_systems system.Return xs s next = return_exception s next
of_systems (system.ChangeMode target) xs s next = change_mode target (value 0 xs) s (λ how s. next (flow_of_delivery how) s)
of_systems (system.Probe writing) xs s next = probed writing (max (value 0 xs % 4) (prev_of s.core.psl)) (value 1 xs) (target 2 xs) s next
of_systems system.ToRegister xs s next = set_processor (value 1 xs) (value 0 xs) (with_moved (value 0 xs) s) next
of_systems system.FromRegister xs s next =
    get_processor (value 0 xs) s (λ value s. stored 4 (place 1 xs) value s (λ s. next Done (with_moved value s)))
of_systems system.MoveStatus xs s next = stored 4 (place 0 xs) s.core.psl.0 s (λ s. next Done s)
of_systems system.SetStatus xs s next = status_set (value 0 xs) s next
of_systems system.ClearStatus xs s next = status_cleared (value 0 xs) s next

pub system_takes : (i : System) (s : State) (next : Flow → State → Accesses Leaf) → system_performed i s next ≡ unless_privileged (is_for_kernel i) s (next_operands (of_system i) s (λ xs s. of_systems i xs s next))
unfolding system_performed halt change_of_mode probe to_register from_register move_status set_status clear_status read_value write_place address_value next_operands taken of_systems
system_takes system.Halt s next = refl
system_takes i s next = refl

-- what a queue instruction does behind its last operand
unfoldable pub of_queues : Queue → Rest
of_queues queue.Insert xs s next = inserted (target 0 xs) (target 1 xs) s next
of_queues queue.Remove xs s next = removed (target 0 xs) (place 1 xs) s next
of_queues queue.AddAligned xs s next = aligned_sum (value 0 xs) (place 1 xs) (value 1 xs) s next

pub queue_takes : (i : Queue) (s : State) (next : Flow → State → Accesses Leaf) → queue_performed i s next ≡ next_operands (of_queue i) s (λ xs s. of_queues i xs s next)
unfolding queue_performed insert remove add_aligned read_value modify_value write_place address_value next_operands taken of_queues
queue_takes queue.Insert s next = refl
queue_takes i s next = refl

-- what a call, or a push or pop of registers, does behind its last operand
unfoldable pub of_calls : Call → Rest
of_calls call.WithList xs s next = called_with_list (target 0 xs) (target 1 xs) s next
of_calls call.WithStack xs s next = called_with_stack (value 0 xs) (target 1 xs) s next
of_calls call.Return xs s next = return_from s next
of_calls call.PushRegisters xs s next = registers_pushed (value 0 xs) s next
of_calls call.PopRegisters xs s next = registers_popped (value 0 xs) s next

pub call_takes : (i : Call) (s : State) (next : Flow → State → Accesses Leaf) → call_performed i s next ≡ next_operands (of_call i) s (λ xs s. of_calls i xs s next)
unfolding call_performed call_with_list call_with_stack push_registers pop_registers read_value address_value next_operands taken of_calls
call_takes call.WithList s next = refl
call_takes i s next = refl

-- what a field instruction does behind its last operand
unfoldable pub of_fields : Field → Rest
of_fields (field.Extract signed) xs s next = extracted signed (value 0 xs) (value 1 xs) (place 2 xs) (place 3 xs) s next
of_fields (field.Compare signed) xs s next = compared_field signed (value 0 xs) (value 1 xs) (place 2 xs) (value 3 xs) s next
of_fields field.Insert xs s next = inserted_field (value 0 xs) (value 1 xs) (value 2 xs) (place 3 xs) s next
of_fields (field.FindFirst set) xs s next = found set (value 0 xs) (value 1 xs) (place 2 xs) (place 3 xs) s next
of_fields (field.Branch set becomes) xs s next = branched_on set becomes (value 0 xs) (place 1 xs) (target 2 xs) s next

pub field_takes : (i : Field) (s : State) (next : Flow → State → Accesses Leaf) → field_performed i s next ≡ next_operands (of_field i) s (λ xs s. of_fields i xs s next)
unfolding field_performed extract compare_field insert_field find_first branch_on_bit base_place read_value write_place branch_target next_operands taken of_fields
field_takes (field.Extract signed) s next = refl
field_takes i s next = refl

-- the progress at the start of a string instruction, from the state before its operands, its operands and the state behind them
unfoldable pub begins : Text → State → List (Operand × ℕ) → State → Progress
begins text.Move s xs t = record { op = 0x28; len1 = word (value 0 xs); addr1 = longword (target 1 xs); byte = 0; len2 = word (value 0 xs); addr2 = longword (target 2 xs); table = 0; done = 0; delta = length_of s t }
begins text.MoveFilled s xs t = record { op = 0x2C; len1 = word (value 0 xs); addr1 = longword (target 1 xs); byte = byte_in (value 2 xs); len2 = word (value 3 xs); addr2 = longword (target 4 xs); table = 0; done = 0; delta = length_of s t }
begins text.MoveTranslated s xs t = record { op = 0x2E; len1 = word (value 0 xs); addr1 = longword (target 1 xs); byte = byte_in (value 2 xs); len2 = word (value 4 xs); addr2 = longword (target 5 xs); table = longword (target 3 xs); done = 0; delta = length_of s t }
begins text.MoveTranslatedUntil s xs t = record { op = 0x2F; len1 = word (value 0 xs); addr1 = longword (target 1 xs); byte = byte_in (value 2 xs); len2 = word (value 4 xs); addr2 = longword (target 5 xs); table = longword (target 3 xs); done = 0; delta = length_of s t }
begins text.Compare s xs t = record { op = 0x29; len1 = word (value 0 xs); addr1 = longword (target 1 xs); byte = 0; len2 = word (value 0 xs); addr2 = longword (target 2 xs); table = 0; done = 0; delta = length_of s t }
begins text.CompareFilled s xs t = record { op = 0x2D; len1 = word (value 0 xs); addr1 = longword (target 1 xs); byte = byte_in (value 2 xs); len2 = word (value 3 xs); addr2 = longword (target 4 xs); table = 0; done = 0; delta = length_of s t }
begins text.Locate s xs t = record { op = 0x3A; len1 = word (value 1 xs); addr1 = longword (target 2 xs); byte = byte_in (value 0 xs); len2 = 0; addr2 = 0; table = 0; done = 0; delta = length_of s t }
begins text.Skip s xs t = record { op = 0x3B; len1 = word (value 1 xs); addr1 = longword (target 2 xs); byte = byte_in (value 0 xs); len2 = 0; addr2 = 0; table = 0; done = 0; delta = length_of s t }
begins text.Scan s xs t = record { op = 0x2A; len1 = word (value 0 xs); addr1 = longword (target 1 xs); byte = byte_in (value 3 xs); len2 = 0; addr2 = 0; table = longword (target 2 xs); done = 0; delta = length_of s t }
begins text.Span s xs t = record { op = 0x2B; len1 = word (value 0 xs); addr1 = longword (target 1 xs); byte = byte_in (value 3 xs); len2 = 0; addr2 = 0; table = longword (target 2 xs); done = 0; delta = length_of s t }
begins text.Match s xs t = record { op = 0x39; len1 = word (value 0 xs); addr1 = longword (target 1 xs); byte = 0; len2 = word (value 2 xs); addr2 = longword (target 3 xs); table = 0; done = 0; delta = length_of s t }

-- what it does from there, whole
unfoldable pub whole_by : Text → Progress → State → (Flow → State → Accesses Leaf) → Accesses Leaf
whole_by text.Move p s next = whole_move false p s next
whole_by text.MoveFilled p s next = whole_move false p s next
whole_by text.MoveTranslated p s next = whole_move true p s next
whole_by text.MoveTranslatedUntil p s next = whole_escape p s next
whole_by text.Compare p s next = whole_compare p s next
whole_by text.CompareFilled p s next = whole_compare p s next
whole_by text.Locate p s next = whole_search true p s next
whole_by text.Skip p s next = whole_search false p s next
whole_by text.Scan p s next = whole_scan true p s next
whole_by text.Span p s next = whole_scan false p s next
whole_by text.Match p s next = whole_match p s next

-- and its first part
unfoldable pub first_by : Text → Progress → State → (Flow → State → Accesses Leaf) → Accesses Leaf
first_by text.Move p s next = move_start false p s next
first_by text.MoveFilled p s next = move_start false p s next
first_by text.MoveTranslated p s next = move_start true p s next
first_by text.MoveTranslatedUntil p s next = escape_start p s next
first_by text.Compare p s next = compare_part p s next
first_by text.CompareFilled p s next = compare_part p s next
first_by text.Locate p s next = search_part true p s next
first_by text.Skip p s next = search_part false p s next
first_by text.Scan p s next = scan_part true p s next
first_by text.Span p s next = scan_part false p s next
first_by text.Match p s next = match_part p s next

pub text_takes : (t : Text) (s : State) (next : Flow → State → Accesses Leaf) → text_whole t s next ≡ next_operands (of_text t) s (λ xs u. whole_by t (begins t s xs u) (begun u) next)
unfolding text_whole search_operands scan_operands equal_operands filled_operands translated_operands match_operands next_word next_byte next_longword read_value address_value next_operands taken begins whole_by
text_takes text.Move s next = refl
text_takes t s next = refl

pub part_takes : (t : Text) (s : State) (next : Flow → State → Accesses Leaf) → text_part t s next ≡ next_operands (of_text t) s (λ xs u. first_by t (begins t s xs u) (begun u) next)
unfolding text_part first_search first_scan first_compare first_compare_filled first_move first_move_filled first_move_translated first_escape first_match search_operands scan_operands equal_operands filled_operands translated_operands match_operands next_word next_byte next_longword read_value address_value next_operands taken begins first_by
part_takes text.Move s next = refl
part_takes t s next = refl

pub action_takes : (a : Action) → Takes (is_privileged a) (operands_of a) (acted a)
unfolding acted
action_takes (action.Integer i) = record { rest = λ s xs t next. of_integers i xs t next; takes = λ s next. integer_takes i s next }
action_takes (action.Control c) = record { rest = λ s xs t next. of_controls c xs t next; takes = λ s next. control_takes c s next }
action_takes (action.Field f) = record { rest = λ s xs t next. of_fields f xs t next; takes = λ s next. field_takes f s next }
action_takes (action.Call c) = record { rest = λ s xs t next. of_calls c xs t next; takes = λ s next. call_takes c s next }
action_takes (action.Queue q) = record { rest = λ s xs t next. of_queues q xs t next; takes = λ s next. queue_takes q s next }
action_takes (action.System i) = record { rest = λ s xs t next. of_systems i xs t next; takes = λ s next. system_takes i s next }
action_takes (action.Text t) = record { rest = λ s xs u next. whole_by t (begins t s xs u) (begun u) next; takes = λ s next. text_takes t s next }

-- where two trees do the same, they do with the same privilege
allowed_same : (memory : List Area) (privileged : Bool) (s : State) (a b : Accesses Leaf) → DoSame memory a b → DoSame memory (unless_privileged privileged s a) (unless_privileged privileged s b)
allowed_same memory false s a b same = same
allowed_same memory true s a b same =
    elim (mode s == 0) as (λ kernel. DoSame memory (if kernel then a else Raises Privileged) (if kernel then b else Raises Privileged)) [ true ↦ same | false ↦ record { outcome = refl; touches = refl } ]

-- an instruction whose action takes the operands that its row lists
pub listed_agrees : (memory : List Area) (s : State) (bytes : List ℕ) (row : Instruction) (operands : Sequence) (count : ℕ) (privileged : Bool) (t : Takes privileged row.operands (acted row.action)) (next : Flow → State → Accesses Leaf) → AreAhead memory s bytes → IsInstruction bytes row operands count → DoSame memory (instruction s next) (passed (1 ∷ []) s (λ u. unless_privileged privileged u (all_come_to operands u (λ xs v. t.rest u xs v next))))
unfolding instruction acted_if action_of passed
listed_agrees memory s bytes row operands count privileged t next a i =
    let ahead : AreAhead memory s (i.opcode ∷ i.rest) = rw i.split at a in
    same_first memory s i.opcode i.rest (λ opcode u. acted_if (action_of opcode) u next) (λ u. unless_privileged privileged u (all_come_to operands u (λ xs v. t.rest u xs v next))) ahead
    (rw (i.listed, t.takes (past 1 s) next) (allowed_same memory privileged (past 1 s) _ _ (operands_agree row.operands memory (past 1 s) i.rest (λ xs u. t.rest (past 1 s) xs u next) (ahead_past memory s (i.opcode ∷ i.rest) 1 ahead (omega arith)) operands i.read)))

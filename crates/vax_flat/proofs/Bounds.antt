-- What each instruction and each delivery adds to what is touched. An instruction has at most 11 ranges for its operands and 2 for its work; a
-- delivery has its vector, and a window at the stack.
use Rattle.std.proofs.Common.{◌≡◌, ℕ, suc, ◌+◌, ◌*◌, ◌/◌, ◌%◌, ◌^◌, ◌≤◌, Bool, true, false, not, ◌||◌, ◌&&◌, Option, Some, None, List, [], ◌∷◌, length, refl, sym, subst, inl, arith}
use Rattle.std.specs.Prelude.{◌==◌, nat_lt, nat_le, min, if◌then◌else◌}
use Rattle.vax_word.specs.declared.Codes.{Codes}
use Rattle.vax_word.specs.declared.Psl.{Psl}
use Rattle.vax_word.specs.declared.Size.{Size}
use Rattle.vax_word.specs.declared.Size.TheVariants as size
use Rattle.vax_word.specs.Arithmetic.{bytes_of, is_less}
use Rattle.vax_word.specs.Status.{field, is_one, ipl_of}
use Rattle.std.proofs.lemmas.Bool.Decides.{nat_tests}
use Rattle.std.proofs.lemmas.List.{length-map, length-reverse}
use Rattle.vax_isa.specs.declared.OperandKind.{OperandKind}
use Rattle.vax_isa.specs.declared.actions.AccessMode.{AccessMode}
use Rattle.vax_isa.specs.declared.actions.Action.{Action}
use Rattle.vax_isa.specs.declared.actions.Action.TheVariants as action
use Rattle.vax_isa.specs.declared.actions.Integer.{Integer}
use Rattle.vax_isa.specs.declared.actions.Integer.TheVariants as integer
use Rattle.vax_isa.specs.declared.actions.Control.{Control}
use Rattle.vax_isa.specs.declared.actions.Control.TheVariants as control
use Rattle.vax_isa.specs.declared.actions.Field.{Field}
use Rattle.vax_isa.specs.declared.actions.Field.TheVariants as field_action
use Rattle.vax_isa.specs.declared.actions.System.{System}
use Rattle.vax_isa.specs.declared.actions.System.TheVariants as system
use Rattle.vax_isa.specs.declared.actions.Queue.{Queue}
use Rattle.vax_isa.specs.declared.actions.Queue.TheVariants as queue
use Rattle.vax_isa.specs.declared.actions.Call.{Call}
use Rattle.vax_isa.specs.declared.actions.Call.TheVariants as call
use Rattle.vax_isa.specs.declared.actions.Text.{Text}
use Rattle.vax_isa.specs.declared.actions.Text.TheVariants as text
use Rattle.vax_isa.specs.Actions.{mode_number, size_of, of_integer, of_control, of_field, of_system, of_queue, of_call, of_text}
use Rattle.vax_isa.specs.Rows.{action_of}
use Rattle.vax_flat.specs.declared.Delivery.{Delivery}
use Rattle.vax_flat.specs.declared.Delivery.TheVariants.{Entered, Ended}
use Rattle.vax_flat.specs.declared.Exception.{Exception}
use Rattle.vax_flat.specs.declared.Exception.TheVariants as exception
use Rattle.vax_flat.specs.declared.Ending.TheVariants as ending
use Rattle.vax_flat.specs.declared.Flow.{Flow}
use Rattle.vax_flat.specs.declared.Holder.{Holder}
use Rattle.vax_flat.specs.declared.Flow.TheVariants as flow
use Rattle.vax_flat.specs.declared.Trap.TheVariants as trap
use Rattle.vax_flat.specs.declared.Operand.{Operand}
use Rattle.vax_flat.specs.declared.Operand.TheVariants as operand
use Rattle.vax_flat.specs.State.{State, register, mode, priority, overflow_enabled, next_input}
use Rattle.vax_flat.specs.Accesses.{Accesses, Raises, Leaf}
use Rattle.vax_flat.specs.Operand.{extended, write_in, asked}
use Rattle.vax_flat.specs.Rows.{value_at, stored, flow_of, settled, answered, pushed}
use Rattle.vax_flat.specs.Integer.{subscript_flow, pushed_result}
use Rattle.vax_flat.specs.Control.{called, return_subroutine, looped, chosen}
use Rattle.vax_flat.specs.Field.{holder, is_reserved_field, held, put, field_bits, extracted, compared_field, found, inserted as inserted_field, becoming, branched_on}
use Rattle.vax_flat.specs.Delivery.{on_interrupt_stack, takes_interrupt_stack, status, at_handler, served, interrupt_vector, change_vector, vectored, pushed_in, pushed_if, pushed_all, entered, dispatched, vector_of, parameters, delivery, interrupted, interrupt, changed, pushed_outside, changed_to, change_by, change_mode}
use Rattle.vax_flat.specs.System.{flow_of_delivery, return_from, is_refused, pointer, input_byte, input_after, input_ready, return_exception, probed, set_processor, get_processor, status_set, status_cleared, unless_privileged, is_for_kernel, performed as system_performed}
use Rattle.vax_flat.specs.Queue.{inserted, removed, is_odd, aligned_sum}
use Rattle.vax_flat.specs.Call.{frame_word, saved, restored, registers_pushed, registers_popped, at_procedure, entered as procedure_entered, entry_mask, called_with_list, called_with_stack, is_status, behind_arguments, unwound, return_from as procedure_return}
use Rattle.vax_flat.specs.Instruction.{acted, acted_part, acted_part_if, first_part}
use Rattle.vax_flat.specs.Evaluation.{next_operands}
use Rattle.vax_flat.specs.Step.{level, finished, handed_over, delivered}
use Rattle.vax_flat.specs.Parts.{begun_part, part, later}
use Rattle.vax_flat.specs.Bound.{IsClosed, IsWhole, is_string}
use Rattle.vax_flat.proofs.Listed.{place, value, of_integers, of_controls, of_fields, of_systems, of_queues, of_calls, integer_takes, control_takes, field_takes, system_takes, queue_takes, call_takes, part_takes}
use Rattle.vax_flat.proofs.Windows.{IsPcNear, near_here, IsStackNear, stack_here, stack_below, stack_pushed, read_adds, write_adds, read_in_adds, fetched_adds, at_most, either}
use Rattle.vax_flat.proofs.Frames.{IsTopNear, top_here, top_fewer, top_aligned, below_within, below_near, room_here, room_behind, few_named, few_framed, read_within, one_adds, pushes_add, pops_add}
use Rattle.vax_flat.proofs.StringBounds.{first_by_adds, resumed_adds}
use Rattle.vax_flat.proofs.OperandBounds.{costs, AreWide, operands_add}

-- the operands of an instruction are 1 to 8 bytes wide, and have so many ranges at most
record AreModest (most : ℕ) (kinds : List OperandKind) : Type 0 where
  wide : AreWide kinds
  few : costs kinds ≤ most
  short : length kinds ≤ 6

size_some : (s : Size) → 1 ≤ bytes_of s
size_some size.B = omega arith
size_some s = omega arith

size_few : (s : Size) → bytes_of s ≤ 8
size_few size.B = omega arith
size_few s = omega arith

integer_modest : (i : Integer) → AreModest 11 (of_integer i)
integer_modest integer.Index = record { wide = search (arith, size_some, size_few) parts 8; few = omega arith; short = omega arith }
integer_modest i = record { wide = search (arith, size_some, size_few) parts 8; few = omega arith; short = omega arith }

control_modest : (i : Control) → AreModest 11 (of_control i)
control_modest control.Return = record { wide = tt; few = omega arith; short = omega arith }
control_modest i = record { wide = search (arith, size_some, size_few) parts 8; few = omega arith; short = omega arith }

system_modest : (i : System) → AreModest 11 (of_system i)
system_modest system.Halt = record { wide = tt; few = omega arith; short = omega arith }
system_modest i = record { wide = search arith parts 8; few = omega arith; short = omega arith }

field_modest : (i : Field) → AreModest 11 (of_field i)
field_modest field_action.Insert = record { wide = search arith parts 8; few = omega arith; short = omega arith }
field_modest i = record { wide = search arith parts 8; few = omega arith; short = omega arith }

call_modest : (i : Call) → AreModest 11 (of_call i)
call_modest call.Return = record { wide = tt; few = omega arith; short = omega arith }
call_modest i = record { wide = search arith parts 8; few = omega arith; short = omega arith }

-- a queue instruction and a string instruction have fewer ranges for their operands, and more for their work
queue_modest : (i : Queue) → AreModest 8 (of_queue i)
queue_modest queue.Insert = record { wide = search arith parts 8; few = omega arith; short = omega arith }
queue_modest i = record { wide = search arith parts 8; few = omega arith; short = omega arith }

text_modest : (t : Text) → AreModest 9 (of_text t)
text_modest text.Move = record { wide = search arith parts 8; few = omega arith; short = omega arith }
text_modest t = record { wide = search arith parts 8; few = omega arith; short = omega arith }

few_bytes : (position size : ℕ) → nat_lt 32 size ≡ false → (position % 8 + size + 7) / 8 ≤ 8
few_bytes position size short = let few : size ≤ 32 = grind (arith, nat_tests) in omega arith

-- a field lies in at most 5 bytes, or in registers
few_held : (position size : ℕ) (base : Operand) → is_reserved_field position size base ≡ false → (holder position size base).width ≤ 8
unfolding is_reserved_field holder
few_held position size (operand.FieldRegister n) fine = by (nat_le (position + size) 32)
  where
    by : (one : Bool) → (if one then 4 else 8) ≤ 8
    by true = omega arith
    by false = omega arith
few_held position size base fine = few_bytes position size fine

delivery_whole : (how : Delivery) → IsWhole (flow_of_delivery how)
delivery_whole Entered = tt
delivery_whole (Ended e) = tt

module _ (Q : List ℕ → ℕ → Accesses Leaf → Type 0) (c : IsClosed Q) where
  -- deliveries

  vectored_adds : (ws : List ℕ) (n offset : ℕ) (s : State) (next : Option ℕ → State → Accesses Leaf) → ((x : Option ℕ) → Q ws n (next x s)) → Q ws (suc n) (vectored offset s next)
  unfolding vectored asked
  vectored_adds ws n offset s next q =
      c.asks _ _ _ 4 0 _ _ (λ allowed. either Q c _ _ allowed _ _ (λ yes. read_in_adds Q c ws n _ 4 0 s _ (omega arith) (λ x. q (Some x))) (λ no_read. c.fewer ws n _ (q None)))

  -- pushes, which lie in a window at the stack
  module _ (window : ℕ) (ws : List ℕ) (n : ℕ) where
    pushed_adds : (mode value : ℕ) (s : State) (next : State → Accesses Leaf) (count : ℕ) → IsStackNear s window (suc count) →
        ((t : State) → IsStackNear t window count → Q (window ∷ ws) n (next t)) → Q (window ∷ ws) n (pushed_in mode value s next)
    unfolding pushed_in write_in
    pushed_adds mode value s next count p q = c.writes _ n _ 4 value mode _ (inl (stack_below s window count p)) (q _ (stack_pushed s window count p s refl))

    pushed_if_adds : (value : ℕ) (s : State) (next : Bool → State → Accesses Leaf) (count : ℕ) → IsStackNear s window (suc count) →
        ((t : State) → IsStackNear t window count → Q (window ∷ ws) n (next true t)) → Q (window ∷ ws) n (next false s) → Q (window ∷ ws) n (pushed_if value s next)
    unfolding pushed_if asked
    pushed_if_adds value s next count p q e =
        c.asks _ n _ 4 0 _ _ (λ allowed. either Q c _ n allowed _ _ (λ yes. pushed_adds 0 value s _ count p q) (λ no_push. e))

    pushed_all_adds : (next : Bool → State → Accesses Leaf) → ((done : Bool) (t : State) → Q (window ∷ ws) n (next done t)) →
        (values : List ℕ) (s : State) → IsStackNear s window (length values) → Q (window ∷ ws) n (pushed_all values s next)
    unfolding pushed_all
    pushed_all_adds next q [] s p = q true s
    pushed_all_adds next q (value ∷ values) s p =
        pushed_if_adds value s _ (length values) p (λ t near. pushed_all_adds next q values t near) (q false s)

  few_parameters : (e : Exception) → length (parameters e) ≤ 9
  unfolding parameters
  few_parameters exception.Privileged = omega arith
  few_parameters e = omega arith

  no_parameters : length {A = ℕ} [] ≤ 9
  no_parameters = omega arith

  module _ (ws : List ℕ) (n : ℕ) (next : Delivery → State → Accesses Leaf) (q : (how : Delivery) (t : State) → Q ws n (next how t)) where
    -- a frame, behind which the handler is entered or the run ends
    framed : (w : ℕ) (x : State → State) (done : Bool) (t : State) → Q (w ∷ ws) n (if done then next Entered (x t) else next (Ended ending.Stack) t)
    framed w x true t = c.wider w ws n _ (q _ _)
    framed w x false t = c.wider w ws n _ (q _ _)

    entered_adds : (values : List ℕ) (vector : ℕ) (interrupt : Bool) (psl : Psl) (s : State) → length values ≤ 9 → Q ws (suc n) (entered values vector interrupt psl s next)
    unfolding entered
    entered_adds values vector interrupt psl s few =
        c.opens _ ws n _ (pushed_all_adds _ ws n _ (λ done t. framed _ (λ t. at_handler (vector / 4 * 4) psl t) done t) _ _ (stack_here _ _ (omega arith)))

    -- a frame on the stack that the vector asks for, or none where it ends the run
    by_vector : (vector : ℕ) (x y z : Accesses Leaf) → Q ws n x → Q ws (suc n) y → Q ws (suc n) z → Q ws (suc n) (if nat_le 2 (vector % 4) then x else if vector % 4 == 1 then y else z)
    by_vector vector x y z qx qy qz =
        either Q c ws (suc n) (nat_le 2 (vector % 4)) x _ (λ yes. c.fewer ws n x qx) (λ no_end. either Q c ws (suc n) (vector % 4 == 1) y z (λ yes. qy) (λ other. qz))

    dispatched_adds : (e : Exception) (vector : Option ℕ) (s : State) → Q ws (suc n) (dispatched e vector s next)
    unfolding dispatched
    dispatched_adds e None s = c.fewer ws n _ (q _ s)
    dispatched_adds e (Some vector) s =
        by_vector vector _ _ _ (q (Ended (ending.Vector (vector_of e))) s)
        (entered_adds (parameters e) vector true (status 0 (mode s) 31 true) s (few_parameters e))
        (entered_adds (parameters e) vector (on_interrupt_stack s.core.psl) (status 0 (mode s) (priority s) (on_interrupt_stack s.core.psl)) s (few_parameters e))

    pub delivery_adds : (e : Exception) (s : State) → Q ws (suc (suc n)) (delivery e s next)
    unfolding delivery
    delivery_adds e s = vectored_adds ws (suc n) _ s _ (λ vector. dispatched_adds e vector s)

    interrupted_adds : (level : ℕ) (vector : Option ℕ) (s : State) → Q ws (suc n) (interrupted level vector s next)
    unfolding interrupted
    interrupted_adds level None s = c.fewer ws n _ (q _ s)
    interrupted_adds level (Some vector) s =
        either Q c ws (suc n) (nat_le 2 (vector % 4)) (next (Ended (ending.Vector (interrupt_vector level))) s) _ (λ yes. c.fewer ws n _ (q _ s)) (λ no_end.
        entered_adds [] vector (takes_interrupt_stack vector s.core.psl) (status 0 0 level (takes_interrupt_stack vector s.core.psl)) (served level s) no_parameters)

    pub interrupt_adds : (level : ℕ) (s : State) → Q ws (suc (suc n)) (interrupt level s next)
    unfolding interrupt
    interrupt_adds level s = vectored_adds ws (suc n) _ s _ (λ vector. interrupted_adds level vector s)

    outside_adds : (w mode : ℕ) (old : Psl) (pc code : ℕ) (s : State) (then_next : State → Accesses Leaf) → IsStackNear s w 3 → ((t : State) → Q (w ∷ ws) n (then_next t)) →
        Q (w ∷ ws) n (pushed_outside mode old pc code s then_next)
    unfolding pushed_outside
    outside_adds w mode old pc code s then_next near r =
        pushed_adds w ws n mode old.0 s _ 2 near (λ t a. pushed_adds w ws n mode pc t _ 1 a (λ u b. pushed_adds w ws n mode code u _ 0 b (λ v last. r v)))

    changed_adds : (new code vector : ℕ) (s : State) → Q ws (suc n) (changed_to new code vector s next)
    unfolding changed_to
    changed_adds new code vector s =
        either Q c ws (suc n) (new == 0) _ _
        (λ kernel. c.opens _ ws n _ (pushed_all_adds _ ws n _ (λ done t. framed _ (λ t. changed new vector s.core.psl t) done t) _ _ (stack_here _ _ (omega arith))))
        (λ other. c.opens _ ws n _ (outside_adds _ new s.core.psl (register s 15) code _ _ (stack_here _ 3 (omega arith)) (λ t. c.wider _ ws n _ (q _ _))))

    change_by_adds : (target : AccessMode) (code : ℕ) (vector : Option ℕ) (s : State) → Q ws (suc n) (change_by target code vector s next)
    unfolding change_by
    change_by_adds target code None s = c.fewer ws n _ (q _ s)
    change_by_adds target code (Some vector) s =
        either Q c ws (suc n) (vector % 4 == 0) (changed_to (min (mode_number target) (mode s)) (extended 2 code) vector s next) (next (Ended (ending.Vector (change_vector target))) s)
        (λ yes. changed_adds _ _ vector s) (λ other. c.fewer ws n _ (q _ s))

    pub change_adds : (target : AccessMode) (code : ℕ) (s : State) → Q ws (suc (suc n)) (change_mode target code s next)
    unfolding change_mode
    change_adds target code s =
        either Q c ws (suc (suc n)) (on_interrupt_stack s.core.psl) (next (Ended ending.Change) s) _ (λ yes. c.fewer ws (suc n) _ (c.fewer ws n _ (q _ s))) (λ free.
        vectored_adds ws (suc n) _ s _ (λ vector. change_by_adds target code vector s))

  -- what an instruction does behind its last operand
  module _ (ws : List ℕ) (n : ℕ) (next : Flow → State → Accesses Leaf) (q : (how : Flow) (t : State) → IsWhole how → Q ws n (next how t)) where
    stored_adds : (width value : ℕ) → width ≤ 8 → (o : Operand) (s : State) (m : ℕ) (then_next : State → Accesses Leaf) → ((t : State) → Q ws m (then_next t)) → Q ws (suc m) (stored width o value s then_next)
    unfolding stored
    stored_adds width value few (operand.Memory addr) s m then_next r = write_adds Q c ws m addr width value s _ (omega arith) (r s)
    stored_adds width value few o s m then_next r = c.fewer ws m _ (r _)

    flow_whole : (by_zero : Bool) (codes : Codes) (s : State) → IsWhole (flow_of by_zero codes s)
    unfolding flow_of
    flow_whole true codes s = tt
    flow_whole false codes s = by (codes.v && overflow_enabled s)
      where
        by : (b : Bool) → IsWhole (if b then flow.Trap trap.IntegerOverflow else flow.Done)
        by true = tt
        by false = tt

    subscript_whole : (subscript low high : ℕ) → IsWhole (subscript_flow subscript low high)
    unfolding subscript_flow
    subscript_whole subscript low high = by (is_less size.L subscript low || is_less size.L high subscript)
      where
        by : (b : Bool) → IsWhole (if b then flow.Trap trap.SubscriptRange else flow.Done)
        by true = tt
        by false = tt

    settled_adds : (by_zero : Bool) (codes : Codes) (s : State) → Q ws n (settled by_zero codes s next)
    unfolding settled
    settled_adds by_zero codes s = q _ _ (flow_whole by_zero codes s)

    answered_adds : (width : ℕ) → width ≤ 8 → (o : Operand) (by_zero : Bool) (result : ℕ × Codes) (s : State) → Q ws (suc n) (answered width o by_zero result s next)
    unfolding answered
    answered_adds width few o by_zero result s = stored_adds width result.0 few o s n _ (λ t. settled_adds by_zero result.1 t)

    one_pushed : (value : ℕ) (s : State) (then_next : State → Accesses Leaf) → ((t : State) → Q ws n (then_next t)) → Q ws (suc n) (pushed value s then_next)
    unfolding pushed
    one_pushed value s then_next r = write_adds Q c ws n _ 4 value s _ (omega arith) (r _)

    pushed_result_adds : (x : ℕ) (s : State) → Q ws (suc n) (pushed_result x s next)
    unfolding pushed_result
    pushed_result_adds x s = one_pushed x s _ (λ t. settled_adds _ _ t)

    two_more : (tree : Accesses Leaf) → Q ws (suc n) tree → Q ws (suc (suc n)) tree
    two_more tree r = c.fewer ws (suc n) tree r

    none_more : (tree : Accesses Leaf) → Q ws n tree → Q ws (suc (suc n)) tree
    none_more tree r = c.fewer ws (suc n) tree (c.fewer ws n tree r)

    integer_adds : (i : Integer) (xs : List (Operand × ℕ)) (s : State) → Q ws (suc (suc n)) (of_integers i xs s next)
    unfolding of_integers
    integer_adds (integer.Unary operation from to) xs s = two_more _ (answered_adds _ (size_few to) _ _ _ s)
    integer_adds (integer.Two operation z) xs s = two_more _ (answered_adds _ (size_few (size_of z)) _ _ _ s)
    integer_adds (integer.Three operation z) xs s = two_more _ (answered_adds _ (size_few (size_of z)) _ _ _ s)
    integer_adds (integer.ByOne operation z) xs s = two_more _ (answered_adds _ (size_few (size_of z)) _ _ _ s)
    integer_adds (integer.Clear z) xs s = two_more _ (answered_adds _ (size_few z) _ _ _ s)
    integer_adds (integer.Shift z) xs s = two_more _ (answered_adds _ (size_few z) _ _ _ s)
    integer_adds integer.Rotate xs s = two_more _ (answered_adds 4 (omega arith) _ _ _ s)
    integer_adds (integer.MoveAddress z) xs s = two_more _ (answered_adds 4 (omega arith) _ _ _ s)
    integer_adds (integer.PushAddress z) xs s = two_more _ (pushed_result_adds _ s)
    integer_adds integer.Push xs s = two_more _ (pushed_result_adds _ s)
    integer_adds integer.ExtendedMultiply xs s = two_more _ (answered_adds 8 (omega arith) _ _ _ s)
    integer_adds integer.ExtendedDivide xs s = stored_adds 4 _ (omega arith) _ s (suc n) _ (λ t. stored_adds 4 _ (omega arith) _ t n _ (λ u. settled_adds _ _ u))
    integer_adds integer.Index xs s = two_more _ (stored_adds 4 _ (omega arith) _ s n _ (λ t. q _ _ (subscript_whole _ _ _)))
    integer_adds i xs s = none_more _ (settled_adds _ _ s)

    looped_adds : (z : Size) (o : Operand) (result : ℕ × Codes) (taken : Bool) (target : ℕ) (s : State) → Q ws (suc n) (looped z o result taken target s next)
    unfolding looped
    looped_adds z o result taken target s = stored_adds (bytes_of z) result.0 (size_few z) o s n _ (λ t. settled_adds _ _ _)

    called_adds : (target : ℕ) (s : State) → Q ws (suc n) (called target s next)
    unfolding called
    called_adds target s = one_pushed _ s _ (λ t. q flow.Done _ tt)

    return_adds : (s : State) → Q ws (suc n) (return_subroutine s next)
    unfolding return_subroutine
    return_adds s = read_adds Q c ws n _ 4 s _ (omega arith) (λ pc. q flow.Done _ tt)

    chosen_adds : (z : Size) (place limit : ℕ) (s : State) → Q ws (suc n) (chosen z place limit s next)
    unfolding chosen
    chosen_adds z place limit s =
        either Q c ws (suc n) (nat_le place limit) _ _ (λ yes. read_adds Q c ws n _ 2 s _ (omega arith) (λ displacement. settled_adds _ _ _)) (λ past. c.fewer ws n _ (settled_adds _ _ _))

    control_adds : (i : Control) (xs : List (Operand × ℕ)) (s : State) → Q ws (suc (suc n)) (of_controls i xs s next)
    unfolding of_controls
    control_adds (control.Branch condition z) xs s = none_more _ (q flow.Done _ tt)
    control_adds (control.BranchSubroutine z) xs s = two_more _ (called_adds _ s)
    control_adds control.Jump xs s = none_more _ (q flow.Done _ tt)
    control_adds control.JumpSubroutine xs s = two_more _ (called_adds _ s)
    control_adds control.Return xs s = two_more _ (return_adds s)
    control_adds (control.LowBit set) xs s = none_more _ (q flow.Done _ tt)
    control_adds (control.Case z) xs s = two_more _ (chosen_adds _ _ _ s)
    control_adds i xs s = two_more _ (looped_adds _ _ _ _ _ s)

    return_from_adds : (pc : ℕ) (psl : Psl) (s : State) → Q ws n (return_from pc psl s next)
    unfolding return_from
    return_from_adds pc psl s = either Q c ws n (is_refused s.core.psl psl) _ _ (λ yes. c.raises _ _ _) (λ allowed. q flow.Done _ tt)

    set_adds : (number value : ℕ) (s : State) → Q ws n (set_processor number value s next)
    unfolding set_processor
    set_adds number value s =
        either Q c ws n (nat_le number 4) _ _ (λ yes. q flow.Done _ tt) (λ a.
        either Q c ws n (number == 18) _ _ (λ yes. q flow.Done _ tt) (λ a.
        either Q c ws n (number == 20) _ _ (λ yes. q flow.Done _ tt) (λ a.
        either Q c ws n (number == 21) _ _ (λ yes. q flow.Done _ tt) (λ a.
        either Q c ws n (number == 24) _ _ (λ yes. q flow.Clocked _ tt) (λ a.
        either Q c ws n (number == 35) _ _ (λ yes. q flow.Done _ tt) (λ a.
        either Q c ws n (number == 32 || (number == 34 || (number == 57 || number == 58))) _ _ (λ yes. q flow.Done _ tt) (λ a. c.raises _ _ _)))))))

    get_adds : (number : ℕ) (s : State) (m : ℕ) (then_next : ℕ → State → Accesses Leaf) → ((x : ℕ) (t : State) → Q ws m (then_next x t)) → Q ws m (get_processor number s then_next)
    unfolding get_processor
    get_adds number s m then_next r =
        either Q c ws m (nat_le number 4) (then_next (pointer number s) s) _ (λ yes. r _ s) (λ a.
        either Q c ws m (number == 18) (then_next (ipl_of s.core.psl) s) _ (λ yes. r _ s) (λ a.
        either Q c ws m (number == 21) (then_next s.core.sisr s) _ (λ yes. r _ s) (λ a.
        either Q c ws m (number == 24) (then_next s.core.iccs s) _ (λ yes. r _ s) (λ a.
        either Q c ws m (number == 32) (then_next (input_ready (next_input s)) s) _ (λ yes. r _ s) (λ a.
        either Q c ws m (number == 33) (then_next (input_byte (next_input s)) (input_after (next_input s) s)) _ (λ yes. r _ _) (λ a.
        either Q c ws m (number == 34) (then_next (2 ^ 7) s) (Raises exception.Operand) (λ yes. r _ s) (λ a. c.raises _ _ _)))))))

    system_adds : (i : System) (xs : List (Operand × ℕ)) (s : State) → Q ws (suc (suc n)) (of_systems i xs s next)
    unfolding of_systems return_exception probed asked status_set status_cleared
    system_adds system.Halt xs s = none_more _ (q _ s tt)
    system_adds system.NoOperation xs s = none_more _ (q flow.Done s tt)
    system_adds system.Breakpoint xs s = c.raises _ _ _
    system_adds system.Customer xs s = c.raises _ _ _
    system_adds system.Return xs s =
        read_adds Q c ws (suc n) _ 4 s _ (omega arith) (λ pc. read_adds Q c ws n _ 4 s _ (omega arith) (λ bits. return_from_adds pc _ s))
    system_adds (system.ChangeMode target) xs s = change_adds ws n _ (λ how t. q _ t (delivery_whole how)) target _ s
    system_adds (system.Probe writing) xs s = c.asks _ _ _ _ _ _ _ (λ first. c.asks _ _ _ _ _ _ _ (λ last. none_more _ (q flow.Done _ tt)))
    system_adds system.ToRegister xs s = none_more _ (set_adds _ _ _)
    system_adds system.FromRegister xs s = get_adds _ s _ _ (λ x t. two_more _ (stored_adds 4 _ (omega arith) _ t n _ (λ u. q flow.Done _ tt)))
    system_adds system.MoveStatus xs s = two_more _ (stored_adds 4 _ (omega arith) _ s n _ (λ t. q flow.Done t tt))
    system_adds system.SetStatus xs s = either Q c ws _ (not (value 0 xs / 2 ^ 8 == 0) || is_one (value 0 xs) 4) _ _ (λ yes. c.raises _ _ _) (λ allowed. none_more _ (q flow.Done _ tt))
    system_adds system.ClearStatus xs s = either Q c ws _ (not (value 0 xs / 2 ^ 8 == 0)) _ _ (λ yes. c.raises _ _ _) (λ allowed. none_more _ (q flow.Done _ tt))

    value_adds : (width : ℕ) → width ≤ 8 → (o : Operand) (s : State) (m : ℕ) (then_next : ℕ → State → Accesses Leaf) → ((x : ℕ) → Q ws m (then_next x s)) → Q ws (suc m) (value_at width o s then_next)
    unfolding value_at
    value_adds width few (operand.Memory addr) s m then_next r = read_adds Q c ws m addr width s _ (omega arith) r
    value_adds width few o s m then_next r = c.fewer ws m _ (r _)

    bits_add : (position size : ℕ) (base : Operand) (s : State) (m : ℕ) (then_next : List Bool → State → Accesses Leaf) → ((bits : List Bool) → Q ws m (then_next bits s)) → Q ws (suc m) (field_bits position size base s then_next)
    unfolding field_bits held
    bits_add position size base s m then_next r =
        either Q c ws _ (is_reserved_field position size base) _ _ (λ refused. c.raises _ _ _) (λ fine.
        either Q c ws _ (size == 0) _ _ (λ none. c.fewer ws m _ (r [])) (λ some.
        value_adds _ (few_held position size base fine) _ s m _ (λ x. r _)))

    put_adds : (h : Holder) → h.width ≤ 8 → (new bits : List Bool) (s : State) (m : ℕ) (then_next : State → Accesses Leaf) → ((t : State) → Q ws m (then_next t)) → Q ws (suc m) (put h new bits s then_next)
    unfolding put
    put_adds h few new bits s m then_next r = stored_adds h.width _ few h.place s m then_next r

    becoming_adds : (becomes : Option Bool) (h : Holder) → h.width ≤ 8 → (bits : List Bool) (s : State) (then_next : State → Accesses Leaf) → ((t : State) → Q ws n (then_next t)) → Q ws (suc n) (becoming becomes h bits s then_next)
    unfolding becoming
    becoming_adds None h few bits s then_next r = c.fewer ws n _ (r s)
    becoming_adds (Some bit) h few bits s then_next r = put_adds h few _ bits s n then_next r

    -- a field is read, and it or a result is written
    field_adds : (i : Field) (xs : List (Operand × ℕ)) (s : State) → Q ws (suc (suc n)) (of_fields i xs s next)
    unfolding of_fields extracted compared_field found inserted_field branched_on held
    field_adds (field_action.Extract signed) xs s = bits_add _ _ _ s (suc n) _ (λ bits. answered_adds 4 (omega arith) _ _ _ s)
    field_adds (field_action.Compare signed) xs s = c.fewer ws (suc n) _ (bits_add _ _ _ s n _ (λ bits. q flow.Done _ tt))
    field_adds field_action.Insert xs s =
        either Q c ws _ (is_reserved_field (value 1 xs) (value 2 xs) (place 3 xs)) _ _ (λ refused. c.raises _ _ _) (λ fine.
        let few = few_held (value 1 xs) (value 2 xs) (place 3 xs) fine in
        either Q c ws _ (value 2 xs == 0) _ _ (λ none. c.fewer ws (suc n) _ (c.fewer ws n _ (q flow.Done s tt))) (λ some.
        value_adds _ few _ s (suc n) _ (λ x. put_adds (holder (value 1 xs) (value 2 xs) (place 3 xs)) few _ _ s n _ (λ t. q flow.Done t tt))))
    field_adds (field_action.FindFirst set) xs s = bits_add _ _ _ s (suc n) _ (λ bits. answered_adds 4 (omega arith) _ _ _ s)
    field_adds (field_action.Branch set becomes) xs s =
        either Q c ws _ (is_reserved_field (value 0 xs) 1 (place 1 xs)) _ _ (λ refused. c.raises _ _ _) (λ fine.
        let few = few_held (value 0 xs) 1 (place 1 xs) fine in
        value_adds _ few _ s (suc n) _ (λ x. becoming_adds becomes (holder (value 0 xs) 1 (place 1 xs)) few _ s _ (λ t. q flow.Done _ tt)))

    -- the link from an entry is read and four longwords are written; or two links are read and three longwords are written
    queue_adds : (i : Queue) (xs : List (Operand × ℕ)) (s : State) → Q ws (suc (suc (suc (suc (suc n))))) (of_queues i xs s next)
    unfolding of_queues inserted removed aligned_sum
    queue_adds queue.Insert xs s =
        read_adds Q c ws _ _ 4 s _ (omega arith) (λ successor.
        write_adds Q c ws _ _ 4 _ s _ (omega arith) (write_adds Q c ws _ _ 4 _ s _ (omega arith) (write_adds Q c ws _ _ 4 _ s _ (omega arith) (
        write_adds Q c ws _ _ 4 _ s _ (omega arith) (q flow.Done _ tt)))))
    queue_adds queue.Remove xs s =
        read_adds Q c ws _ _ 4 s _ (omega arith) (λ successor. read_adds Q c ws _ _ 4 s _ (omega arith) (λ predecessor.
        write_adds Q c ws _ _ 4 _ s _ (omega arith) (write_adds Q c ws _ _ 4 _ s _ (omega arith) (
        stored_adds 4 _ (omega arith) _ s n _ (λ t. q flow.Done _ tt)))))
    queue_adds queue.AddAligned xs s =
        at_most Q c ws (suc n) _ _ (omega arith)
        (either Q c ws (suc n) (is_odd (place 1 xs)) _ _ (λ odd. c.raises _ _ _) (λ even. answered_adds 2 (omega arith) _ _ _ s))

    -- a frame lies in a window at the stack
    entered_frame : (window procedure mask arguments top : ℕ) (on_stack : Bool) (s : State) → IsTopNear top window 18 → Q (window ∷ ws) n (procedure_entered procedure mask arguments top on_stack s next)
    unfolding procedure_entered
    entered_frame window procedure mask arguments top on_stack s p =
        let few = few_framed mask (frame_word (top % 4) on_stack mask s.core.psl) s in
        pushes_add Q c window ws n _ _ s _ (top_fewer _ window 17 _ few (top_aligned top window 17 p)) (λ bottom. c.wider window ws n _ (q flow.Done (at_procedure procedure mask arguments bottom s) tt))

    mask_adds : (procedure : ℕ) (s : State) (m : ℕ) (then_next : ℕ → State → Accesses Leaf) → ((mask : ℕ) → Q ws m (then_next mask s)) → Q ws (suc m) (entry_mask procedure s then_next)
    unfolding entry_mask
    mask_adds procedure s m then_next r =
        read_adds Q c ws m _ 2 s _ (omega arith) (λ mask. either Q c ws m (field mask 12 2 == 0) (then_next mask s) _ (λ yes. r mask) (λ bad. c.raises _ _ _))

    arguments_add : (window : ℕ) (on_stack : Bool) (top : ℕ) (s : State) (then_next : ℕ → State → Accesses Leaf) → ((behind : ℕ) → Q (window ∷ ws) n (then_next behind s)) → Q (window ∷ ws) (suc n) (behind_arguments on_stack top s then_next)
    unfolding behind_arguments
    arguments_add window on_stack top s then_next r =
        either Q c _ (suc n) on_stack _ (then_next top s) (λ yes. read_adds Q c _ n _ 4 s _ (omega arith) (λ count. r _)) (λ none. c.fewer _ n _ (r _))

    unwound_adds : (word : ℕ) (s : State) → Q (register s 13 ∷ ws) (suc n) (unwound word s next)
    unfolding unwound restored
    unwound_adds word s =
        let few = few_named 12 (field word 16 12) in
        pops_add Q c _ ws (suc n) _ _ s _ (room_behind (register s 13) 8 _ (omega arith) (omega arith)) (λ values behind.
        arguments_add (register s 13) _ _ _ _ (λ top. c.wider (register s 13) ws n _ (q flow.Done _ tt)))

    call_adds : (i : Call) (xs : List (Operand × ℕ)) (s : State) → Q ws (suc (suc n)) (of_calls i xs s next)
    unfolding of_calls called_with_list called_with_stack procedure_return registers_pushed registers_popped saved restored
    call_adds call.WithList xs s =
        mask_adds _ s (suc n) _ (λ mask. c.opens _ ws n _ (entered_frame _ _ mask _ _ false s (top_here (register s 14) 18 (omega arith))))
    call_adds call.WithStack xs s =
        mask_adds _ s (suc n) _ (λ mask. c.opens _ ws n _ (
        one_adds Q c _ ws n _ _ s _ (below_within (register s 14) _ 18 (top_here (register s 14) 19 (omega arith))) (entered_frame _ _ mask _ _ true s (below_near (register s 14) _ 18 (top_here (register s 14) 19 (omega arith))))))
    call_adds call.Return xs s =
        c.opens (register s 13) ws (suc n) _ (
        read_within Q c (register s 13) ws (suc n) _ s _ (record { offset = 4; begins = refl; ends = omega arith }) (λ word.
        either Q c _ (suc n) (is_status word) _ _ (λ fine. unwound_adds word s) (λ bad. c.raises _ _ _)))
    call_adds call.PushRegisters xs s =
        let few = few_named 15 (value 0 xs) in
        two_more _ (c.opens _ ws n _ (pushes_add Q c _ ws n _ _ s _ (top_here (register s 14) _ (simp (length-map, length-reverse) (omega arith))) (λ top. c.wider _ ws n _ (q flow.Done _ tt))))
    call_adds call.PopRegisters xs s =
        let few = few_named 15 (value 0 xs) in
        two_more _ (c.opens (register s 14) ws n _ (pops_add Q c _ ws n _ _ s _ (room_here (register s 14) _ (omega arith)) (λ values behind. c.wider _ ws n _ (q flow.Done _ tt))))

  -- a whole instruction, whose operands lie in the window at PC or have ranges of their own
  module _ (w : ℕ) (ws : List ℕ) (n : ℕ) (next : Flow → State → Accesses Leaf) (q : (how : Flow) (t : State) → IsWhole how → Q (w ∷ ws) n (next how t)) where
    -- by what the instruction takes: the ranges of its operands, and those of its work
    listed_adds : (most m : ℕ) → most + m ≤ n + 13 → (kinds : List OperandKind) → AreModest most kinds → (s : State) (count : ℕ) → count ≤ 1 → IsPcNear s w count → (rest : List (Operand × ℕ) → State → Accesses Leaf) →
        ((xs : List (Operand × ℕ)) (t : State) → Q (w ∷ ws) m (rest xs t)) → (tree : Accesses Leaf) → tree ≡ next_operands kinds s rest → Q (w ∷ ws) (n + 13) tree
    listed_adds most m room kinds modest s count here p rest r tree takes =
        let few : costs kinds ≤ most = modest.few in
        let short : length kinds ≤ 6 = modest.short in
        subst (λ tree. Q (w ∷ ws) (n + 13) tree) (sym takes)
        (at_most Q c _ (costs kinds + m) _ _ (omega arith) (operands_add Q c w ws m kinds modest.wide s count (omega arith) p rest r))

    allowed_adds : (privileged : Bool) (s : State) (m : ℕ) (tree : Accesses Leaf) → Q (w ∷ ws) m tree → Q (w ∷ ws) m (unless_privileged privileged s tree)
    allowed_adds false s m tree r = r
    allowed_adds true s m tree r = either Q c _ m (mode s == 0) tree _ (λ kernel. r) (λ other. c.raises _ _ _)

    system_acts : (i : System) (s : State) (count : ℕ) → count ≤ 1 → IsPcNear s w count → Q (w ∷ ws) (n + 13) (system_performed i s next)
    system_acts i s count here p =
        subst (λ tree. Q (w ∷ ws) (n + 13) tree) (sym (system_takes i s next))
        (allowed_adds (is_for_kernel i) s _ _ (listed_adds 11 (suc (suc n)) (omega arith) (of_system i) (system_modest i) s count here p _ (λ xs t. system_adds (w ∷ ws) n next q i xs t) _ refl))

    -- an instruction that is no string instruction
    pub acted_adds : (a : Action) → is_string a ≡ false → (s : State) (count : ℕ) → count ≤ 1 → IsPcNear s w count → Q (w ∷ ws) (n + 13) (acted a s next)
    unfolding acted
    acted_adds (action.Integer i) other s count here p =
        listed_adds 11 (suc (suc n)) (omega arith) (of_integer i) (integer_modest i) s count here p _ (λ xs t. integer_adds (w ∷ ws) n next q i xs t) _ (integer_takes i s next)
    acted_adds (action.Control i) other s count here p =
        listed_adds 11 (suc (suc n)) (omega arith) (of_control i) (control_modest i) s count here p _ (λ xs t. control_adds (w ∷ ws) n next q i xs t) _ (control_takes i s next)
    acted_adds (action.Field i) other s count here p =
        listed_adds 11 (suc (suc n)) (omega arith) (of_field i) (field_modest i) s count here p _ (λ xs t. field_adds (w ∷ ws) n next q i xs t) _ (field_takes i s next)
    acted_adds (action.Call i) other s count here p =
        listed_adds 11 (suc (suc n)) (omega arith) (of_call i) (call_modest i) s count here p _ (λ xs t. call_adds (w ∷ ws) n next q i xs t) _ (call_takes i s next)
    acted_adds (action.Queue i) other s count here p =
        listed_adds 8 (suc (suc (suc (suc (suc n))))) (omega arith) (of_queue i) (queue_modest i) s count here p _ (λ xs t. queue_adds (w ∷ ws) n next q i xs t) _ (queue_takes i s next)
    acted_adds (action.System i) other s count here p = system_acts i s count here p
    acted_adds (action.Text i) other s count here p = absurd (cc)

    -- the first part of a string instruction has four windows for its work
    module _ (more : (opcode units : ℕ) (t : State) → Q (w ∷ ws) n (next (flow.More opcode units) t)) where
      acted_part_adds : (a : Action) (s : State) (count : ℕ) → count ≤ 1 → IsPcNear s w count → Q (w ∷ ws) (n + 13) (acted_part a s next)
      unfolding acted_part acted
      acted_part_adds (action.Text t) s count here p = listed_adds 9 (suc (suc (suc (suc n)))) (omega arith) (of_text t) (text_modest t) s count here p _ (λ xs u.
          first_by_adds Q c (w ∷ ws) n next (λ v. q flow.Done v tt) more t _ _) _ (part_takes t s next)
      acted_part_adds a s count here p = acted_adds a refl s count here p

      acted_part_if_adds : (a : Option Action) (s : State) (count : ℕ) → count ≤ 1 → IsPcNear s w count → Q (w ∷ ws) (n + 13) (acted_part_if a s next)
      unfolding acted_part_if
      acted_part_if_adds (Some a) s count here p = acted_part_adds a s count here p
      acted_part_if_adds None s count here p = c.raises _ _ _

  first_part_adds : (ws : List ℕ) (n : ℕ) (next : Flow → State → Accesses Leaf) → ((how : Flow) (t : State) → IsWhole how → Q ws n (next how t)) → ((opcode units : ℕ) (t : State) → Q ws n (next (flow.More opcode units) t)) → (s : State) → Q ws (suc (n + 13)) (first_part s next)
  unfolding first_part
  first_part_adds ws n next q more s =
      c.opens (register s 15) ws (n + 13) _
      (fetched_adds Q c (register s 15) ws (n + 13) 1 0 s _ (omega arith) (omega arith) (near_here s) (λ opcode t near.
      acted_part_if_adds (register s 15) ws n next (λ how u whole. c.wider _ ws n _ (q how u whole)) (λ o units u. c.wider _ ws n _ (more o units u)) (action_of opcode) t (0 + 1) (omega arith) near))

  pub interrupt_begins : (ws : List ℕ) (n : ℕ) (next : Flow → State → Accesses Leaf) → ((how : Flow) (t : State) → IsWhole how → Q ws n (next how t)) → (level : ℕ) (s : State) → Q ws (suc (suc n)) (interrupt level s (λ how s. next (flow_of_delivery how) s))
  interrupt_begins ws n next q level s = interrupt_adds ws n _ (λ how t. q (flow_of_delivery how) t (delivery_whole how)) level s

  begun_part_adds : (ws : List ℕ) (n : ℕ) (next : Flow → State → Accesses Leaf) → ((how : Flow) (t : State) → IsWhole how → Q ws n (next how t)) → ((opcode units : ℕ) (t : State) → Q ws n (next (flow.More opcode units) t)) → (s : State) → Q ws (suc (n + 13)) (begun_part s next)
  unfolding begun_part
  begun_part_adds ws n next q more s =
      either Q c ws _ (nat_lt (priority s) (level s.core)) _ _
      (λ asks. at_most Q c ws (suc (suc n)) _ _ (omega arith) (interrupt_begins ws n next q (level s.core) s))
      (λ quiet. first_part_adds ws n next q more s)

  handed_adds : (ws : List ℕ) (n : ℕ) (next : Flow → State → Accesses Leaf) → ((how : Flow) (t : State) → IsWhole how → Q ws n (next how t)) → (how : Delivery) (s : State) → Q ws n (handed_over how s next)
  unfolding handed_over
  handed_adds ws n next q Entered s = q flow.Done _ tt
  handed_adds ws n next q (Ended e) s = q (flow.Ended e) s tt

  pub finished_adds : (ws : List ℕ) (n : ℕ) (next : Flow → State → Accesses Leaf) → ((how : Flow) (t : State) → IsWhole how → Q ws n (next how t)) → (how : Flow) (s : State) → IsWhole how → Q ws (suc (suc n)) (finished how s next)
  unfolding finished
  finished_adds ws n next q flow.Done s h = c.fewer ws (suc n) _ (c.fewer ws n _ (q flow.Done _ tt))
  finished_adds ws n next q flow.Clocked s h = c.fewer ws (suc n) _ (c.fewer ws n _ (q flow.Done _ tt))
  finished_adds ws n next q (flow.Trap kind) s h = delivery_adds ws n _ (λ how t. handed_adds ws n next q how t) _ s
  finished_adds ws n next q (flow.More opcode units) s h = absurd h
  finished_adds ws n next q (flow.Ended e) s h = c.fewer ws (suc n) _ (c.fewer ws n _ (q _ s tt))

  left_adds : (ws : List ℕ) (n : ℕ) (next : Flow → State → Accesses Leaf) → ((opcode units : ℕ) (t : State) → Q ws n (next (flow.More opcode units) t)) → (opcode units : ℕ) (s : State) → Q ws (suc (suc n)) (finished (flow.More opcode units) s next)
  unfolding finished
  left_adds ws n next more opcode units s = c.fewer ws (suc n) _ (c.fewer ws n _ (more opcode units s))

  -- the first part of a step up to its exception, a later part, and the delivery of an exception
  pub part_adds : (ws : List ℕ) (n : ℕ) (next : Flow → State → Accesses Leaf) → ((how : Flow) (t : State) → IsWhole how → Q ws n (next how t)) → ((opcode units : ℕ) (t : State) → Q ws n (next (flow.More opcode units) t)) → (s : State) → Q ws (suc (suc (suc n) + 13)) (part s next)
  unfolding part
  part_adds ws n next q more s = begun_part_adds ws (suc (suc n)) _ (λ how t h. finished_adds ws n next q how t h) (λ opcode units t. left_adds ws n next more opcode units t) s

  pub later_adds : (ws : List ℕ) (n : ℕ) (next : Flow → State → Accesses Leaf) → ((how : Flow) (t : State) → IsWhole how → Q ws n (next how t)) → ((opcode units : ℕ) (t : State) → Q ws n (next (flow.More opcode units) t)) → (opcode : ℕ) (s : State) → Q ws (suc (suc (suc (suc (suc (suc n)))))) (later opcode s next)
  unfolding later
  later_adds ws n next q more opcode s =
      resumed_adds Q c ws (suc (suc n)) _ (λ t. finished_adds ws n next q flow.Done t tt) (λ o units t. left_adds ws n next more o units t) opcode s

  pub delivered_adds : (ws : List ℕ) (n : ℕ) (next : Flow → State → Accesses Leaf) → ((how : Flow) (t : State) → IsWhole how → Q ws n (next how t)) → (e : Exception) (s : State) → Q ws (suc (suc n)) (delivered e s next)
  unfolding delivered
  delivered_adds ws n next q e s = delivery_adds ws n _ (λ how t. handed_adds ws n next q how t) e s

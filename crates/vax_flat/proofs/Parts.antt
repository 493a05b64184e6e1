-- A step in parts is the step.
use Rattle.std.proofs.Common.{◌≡◌, ℕ, zero, suc, ◌<◌, Bool, true, false, Option, Some, None, List, [], ◌∷◌, slice_index, slice_set, refl, sym, ap, subst, ◌∙◌, arith}
use Rattle.std.specs.Prelude.{nat_lt, if◌then◌else◌}
use Rattle.vax_word.specs.declared.Core.{Core}
use Rattle.vax_space.specs.declared.Access.TheVariants.{Read}
use Rattle.vax_space.specs.declared.Area.{Area}
use Rattle.vax_space.specs.declared.Violation.{Violation}
use Rattle.vax_space.specs.Reference.{violation}
use Rattle.vax_isa.specs.declared.actions.Action.{Action}
use Rattle.vax_isa.specs.declared.actions.Action.TheVariants as action
use Rattle.vax_isa.specs.declared.actions.Text.{Text}
use Rattle.vax_isa.specs.Rows.{action_of}
use Rattle.vax_strpart.specs.declared.packing.Progress.{Progress}
use Rattle.vax_strpart.specs.Packing.{packed, unpacked, IsProper}
use Rattle.vax_flat.specs.declared.Exception.TheVariants as exception
use Rattle.vax_flat.specs.declared.Flow.{Flow}
use Rattle.vax_flat.specs.declared.Flow.TheVariants as flow
use Rattle.vax_flat.specs.Memory.{byte_at, number}
use Rattle.vax_flat.specs.State.{State, mode, priority, register}
use Rattle.vax_flat.specs.Accesses.{Accesses, Leaf, Went, Found}
use Rattle.vax_flat.specs.Outcome.{Outcome, Ends, Raised, outcome_of, unless_violated}
use Rattle.vax_flat.specs.Operand.{plus, read_at, fetched}
use Rattle.vax_flat.specs.Delivery.{interrupt}
use Rattle.vax_flat.specs.System.{flow_of_delivery}
use Rattle.vax_flat.specs.Instruction.{acted, acted_if, acted_part, acted_part_if, instruction, first_part}
use Rattle.vax_flat.specs.Step.{Flat, state_of, level, begun, whole, whole_step, leaf, step, step_from, after_instruction}
use Rattle.vax_flat.specs.String.{low_registers, suspended, from_registers, IsReady}
use Rattle.vax_flat.specs.StringAgree.{and_rest}
use Rattle.vax_flat.specs.StringParts.{remaining, remaining_in, resumed}
use Rattle.vax_flat.specs.Parts.{Partway, Place, At, Within, Completes, Leaves, GoesBy, begun_part, part, later, left_by, after_part, partway, outcome_at, Turn, turn, turn_from, units_after}
use Rattle.vax_flat.specs.Bound.{IsWhole, LeavesNoPart, is_string}
use Rattle.vax_flat.proofs.Closed.{leaves_no_part}
use Rattle.vax_flat.proofs.Windows.{near_here}
use Rattle.vax_flat.proofs.Bounds.{acted_adds, interrupt_begins, finished_adds}
use Rattle.vax_flat.proofs.Steps.{whole_leaf}
use Rattle.vax_flat.proofs.Readings.{IsAtAddress, set_read, with_regs}
use Rattle.vax_flat.proofs.StringState.{unpacked_suspended}
use Rattle.vax_flat.proofs.StringGoing.{Family, only_reads, IsSound, Goes, Completed, Leaving, Failing, fin, later_of, all_of, part_of, agrees}
use Rattle.vax_flat.proofs.Suspended.{suspended_kept, state_there, kept_low, on, by_registers, sound_on, ready_on, later_part, later_goes}
use Rattle.vax_flat.proofs.StringBeginning.{family_of, opcode_of, resumed_is, Begins, Stopping, Going, TextBegins, Unread, Read as IsRead, text_begins}

-- The string instruction of this machine is left here: the machine with a progress in its registers. The whole step comes to what remains.
pub record IsOpen (m : Flat) (opcode : ℕ) (start : Core) (now : Flat) : Type 0 where
  pub text : Text
  pub rest : Progress
  pub state : State
  pub is_opcode : opcode ≡ rest.op
  pub is_text : rest.op ≡ opcode_of text
  pub ready : IsReady state
  pub sound : IsSound (family_of text) rest state now.memory
  pub registers : now ≡ record m { core = (suspended rest state).core; memory = now.memory }
  pub here : state_of now ≡ suspended rest state
  pub begun : start ≡ m.core
  pub kept : only_reads (family_of text) ≡ true → now.memory ≡ m.memory
  pub same : outcome_of (whole_step (state_of m)) m.memory ≡ outcome_of (from_registers rest.op (all_of (family_of text)) (suspended rest state) fin) now.memory

-- the first part of a step, beside the whole: both are one and leave nothing, or the part leaves what remains
pub data IsFirst (m : Flat) (whole : Outcome Leaf) : Outcome Leaf → Type 0 where
  Same : (o : Outcome Leaf) → LeavesNoPart o → whole ≡ o → IsFirst m whole o
  Opens : (t : Text) (q : Progress) (units : ℕ) (u : State) (memory : List Area) → q.op ≡ opcode_of t → IsReady u → IsSound (family_of t) q u memory → u.input ≡ m.input → u.taken ≡ m.taken → u.sent ≡ None →
      (only_reads (family_of t) ≡ true → memory ≡ m.memory) → whole ≡ outcome_of (from_registers q.op (all_of (family_of t)) (suspended q u) fin) memory → IsFirst m whole (Ends (Went (flow.More q.op units) (suspended q u)) memory)

-- what follows an instruction that leaves no part leaves none
fin_whole : (ws : List ℕ) (how : Flow) (t : State) → IsWhole how → (memory : List Area) → LeavesNoPart (outcome_of (fin how t) memory)
fin_whole ws how t h memory = finished_adds _ leaves_no_part ws 0 leaf whole_leaf how t h memory

same_act : (a : Action) → is_string a ≡ false → (s : State) (next : Flow → State → Accesses Leaf) → acted_part a s next ≡ acted a s next
unfolding acted acted_part
same_act (action.Integer i) other s next = refl
same_act (action.Control c) other s next = refl
same_act (action.Field f) other s next = refl
same_act (action.Call c) other s next = refl
same_act (action.Queue q) other s next = refl
same_act (action.System i) other s next = refl
same_act (action.Text t) other s next = absurd (cc)

act_leaves : (a : Action) → is_string a ≡ false → (s : State) (memory : List Area) → LeavesNoPart (outcome_of (acted a s fin) memory)
act_leaves a other s memory = acted_adds _ leaves_no_part (register s 15) [] 2 fin (λ how t h m. fin_whole (register s 15 ∷ []) how t h m) a other s 0 (omega arith) (near_here s) memory

module _ (m : Flat) where
  begins_first : (t : Text) (p : Progress) (u : State) (whole part : Outcome Leaf) → p.op ≡ opcode_of t → IsReady u → u.input ≡ m.input → u.taken ≡ m.taken → u.sent ≡ None →
      Begins (family_of t) p u m.memory part → whole ≡ and_rest (λ v. from_registers p.op (all_of (family_of t)) v fin) part → IsFirst m whole part
  begins_first t p u whole part op ready input taken sent (Stopping e) same = Same (Raised e) tt same
  begins_first t p u whole part op ready input taken sent (Going o (Completed v memory)) same = Same (Ends (Went flow.Done v) memory) tt same
  begins_first t p u whole part op ready input taken sent (Going o (Failing e reads)) same = Same (Raised e) tt same
  begins_first t p u whole part op ready input taken sent (Going o (Leaving q units memory is sound kept less)) same =
      Opens t q units u memory (is ∙ op) ready sound input taken sent kept
      (same ∙ ap (λ opcode. outcome_of (from_registers opcode (all_of (family_of t)) (suspended q u) fin) memory) (sym is))

  text_first : (t : Text) (regs : List ℕ) (whole part : Outcome Leaf) → TextBegins t (state_of m) m.memory whole part → IsFirst m whole part
  text_first t regs whole part (Unread e w p) = subst (IsFirst m whole) (sym p) (Same (Raised e) tt w)
  text_first t regs whole part (IsRead p more ready fresh s) = begins_first t p _ whole part fresh.op ready refl refl refl s.begins_so s.same

  text_act : (t : Text) (regs : List ℕ) → IsAtAddress regs → IsFirst m (outcome_of (acted (action.Text t) (with_regs (state_of m) regs) fin) m.memory) (outcome_of (acted_part (action.Text t) (with_regs (state_of m) regs) fin) m.memory)
  unfolding acted acted_part
  text_act t regs good = text_first t regs _ _ (text_begins t (state_of m) m.memory regs good)

  other_act : (a : Action) → is_string a ≡ false → (regs : List ℕ) → IsFirst m (outcome_of (acted a (with_regs (state_of m) regs) fin) m.memory) (outcome_of (acted_part a (with_regs (state_of m) regs) fin) m.memory)
  other_act a other regs =
      subst (λ tree. IsFirst m (outcome_of (acted a (with_regs (state_of m) regs) fin) m.memory) (outcome_of tree m.memory)) (sym (same_act a other (with_regs (state_of m) regs) fin)) (Same _ (act_leaves a other _ m.memory) refl)

  act_first : (a : Action) (regs : List ℕ) → IsAtAddress regs → IsFirst m (outcome_of (acted a (with_regs (state_of m) regs) fin) m.memory) (outcome_of (acted_part a (with_regs (state_of m) regs) fin) m.memory)
  act_first (action.Integer i) regs good = other_act (action.Integer i) refl regs
  act_first (action.Control c) regs good = other_act (action.Control c) refl regs
  act_first (action.Field f) regs good = other_act (action.Field f) refl regs
  act_first (action.Call c) regs good = other_act (action.Call c) refl regs
  act_first (action.Queue q) regs good = other_act (action.Queue q) refl regs
  act_first (action.System i) regs good = other_act (action.System i) refl regs
  act_first (action.Text t) regs good = text_act t regs good

  act_if_first : (a : Option Action) (regs : List ℕ) → IsAtAddress regs → IsFirst m (outcome_of (acted_if a (with_regs (state_of m) regs) fin) m.memory) (outcome_of (acted_part_if a (with_regs (state_of m) regs) fin) m.memory)
  unfolding acted_if acted_part_if outcome_of
  act_if_first (Some a) regs good = act_first a regs good
  act_if_first None regs good = Same (Raised exception.Privileged) tt refl

  -- behind the opcode
  abbrev from_violation : (ℕ → State → Accesses Leaf) → Option Violation → Outcome Leaf
  from_violation next v = unless_violated v (outcome_of (next (number (byte_at m.memory) (slice_index m.core.regs 15) 1) (with_regs (state_of m) (slice_set m.core.regs 15 (plus (slice_index m.core.regs 15) 1)))) m.memory)

  fetched_is : (next : ℕ → State → Accesses Leaf) → outcome_of (fetched 1 (state_of m) next) m.memory ≡ from_violation next (violation m.memory (slice_index m.core.regs 15) 1 (mode (state_of m)) Read)
  unfolding fetched read_at outcome_of
  fetched_is next = refl

  opcode_past : IsAtAddress (slice_set m.core.regs 15 (plus (slice_index m.core.regs 15) 1))
  opcode_past = record { pc = set_read m.core.regs 15 (plus (slice_index m.core.regs 15) 1) (omega arith) }

  instruction_first : IsFirst m (outcome_of (instruction (state_of m) fin) m.memory) (outcome_of (first_part (state_of m) fin) m.memory)
  unfolding instruction first_part
  instruction_first = rw (fetched_is (λ opcode s. acted_if (action_of opcode) s fin), fetched_is (λ opcode s. acted_part_if (action_of opcode) s fin)) (by (violation m.memory (slice_index m.core.regs 15) 1 (mode (state_of m)) Read))
    where
      by : (v : Option Violation) → IsFirst m (from_violation (λ opcode s. acted_if (action_of opcode) s fin) v) (from_violation (λ opcode s. acted_part_if (action_of opcode) s fin) v)
      by (Some v) = Same (Raised (exception.Access v)) tt refl
      by None = act_if_first (action_of (number (byte_at m.memory) (slice_index m.core.regs 15) 1)) _ opcode_past

  interrupt_first : (o : Outcome Leaf) → o ≡ outcome_of (interrupt (level m.core) (state_of m) (λ how s. fin (flow_of_delivery how) s)) m.memory → IsFirst m o o
  interrupt_first o is = Same o (subst LeavesNoPart (sym is) (interrupt_begins _ leaves_no_part [] 2 fin (λ how t h memory. fin_whole [] how t h memory) (level m.core) (state_of m) m.memory)) refl

  first_is : IsFirst m (outcome_of (whole_step (state_of m)) m.memory) (outcome_at (At m))
  unfolding whole begun part begun_part
  first_is = by (nat_lt (priority (state_of m)) (level m.core))
    where
      by : (b : Bool) → IsFirst m (outcome_of (if b then interrupt (level m.core) (state_of m) (λ how s. fin (flow_of_delivery how) s) else instruction (state_of m) fin) m.memory) (outcome_of (if b then interrupt (level m.core) (state_of m) (λ how s. fin (flow_of_delivery how) s) else first_part (state_of m) fin) m.memory)
      by true = interrupt_first _ refl
      by false = instruction_first

-- the whole from registers that were left is the next part, and the whole behind it
rest_agrees : (f : Family) (q : Progress) (u : State) (memory : List Area) (ready : IsReady u) (sound : IsSound f q u memory) → outcome_of (from_registers q.op (all_of f) (suspended q u) fin) memory ≡ and_rest (λ v. from_registers q.op (all_of f) v fin) (outcome_of (part_of f q (on f q u memory ready sound) fin) memory)
rest_agrees f q u memory ready sound =
    ap (λ tree. outcome_of tree memory) (by_registers f q u memory ready sound (all_of f)) ∙ agrees f q (on f q u memory ready sound) memory (ready_on f q u memory ready sound) (sound_on f q u memory ready sound)

abbrev left_there : Flat → Progress → State → ℕ → List Area → Partway
left_there m q u units memory = record {
  opcode = q.op;
  start = m.core;
  units = units;
  now = record m { core = (suspended q u).core; memory = memory; taken = (suspended q u).taken };
}

module _ (m : Flat) where
  -- the same instruction is open with this progress
  opened : (t : Text) (q : Progress) (u : State) (units : ℕ) (memory : List Area) → q.op ≡ opcode_of t → IsReady u → IsSound (family_of t) q u memory → u.input ≡ m.input → u.taken ≡ m.taken → u.sent ≡ None →
      (only_reads (family_of t) ≡ true → memory ≡ m.memory) → outcome_of (whole_step (state_of m)) m.memory ≡ outcome_of (from_registers q.op (all_of (family_of t)) (suspended q u) fin) memory →
      IsOpen m (left_there m q u units memory).opcode (left_there m q u units memory).start (left_there m q u units memory).now
  opened t q u units memory is_text ready sound input taken sent kept same =
      let s = suspended_kept q u in record {
        text = t;
        rest = q;
        state = u;
        is_opcode = refl;
        is_text = is_text;
        ready = ready;
        sound = sound;
        registers = λ k. record m { core = (suspended q u).core; memory = memory; taken = (s.1 ∙ taken) k };
        here = state_there m (suspended q u) memory (s.0 ∙ input) (s.2 ∙ sent);
        begun = refl;
        kept = kept;
        same = same;
      }

  completes : (n : Flat) (units : ℕ) (outcome : Outcome Leaf) → LeavesNoPart outcome → turn_from n units outcome ≡ Completes (after_instruction n outcome)
  completes n units (Ends (Went flow.Done s) memory) h = refl
  completes n units (Ends (Went flow.Clocked s) memory) h = refl
  completes n units (Ends (Went (flow.Trap kind) s) memory) h = refl
  completes n units (Ends (Went (flow.More opcode more) s) memory) h = absurd h
  completes n units (Ends (Went (flow.Ended e) s) memory) h = refl
  completes n units (Ends (Found operand s) memory) h = refl
  completes n units (Raised e) h = refl

  abbrev whole_outcome : Outcome Leaf
  whole_outcome = outcome_of (whole_step (state_of m)) m.memory

  step_is : m.ending ≡ None → step m ≡ after_instruction m whole_outcome
  step_is running = ap (λ e. step_from e m) running

  abbrev machine_of : Turn → Flat → Flat
  machine_of (Completes n) other = n
  machine_of (Leaves p) other = other

  -- the first part
  first_completes : (o : Outcome Leaf) → IsFirst m whole_outcome o → (next : Flat) → m.ending ≡ None → turn_from m 0 o ≡ Completes next → step m ≡ next
  first_completes o (Same x none is) next running e =
      step_is running ∙ (ap (after_instruction m) is ∙ ap (λ t. machine_of t m) (sym (completes m 0 x none) ∙ e))
  first_completes o (Opens t q units u memory is_text ready sound input taken sent kept same) next running e = absurd (cc)

  first_opens : (o : Outcome Leaf) → IsFirst m whole_outcome o → (p : Partway) → left_by (turn_from m 0 o) ≡ Some p → IsOpen m p.opcode p.start p.now
  first_opens o (Same x none is) p e =
      let no : None ≡ Some p = sym (ap left_by (completes m 0 x none)) ∙ e in absurd (cc)
  first_opens o (Opens t q units u memory is_text ready sound input taken sent kept same) p e =
      let is : left_there m q u (units_after 0 units) memory ≡ p = cc in
      subst (λ x. IsOpen m x.opcode x.start x.now) is (opened t q u (units_after 0 units) memory is_text ready sound input taken sent kept same)

  -- a later part
  back_is : (now : Flat) (start core : Core) → now ≡ record m { core = core; memory = now.memory } → start ≡ m.core → record now { core = start } ≡ record m { memory = now.memory }
  back_is now start core is begun k = record {
    core = begun k;
    memory = now.memory;
    input = ap (λ n. n.input) is k;
    taken = ap (λ n. n.taken) is k;
    output = ap (λ n. n.output) is k;
    ending = ap (λ n. n.ending) is k;
  }

  module _ (p : Partway) (o : IsOpen m p.opcode p.start p.now) where
    abbrev f : Family
    f = family_of o.text

    abbrev here : State
    here = on f o.rest o.state p.now.memory o.ready o.sound

    later_outcome : outcome_at (Within p) ≡ outcome_of (part_of f o.rest here fin) p.now.memory
    unfolding later
    later_outcome =
        ap (λ opcode. outcome_of (resumed opcode (state_of p.now) fin) p.now.memory) (o.is_opcode ∙ o.is_text)
        ∙ (ap (λ tree. outcome_of tree p.now.memory) (resumed_is o.text (state_of p.now) fin)
        ∙ (ap (λ opcode. outcome_of (from_registers opcode (later_of f) (state_of p.now) fin) p.now.memory) (sym o.is_text)
        ∙ (ap (λ s. outcome_of (from_registers o.rest.op (later_of f) s fin) p.now.memory) o.here
        ∙ later_part f o.rest o.state p.now.memory o.ready o.sound)))

    abbrev back : Flat
    back = record m { memory = p.now.memory }

    later_turn : turn (Within p) ≡ turn_from back p.units (outcome_of (part_of f o.rest here fin) p.now.memory)
    later_turn = ap (λ n. turn_from n p.units (outcome_at (Within p))) (back_is p.now p.start _ o.registers o.begun) ∙ ap (turn_from back p.units) later_outcome

    whole_is : (outcome : Outcome Leaf) → outcome_of (part_of f o.rest here fin) p.now.memory ≡ outcome → whole_outcome ≡ and_rest (λ v. from_registers o.rest.op (all_of f) v fin) outcome
    whole_is outcome is = o.same ∙ (rest_agrees f o.rest o.state p.now.memory o.ready o.sound ∙ ap (and_rest (λ v. from_registers o.rest.op (all_of f) v fin)) is)

    later_completes : (outcome : Outcome Leaf) → Goes f o.rest here p.now.memory outcome → outcome_of (part_of f o.rest here fin) p.now.memory ≡ outcome → (next : Flat) → m.ending ≡ None → turn_from back p.units outcome ≡ Completes next → step m ≡ next
    later_completes outcome (Completed t memory) is next running e =
        step_is running ∙ (ap (after_instruction m) (whole_is outcome is) ∙ ap (λ x. machine_of x m) e)
    later_completes outcome (Leaving q units memory same sound kept less) is next running e = absurd (cc)
    later_completes outcome (Failing x reads) is next running e =
        let there : back ≡ m = ap (λ memory. record m { memory = memory }) (o.kept reads) in
        step_is running
        ∙ (ap (after_instruction m) (whole_is outcome is)
        ∙ (ap (λ n. after_instruction n (Raised x)) (sym there) ∙ ap (λ t. machine_of t m) e))

    later_opens : (outcome : Outcome Leaf) → Goes f o.rest here p.now.memory outcome → outcome_of (part_of f o.rest here fin) p.now.memory ≡ outcome → (next : Partway) → left_by (turn_from back p.units outcome) ≡ Some next → IsOpen m next.opcode next.start next.now
    later_opens outcome (Completed t memory) is next e = absurd (cc)
    later_opens outcome (Failing x reads) is next e = absurd (cc)
    later_opens outcome (Leaving q units memory same sound kept less) is next e =
        let there : left_there m q here (units_after p.units units) memory ≡ next = cc in
        let k = kept_low (packed o.rest (low_registers o.state)) o.state in
        let s = suspended_kept o.rest o.state in
        let input : o.state.input ≡ m.input = sym s.0 ∙ (sym (ap (λ x. x.input) o.here) ∙ ap (λ n. n.input) o.registers) in
        let taken : o.state.taken ≡ m.taken = sym s.1 ∙ (sym (ap (λ x. x.taken) o.here) ∙ ap (λ n. n.taken) o.registers) in
        let sent : o.state.sent ≡ None = sym s.2 ∙ sym (ap (λ x. x.sent) o.here) in
        subst (λ x. IsOpen m x.opcode x.start x.now) there
        (opened o.text q here (units_after p.units units) memory (same ∙ o.is_text) (ready_on f o.rest o.state p.now.memory o.ready o.sound) sound (k.0 ∙ input) (k.1 ∙ taken) (k.2 ∙ sent)
        (λ reads. kept reads ∙ o.kept reads)
        (whole_is outcome is ∙ ap (λ opcode. outcome_of (from_registers opcode (all_of f) (suspended q here) fin) memory) (sym same)))

  open_after : (count : ℕ) (p : Partway) → partway count m ≡ Some p → IsOpen m p.opcode p.start p.now
  unfolding partway
  open_after zero p e = first_opens (outcome_at (At m)) (first_is m) p e
  open_after (suc count) p e = by (partway count m) (λ q is. open_after count q is) e
    where
      by : (before : Option Partway) → ((q : Partway) → before ≡ Some q → IsOpen m q.opcode q.start q.now) → after_part before ≡ Some p → IsOpen m p.opcode p.start p.now
      by None open_before e = absurd (cc)
      by (Some q) open_before e =
          let o = open_before q refl in
          later_opens q o (outcome_of (part_of (family_of o.text) o.rest (on (family_of o.text) o.rest o.state q.now.memory o.ready o.sound) fin) q.now.memory)
          (later_goes (family_of o.text) o.rest o.state q.now.memory o.ready o.sound) refl p (sym (ap left_by (later_turn q o)) ∙ e)

-- what remains, by the registers
low_of : (s : State) → low_registers (record { core = s.core; input = []; taken = 0; sent = None }) ≡ low_registers s
unfolding low_registers
low_of s = refl

remains : (q : Progress) (u : State) → IsReady u → IsProper q → remaining_in q.op (suspended q u).core ≡ remaining q
remains q u ready proper = ap (λ xs. remaining (unpacked q.op xs)) (low_of (suspended q u)) ∙ ap remaining (unpacked_suspended q u ready.full proper)

module _ (m : Flat) (p : Partway) (o : IsOpen m p.opcode p.start p.now) where
  remains_there : remaining_in p.opcode p.now.core ≡ remaining o.rest
  remains_there =
      ap (λ opcode. remaining_in opcode p.now.core) o.is_opcode
      ∙ (ap (λ (s : State). remaining_in o.rest.op s.core) o.here ∙ remains o.rest o.state o.ready o.sound.proper)

  leaves_less : (outcome : Outcome Leaf) → Goes (family_of o.text) o.rest (on (family_of o.text) o.rest o.state p.now.memory o.ready o.sound) p.now.memory outcome → (next : Partway) → turn_from (record m { memory = p.now.memory }) p.units outcome ≡ Leaves next →
      remaining_in next.opcode next.now.core < remaining_in p.opcode p.now.core
  leaves_less outcome (Completed t memory) next e = absurd (cc)
  leaves_less outcome (Failing x reads) next e = absurd (cc)
  leaves_less outcome (Leaving q units memory same sound kept less) next e =
      let here = on (family_of o.text) o.rest o.state p.now.memory o.ready o.sound in
      let there : left_there m q here (units_after p.units units) memory ≡ next = cc in
      let after : remaining_in q.op (suspended q here).core ≡ remaining q = remains q here (ready_on (family_of o.text) o.rest o.state p.now.memory o.ready o.sound) sound.proper in
      let before = remains_there in
      subst (λ (x : Partway). remaining_in x.opcode x.now.core < remaining_in p.opcode p.now.core) there (subst (λ n. n < remaining_in p.opcode p.now.core) (sym after) (subst (λ n. remaining q < n) (sym before) less))

pub parts_less : (m : Flat) (p next : Partway) → GoesBy m (Within p) → turn (Within p) ≡ Leaves next → remaining_in next.opcode next.now.core < remaining_in p.opcode p.now.core
parts_less m p next by is =
    let o = open_after m by.0 p by.1 in
    leaves_less m p o (outcome_of (part_of (family_of o.text) o.rest (on (family_of o.text) o.rest o.state p.now.memory o.ready o.sound) fin) p.now.memory)
    (later_goes (family_of o.text) o.rest o.state p.now.memory o.ready o.sound) next (sym (later_turn m p o) ∙ is)

-- whatever the number of its parts, a step in parts comes to the step
pub turns_agree : (m : Flat) (place : Place) (next : Flat) → m.ending ≡ None → GoesBy m place → turn place ≡ Completes next → step m ≡ next
turns_agree m (At n) next running same is =
    first_completes m (outcome_at (At m)) (first_is m) next running (ap (λ x. turn (At x)) (sym same) ∙ is)
turns_agree m (Within p) next running by is =
    let o = open_after m by.0 p by.1 in
    later_completes m p o (outcome_of (part_of (family_of o.text) o.rest (on (family_of o.text) o.rest o.state p.now.memory o.ready o.sound) fin) p.now.memory) (later_goes (family_of o.text) o.rest o.state p.now.memory o.ready o.sound) refl next running (sym (later_turn m p o) ∙ is)

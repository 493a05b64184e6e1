-- At every place within a step the units that are done and those that are left come to the same.
use Rattle.std.proofs.Common.{◌≡◌, ℕ, ◌+◌, ◌<◌, ◌≤◌, ◌^◌, ◌||◌, Bool, true, false, Option, Some, None, List, [], ◌∷◌, slice_index, slice_set, refl, sym, ap, subst, ◌∙◌, inl, inr, arith}
use Rattle.std.specs.Prelude.{if◌then◌else◌}
use Rattle.std.proofs.lemmas.Bool.{cases_Bool}
use Rattle.vax_space.specs.declared.Access.TheVariants.{Read}
use Rattle.vax_space.specs.declared.Area.{Area}
use Rattle.vax_space.specs.declared.Violation.{Violation}
use Rattle.vax_space.specs.Reference.{violation}
use Rattle.vax_isa.specs.declared.actions.Action.{Action}
use Rattle.vax_isa.specs.declared.actions.Action.TheVariants as action
use Rattle.vax_isa.specs.declared.actions.Text.{Text}
use Rattle.vax_isa.specs.declared.actions.Text.TheVariants as text
use Rattle.vax_isa.specs.Actions.{of_text}
use Rattle.vax_isa.specs.Rows.{action_of}
use Rattle.vax_strpart.specs.declared.packing.Progress.{Progress}
use Rattle.vax_flat.specs.declared.Exception.TheVariants as exception
use Rattle.vax_flat.specs.declared.Flow.{Flow}
use Rattle.vax_flat.specs.declared.Flow.TheVariants as flow
use Rattle.vax_flat.specs.Memory.{byte_at, number}
use Rattle.vax_flat.specs.State.{State, mode, register}
use Rattle.vax_flat.specs.Accesses.{Accesses, Leaf, Went}
use Rattle.vax_flat.specs.Evaluation.{taken, next_operands}
use Rattle.vax_flat.specs.Outcome.{Outcome, Ends, Raised, outcome_of, unless_violated}
use Rattle.vax_flat.specs.Operand.{plus, read_at, fetched}
use Rattle.vax_flat.specs.Delivery.{interrupt}
use Rattle.vax_flat.specs.Rows.{read_value, address_value}
use Rattle.vax_flat.specs.System.{flow_of_delivery}
use Rattle.vax_flat.specs.Instruction.{acted, acted_part, acted_part_if, first_part}
use Rattle.vax_flat.specs.Step.{Flat, state_of, level, leaf}
use Rattle.vax_flat.specs.String.{suspended, IsReady}
use Rattle.vax_flat.specs.StringOperands as operands
use Rattle.vax_flat.specs.StringOperands.{begun, search_operands, scan_operands, equal_operands, filled_operands, translated_operands, match_operands, next_word, next_byte, next_longword}
use Rattle.vax_flat.specs.StringParts.{text_part}
use Rattle.vax_flat.specs.Parts.{At, begun_part, part, outcome_at}
use Rattle.vax_flat.specs.Bound.{IsWhole, LeavesNoPart, is_string}
use Rattle.vax_flat.proofs.Closed.{leaves_no_part}
use Rattle.vax_flat.proofs.Windows.{near_here}
use Rattle.vax_flat.proofs.Bounds.{acted_adds, interrupt_begins, finished_adds}
use Rattle.vax_flat.proofs.Listed.{begins, first_by, part_takes}
use Rattle.vax_flat.proofs.Readings.{IsAtAddress, AreReadOnly, Reading, Gives, Fails, reading_operands, set_read, with_regs}
use Rattle.vax_flat.proofs.Steps.{whole_leaf}
use Rattle.vax_flat.proofs.StringGoing.{IsSound, Completed, Leaving, Failing, fin}
use Rattle.vax_flat.proofs.StringBeginning.{family_of, opcode_of, IsFresh, Begins, Stopping, Going, fresh, starts}
use Rattle.vax_flat_units.specs.Units.{Counts}
use Rattle.vax_flat_units.specs.Violations.{is_reserved_by, is_violated_by, units_reached}
use Rattle.vax_flat_units.specs.Places.{is_interrupted, units_at_start, instruction_units, text_operands, tells, tells_if, told, units_of}
use Rattle.vax_flat_units.proofs.Families.{units_by, first_right}
use Rattle.vax_flat_units.proofs.Reached.{reached_by, reached_is, AreClear, first_clears, made_of, stopped_leaves}
use Rattle.vax_flat_units.proofs.Bounds.{reached_few}

-- only a string instruction leaves a part
fin_whole : (ws : List ℕ) (how : Flow) (t : State) → IsWhole how → (memory : List Area) → LeavesNoPart (outcome_of (fin how t) memory)
fin_whole ws how t h memory = finished_adds _ leaves_no_part ws 0 leaf whole_leaf how t h memory

same_act : (a : Action) → is_string a ≡ false → (s : State) (next : Flow → State → Accesses Leaf) → acted_part a s next ≡ acted a s next
unfolding acted acted_part
same_act (action.Integer i) other s next = refl
same_act (action.Control c) other s next = refl
same_act (action.Field f) other s next = refl
same_act (action.Call c) other s next = refl
same_act (action.Queue q) other s next = refl
same_act (action.System i) other s next = refl
same_act (action.Text t) other s next = absurd (cc)

other_leaves : (a : Action) → is_string a ≡ false → (s : State) (memory : List Area) → LeavesNoPart (outcome_of (acted_part a s fin) memory)
other_leaves a other s memory =
    subst (λ tree. LeavesNoPart (outcome_of tree memory)) (sym (same_act a other s fin))
    (acted_adds _ leaves_no_part (register s 15) [] 2 fin (λ how t h m. fin_whole (register s 15 ∷ []) how t h m) a other s 0 (omega arith) (near_here s) memory)

-- the operands of a string instruction are read alone
operands_taken : (t : Text) (s : State) (next : Progress → State → Accesses Leaf) → text_operands t s next ≡ next_operands (of_text t) s (λ xs u. next (begins t s xs u) (begun u))
unfolding text_operands search_operands scan_operands equal_operands filled_operands translated_operands match_operands next_word next_byte next_longword read_value address_value next_operands taken begins
operands_taken text.Move s next = refl
operands_taken text.MoveFilled s next = refl
operands_taken text.MoveTranslated s next = refl
operands_taken text.MoveTranslatedUntil s next = refl
operands_taken text.Compare s next = refl
operands_taken text.CompareFilled s next = refl
operands_taken text.Locate s next = refl
operands_taken text.Skip s next = refl
operands_taken text.Scan s next = refl
operands_taken text.Span s next = refl
operands_taken text.Match s next = refl

texts_read : (s : State) (m : List Area) (t : Text) → AreReadOnly s m (of_text t)
texts_read s m text.Move = (tt, (tt, (tt, tt)))
texts_read s m text.MoveFilled = (tt, (tt, (tt, (tt, (tt, tt)))))
texts_read s m text.MoveTranslated = (tt, (tt, (tt, (tt, (tt, (tt, tt))))))
texts_read s m text.MoveTranslatedUntil = (tt, (tt, (tt, (tt, (tt, (tt, tt))))))
texts_read s m text.Compare = (tt, (tt, (tt, tt)))
texts_read s m text.CompareFilled = (tt, (tt, (tt, (tt, (tt, tt)))))
texts_read s m text.Locate = (tt, (tt, (tt, tt)))
texts_read s m text.Skip = (tt, (tt, (tt, tt)))
texts_read s m text.Scan = (tt, (tt, (tt, (tt, tt))))
texts_read s m text.Span = (tt, (tt, (tt, (tt, tt))))
texts_read s m text.Match = (tt, (tt, (tt, (tt, tt))))

begun_ready : (s : State) (regs : List ℕ) → IsAtAddress regs → IsReady (begun (with_regs s regs))
unfolding operands.sixteen
begun_ready s regs good = record { full = refl; pc = good.pc; clear = omega arith }

tells_it : (memory : List Area) (p : Progress) (s : State) → told (outcome_of (tells memory p s) memory) ≡ units_at_start p (mode s) memory
unfolding outcome_of
tells_it memory p s = refl

told_by : (t : Text) (p : Progress) (s : State) (memory : List Area) → IsFresh t p → told (outcome_of (tells memory p s) memory) ≡ (if is_reserved_by p.op p || is_violated_by p.op p (mode s) memory then 0 else reached_by (family_of t) p (mode s) memory)
told_by t p s memory f =
    tells_it memory p s
    ∙ ap (λ n. if is_reserved_by p.op p || is_violated_by p.op p (mode s) memory then 0 else n) (ap (λ opcode. units_reached opcode p (mode s) memory) f.op ∙ reached_is t p (mode s) memory)

-- a move that has no units
by_opcode : (t : Text) (p : Progress) (s : State) (memory : List Area) → IsFresh t p → (is_reserved_by p.op p || is_violated_by p.op p (mode s) memory) ≡ true → (is_reserved_by (opcode_of t) p || is_violated_by (opcode_of t) p (mode s) memory) ≡ true
by_opcode t p s memory f so = sym (ap (λ opcode. is_reserved_by opcode p || is_violated_by opcode p (mode s) memory) f.op) ∙ so

-- a move whose checks are violated has no units
pub none_violated : (p : Progress) (in_mode : ℕ) (memory : List Area) → is_violated_by p.op p in_mode memory ≡ true → units_at_start p in_mode memory ≡ 0
none_violated p in_mode memory so = rw so (by (is_reserved_by p.op p))
  where
    by : (b : Bool) → (if b || true then 0 else units_reached p.op p in_mode memory) ≡ 0
    by true = refl
    by false = refl

-- the first part of a step: it leaves nothing, or some units, and the others are left
pub data IsFirst (m : Flat) (total : ℕ) : Outcome Leaf → Type 0 where
  Whole : (o : Outcome Leaf) → LeavesNoPart o → IsFirst m total o
  Opens : (t : Text) (q : Progress) (made : ℕ) (u : State) (memory : List Area) → q.op ≡ opcode_of t → IsReady u → IsSound (family_of t) q u memory → u.input ≡ m.input → u.sent ≡ None →
      1 ≤ made → 1 ≤ reached_by (family_of t) q (mode u) memory → total ≡ made + reached_by (family_of t) q (mode u) memory → IsFirst m total (Ends (Went (flow.More q.op made) (suspended q u)) memory)

module _ (m : Flat) where
  begins_first : (t : Text) (p : Progress) (u : State) (part : Outcome Leaf) → p.op ≡ opcode_of t → IsReady u → u.input ≡ m.input → u.sent ≡ None → Begins (family_of t) p u m.memory part →
      Counts (units_by (family_of t)) p.op (units_by (family_of t) p m.memory) part → AreClear (family_of t) p u m.memory part → IsFirst m (reached_by (family_of t) p (mode u) m.memory) part
  begins_first t p u part op ready input sent (Stopping e) c k = Whole (Raised e) tt
  begins_first t p u part op ready input sent (Going o (Completed v memory)) c k = Whole (Ends (Went flow.Done v) memory) tt
  begins_first t p u part op ready input sent (Going o (Failing e reads)) c k = Whole (Raised e) tt
  begins_first t p u part op ready input sent (Going o (Leaving q made memory is sound kept less)) c k =
      let of = made_of (family_of t) p q u made m.memory memory ready sound is kept c k in
      Opens t q made u memory (is ∙ op) ready sound input sent of.some of.rest of.sum

  text_first : (t : Text) (regs : List ℕ) → IsAtAddress regs → IsFirst m (told (outcome_of (text_operands t (with_regs (state_of m) regs) (tells m.memory)) m.memory)) (outcome_of (text_part t (with_regs (state_of m) regs) fin) m.memory)
  text_first t regs good = by (reading_operands (state_of m) m.memory (of_text t) (texts_read (state_of m) m.memory t) regs good)
    where
      u : State
      u = with_regs (state_of m) regs

      by : Reading (λ next. next_operands (of_text t) u next) (state_of m) m.memory → IsFirst m (told (outcome_of (text_operands t u (tells m.memory)) m.memory)) (outcome_of (text_part t u fin) m.memory)
      by (Fails e is) = subst (IsFirst m _) (sym (ap (λ tree. outcome_of tree m.memory) (part_takes t u fin) ∙ is _)) (Whole (Raised e) tt)
      by (Gives xs more fine is) =
          let p = begins t u xs (with_regs (state_of m) more) in
          let v = begun (with_regs (state_of m) more) in
          let ready = begun_ready (state_of m) more fine in
          let f = fresh t u xs (with_regs (state_of m) more) in
          let part : outcome_of (text_part t u fin) m.memory ≡ outcome_of (first_by t p v fin) m.memory = ap (λ tree. outcome_of tree m.memory) (part_takes t u fin) ∙ is _ in
          let total : told (outcome_of (text_operands t u (tells m.memory)) m.memory) ≡ (if is_reserved_by p.op p || is_violated_by p.op p (mode v) m.memory then 0 else reached_by (family_of t) p (mode v) m.memory) =
          ap told (ap (λ tree. outcome_of tree m.memory) (operands_taken t u (tells m.memory)) ∙ is _) ∙ told_by t p v m.memory f in
          subst (IsFirst m _) (sym part)
          (subst (λ n. IsFirst m n (outcome_of (first_by t p v fin) m.memory)) (sym total)
          (elim (cases_Bool (is_reserved_by p.op p || is_violated_by p.op p (mode v) m.memory)) [
            | inl so ↦ rw so (Whole _ (stopped_leaves t p v m.memory (by_opcode t p v m.memory f so)))
            | inr isnt ↦
                rw isnt (begins_first t p v (outcome_of (first_by t p v fin) m.memory) f.op ready refl refl (starts t p v m.memory ready f).begins_so (first_right t p v m.memory ready f) (first_clears t p v m.memory ready f))
          ]))

  act_first : (a : Option Action) (regs : List ℕ) → IsAtAddress regs → IsFirst m (told (outcome_of (tells_if a m.memory (with_regs (state_of m) regs)) m.memory)) (outcome_of (acted_part_if a (with_regs (state_of m) regs) fin) m.memory)
  unfolding acted_part acted_part_if outcome_of
  act_first (Some (action.Integer i)) regs good = Whole _ (other_leaves (action.Integer i) refl _ m.memory)
  act_first (Some (action.Control c)) regs good = Whole _ (other_leaves (action.Control c) refl _ m.memory)
  act_first (Some (action.Field f)) regs good = Whole _ (other_leaves (action.Field f) refl _ m.memory)
  act_first (Some (action.Call c)) regs good = Whole _ (other_leaves (action.Call c) refl _ m.memory)
  act_first (Some (action.Queue q)) regs good = Whole _ (other_leaves (action.Queue q) refl _ m.memory)
  act_first (Some (action.System i)) regs good = Whole _ (other_leaves (action.System i) refl _ m.memory)
  act_first (Some (action.Text t)) regs good = text_first t regs good
  act_first None regs good = Whole (Raised exception.Privileged) tt

  -- behind the opcode
  abbrev from_violation : (ℕ → State → Accesses Leaf) → Option Violation → Outcome Leaf
  from_violation next v = unless_violated v (outcome_of (next (number (byte_at m.memory) (slice_index m.core.regs 15) 1) (with_regs (state_of m) (slice_set m.core.regs 15 (plus (slice_index m.core.regs 15) 1)))) m.memory)

  fetched_is : (next : ℕ → State → Accesses Leaf) → outcome_of (fetched 1 (state_of m) next) m.memory ≡ from_violation next (violation m.memory (slice_index m.core.regs 15) 1 (mode (state_of m)) Read)
  unfolding fetched read_at outcome_of
  fetched_is next = refl

  opcode_past : IsAtAddress (slice_set m.core.regs 15 (plus (slice_index m.core.regs 15) 1))
  opcode_past = record { pc = set_read m.core.regs 15 (plus (slice_index m.core.regs 15) 1) (omega arith) }

  instruction_first : IsFirst m (instruction_units m) (outcome_of (first_part (state_of m) fin) m.memory)
  unfolding first_part instruction_units
  instruction_first = rw (fetched_is (λ opcode s. tells_if (action_of opcode) m.memory s), fetched_is (λ opcode s. acted_part_if (action_of opcode) s fin)) (by (violation m.memory (slice_index m.core.regs 15) 1 (mode (state_of m)) Read))
    where
      by : (v : Option Violation) → IsFirst m (told (from_violation (λ opcode s. tells_if (action_of opcode) m.memory s) v)) (from_violation (λ opcode s. acted_part_if (action_of opcode) s fin) v)
      by (Some v) = Whole (Raised (exception.Access v)) tt
      by None = act_first (action_of (number (byte_at m.memory) (slice_index m.core.regs 15) 1)) _ opcode_past

  pub first_is : IsFirst m (units_of m) (outcome_at (At m))
  unfolding part begun_part units_of
  first_is = by (is_interrupted m)
    where
      by : (b : Bool) → IsFirst m (if b then 0 else instruction_units m) (outcome_of (if b then interrupt (level m.core) (state_of m) (λ how s. fin (flow_of_delivery how) s) else first_part (state_of m) fin) m.memory)
      by true = Whole _ (interrupt_begins _ leaves_no_part [] 2 fin (λ how t h memory. fin_whole [] how t h memory) (level m.core) (state_of m) m.memory)
      by false = instruction_first

  -- there are as many as a number of 32 bits says
  text_few : (t : Text) (regs : List ℕ) → IsAtAddress regs → told (outcome_of (text_operands t (with_regs (state_of m) regs) (tells m.memory)) m.memory) < 2 ^ 32
  text_few t regs good = by (reading_operands (state_of m) m.memory (of_text t) (texts_read (state_of m) m.memory t) regs good)
    where
      u : State
      u = with_regs (state_of m) regs

      by : Reading (λ next. next_operands (of_text t) u next) (state_of m) m.memory → told (outcome_of (text_operands t u (tells m.memory)) m.memory) < 2 ^ 32
      by (Fails e is) = let z : told (outcome_of (text_operands t u (tells m.memory)) m.memory) ≡ 0 = ap told (ap (λ tree. outcome_of tree m.memory) (operands_taken t u (tells m.memory)) ∙ is _) in omega (arith, z)
      by (Gives xs more fine is) =
          let p = begins t u xs (with_regs (state_of m) more) in
          let v = begun (with_regs (state_of m) more) in
          let f = fresh t u xs (with_regs (state_of m) more) in
          let total : told (outcome_of (text_operands t u (tells m.memory)) m.memory) ≡ (if is_reserved_by p.op p || is_violated_by p.op p (mode v) m.memory then 0 else reached_by (family_of t) p (mode v) m.memory) =
          ap told (ap (λ tree. outcome_of tree m.memory) (operands_taken t u (tells m.memory)) ∙ is _) ∙ told_by t p v m.memory f in
          subst (λ n. n < 2 ^ 32) (sym total)
          (elim (cases_Bool (is_reserved_by p.op p || is_violated_by p.op p (mode v) m.memory)) [
            | inl so ↦ rw so (omega arith)
            | inr isnt ↦ rw isnt (reached_few (family_of t) p (mode v) m.memory f.proper.len1 f.proper.len2)
          ])

  act_few : (a : Option Action) (regs : List ℕ) → IsAtAddress regs → told (outcome_of (tells_if a m.memory (with_regs (state_of m) regs)) m.memory) < 2 ^ 32
  unfolding outcome_of
  act_few (Some (action.Integer i)) regs good = omega arith
  act_few (Some (action.Control c)) regs good = omega arith
  act_few (Some (action.Field f)) regs good = omega arith
  act_few (Some (action.Call c)) regs good = omega arith
  act_few (Some (action.Queue q)) regs good = omega arith
  act_few (Some (action.System i)) regs good = omega arith
  act_few (Some (action.Text t)) regs good = text_few t regs good
  act_few None regs good = omega arith

  instruction_few : instruction_units m < 2 ^ 32
  unfolding instruction_units
  instruction_few = rw (fetched_is (λ opcode s. tells_if (action_of opcode) m.memory s)) (by (violation m.memory (slice_index m.core.regs 15) 1 (mode (state_of m)) Read))
    where
      by : (v : Option Violation) → told (from_violation (λ opcode s. tells_if (action_of opcode) m.memory s) v) < 2 ^ 32
      by (Some v) = omega arith
      by None = act_few (action_of (number (byte_at m.memory) (slice_index m.core.regs 15) 1)) _ opcode_past

  pub few : units_of m < 2 ^ 32
  unfolding units_of
  few = by (is_interrupted m)
    where
      by : (b : Bool) → (if b then 0 else instruction_units m) < 2 ^ 32
      by true = omega arith
      by false = instruction_few

  -- a step that takes an interrupt has none
  pub interrupted_has_none : is_interrupted m ≡ true → units_of m ≡ 0
  unfolding units_of
  interrupted_has_none so = rw so refl

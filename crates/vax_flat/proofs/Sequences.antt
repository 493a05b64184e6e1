-- Operands one behind another: the machine goes from each to the next as the grammar does.
use Rattle.std.proofs.Common.{◌≡◌, ℕ, ◌+◌, ◌*◌, ◌≤◌, Bool, true, false, cond, Option, Some, None, List, [], ◌∷◌, length, drop, eqb, leb, subst, refl, sym, ◌∙◌, arith, inl, inr, length-set, length-drop}
use Rattle.std.proofs.lemmas.Bool.{cases_Bool, leb-true, eqb-false, or_parts}
use Rattle.std.proofs.lemmas.List.{get_or-set_other, drop-drop}
use Rattle.std.specs.Prelude.{option_map}
use Rattle.vax_space.specs.declared.Area.{Area}
use Rattle.vax_isa.specs.declared.OperandKind.{OperandKind}
use Rattle.vax_isa.specs.declared.Letter.{Letter}
use Rattle.vax_isa.specs.declared.Letter.TheVariants as letter
use Rattle.vax_isa.specs.Instructions.{Instruction}
use Rattle.vax_isa.specs.Rows.{with_opcode}
use Rattle.vax_flat.specs.declared.Form.{Form}
use Rattle.vax_flat.specs.declared.Form.TheVariants as form
use Rattle.vax_flat.specs.declared.Operand.{Operand}
use Rattle.vax_flat.specs.declared.Operand.TheVariants as operand
use Rattle.vax_flat.specs.Memory.{byte_at, number}
use Rattle.vax_flat.specs.State.{State, register, with_register}
use Rattle.vax_flat.specs.Accesses.{Accesses, Leaf}
use Rattle.vax_flat.specs.Outcome.{outcome_of, touches_of}
use Rattle.vax_flat.specs.Operand.{form_of, extended, plus, read_at, check_at, at_address, in_register, reaches_pc, is_reserved, is_no_base}
use Rattle.vax_flat.specs.Rows.{value_at}
use Rattle.vax_flat.specs.Grammar.{Place, Deferred, Decrement, Increment, IncrementDeferred, Absolute, Displaced, DisplacedDeferred, Specifier, Literal, Register, Immediate, InMemory, Indexed, BranchBy, Reading, Reads, Reserved, piece, placed, based, unindexed, incremented, is_read, takes_register, in_a_register, read_form, read_specifier, read_displacement, read_operand, Sequence, End, ReservedHere, Next, followed, read_operands, IsInstruction}
use Rattle.vax_flat.specs.Evaluation.{past, place_pieces, pieces, passed, place_address, immediate, evaluated, taken, comes_to, all_come_to, next_operands, kinds_of, next_instruction, AreAhead, DoSame}
use Rattle.vax_flat.proofs.Specifiers.{ahead_past, same_itself, same_then, same_either, same_first, after_pieces, operand_agrees}

-- a place whose side effect isn't on PC
abbrev pub KeepsPc : Place → Type 0
KeepsPc (Deferred n) = Unit {0}
KeepsPc (Decrement n) = eqb n 15 ≡ false
KeepsPc (Increment n) = eqb n 15 ≡ false
KeepsPc (IncrementDeferred n) = eqb n 15 ≡ false
KeepsPc (Absolute addr) = Unit {0}
KeepsPc (Displaced width displacement n) = Unit {0}
KeepsPc (DisplacedDeferred width displacement n) = Unit {0}

abbrev pub LeavesPc : Specifier → Type 0
LeavesPc (Literal value) = Unit {0}
LeavesPc (Register n) = Unit {0}
LeavesPc (Immediate value) = Unit {0}
LeavesPc (InMemory place) = KeepsPc place
LeavesPc (Indexed place x) = KeepsPc place
LeavesPc (BranchBy displacement) = Unit {0}

-- the state from which the operand behind is read, but for other registers
abbrev pub behind : OperandKind → Specifier → State → State
behind kind (Literal value) t = t
behind kind (Register n) t = t
behind kind (Immediate value) t = cond (is_read kind.letter) t (past kind.width t)
behind kind (InMemory place) t = t
behind kind (Indexed place x) t = t
behind kind (BranchBy displacement) t = t

ahead_other : (memory : List Area) (t : State) (bytes : List ℕ) (n v : ℕ) → eqb n 15 ≡ false → AreAhead memory t bytes → AreAhead memory (with_register t n v) bytes
ahead_other memory t bytes n v other a =
    let same : register (with_register t n v) 15 ≡ register t 15 = get_or-set_other t.core.regs n 15 v 0 (λ e. eqb-false n 15 other (sym e)) in
    record {
      registers = length-set t.core.regs n v ∙ a.registers;
      pc = rw same a.pc;
      are = rw same a.are;
    }

-- trees that go on alike
same_read : (memory : List Area) (addr len : ℕ) (t : State) (f g : ℕ → State → Accesses Leaf) → ((x : ℕ) → DoSame memory (f x t) (g x t)) → DoSame memory (read_at addr len t f) (read_at addr len t g)
unfolding read_at outcome_of touches_of
same_read memory addr len t f g same =
    let it = same (number (byte_at memory) addr len) in
    record { outcome = rw it.outcome refl; touches = rw it.touches refl }

same_at : (l : Letter) (width : ℕ) (memory : List Area) (addr : ℕ) (t : State) (f g : Operand → State → Accesses Leaf) → ((o : Operand) → DoSame memory (f o t) (g o t)) → DoSame memory (at_address (record { letter = l; width = width }) addr t f) (at_address (record { letter = l; width = width }) addr t g)
unfolding at_address check_at outcome_of touches_of
same_at letter.Read width memory addr t f g same = same_read memory addr width t _ _ (λ x. same (operand.Value x))
same_at letter.Modify width memory addr t f g same =
    let it = same (operand.Memory addr) in
    record { outcome = rw it.outcome refl; touches = rw it.touches refl }
same_at letter.Write width memory addr t f g same = same (operand.Memory addr)
same_at letter.Address width memory addr t f g same = same (operand.Memory addr)
same_at letter.Field width memory addr t f g same = same (operand.Memory addr)
same_at letter.Branch width memory addr t f g same = same_itself memory _

same_letter : (l : Letter) (width n : ℕ) (memory : List Area) (t : State) (f g : Operand → State → Accesses Leaf) → reaches_pc width n ≡ false → ((o : Operand) → DoSame memory (f o t) (g o t)) → DoSame memory (in_register (record { letter = l; width = width }) n t f) (in_register (record { letter = l; width = width }) n t g)
unfolding in_register
same_letter letter.Read width n memory t f g h same = rw h (same _)
same_letter letter.Modify width n memory t f g h same = rw h (same (operand.Register n))
same_letter letter.Write width n memory t f g h same = rw h (same (operand.Register n))
same_letter letter.Field width n memory t f g h same = rw h (same (operand.FieldRegister n))
same_letter letter.Address width n memory t f g h same = rw h (same_itself memory _)
same_letter letter.Branch width n memory t f g h same = rw h (same_itself memory _)

same_register : (l : Letter) (width n : ℕ) (memory : List Area) (t : State) (f g : Operand → State → Accesses Leaf) → ((o : Operand) → DoSame memory (f o t) (g o t)) → DoSame memory (in_register (record { letter = l; width = width }) n t f) (in_register (record { letter = l; width = width }) n t g)
unfolding in_register
same_register l width n memory t f g same =
    elim (cases_Bool (reaches_pc width n)) [
      | inl pc ↦ rw pc (same_itself memory _)
      | inr other ↦ same_letter l width n memory t f g other same
    ]

same_place : (memory : List Area) (width : ℕ) (place : Place) (t : State) (rest : List ℕ) (f g : ℕ → State → Accesses Leaf) → KeepsPc place → AreAhead memory t rest → ((addr : ℕ) (u : State) → AreAhead memory u rest → DoSame memory (f addr u) (g addr u)) → DoSame memory (place_address width place t f) (place_address width place t g)
unfolding place_address
same_place memory width (Deferred n) t rest f g keeps a same = same _ t a
same_place memory width (Decrement n) t rest f g keeps a same = same _ _ (ahead_other memory t rest n _ keeps a)
same_place memory width (Increment n) t rest f g keeps a same = same _ _ (ahead_other memory t rest n _ keeps a)
same_place memory width (IncrementDeferred n) t rest f g keeps a same =
    same_read memory (register t n) 4 t (λ pointer (u : State). f pointer (with_register u n (plus (register u n) 4))) (λ pointer (u : State). g pointer (with_register u n (plus (register u n) 4)))
    (λ pointer. same pointer _ (ahead_other memory t rest n _ keeps a))
same_place memory width (Absolute addr) t rest f g keeps a same = same addr t a
same_place memory width (Displaced bytes displacement n) t rest f g keeps a same = same _ t a
same_place memory width (DisplacedDeferred bytes displacement n) t rest f g keeps a same =
    same_read memory _ 4 t f g (λ pointer. same pointer t a)

same_immediate : (kind : OperandKind) (memory : List Area) (value : ℕ) (t : State) (rest : List ℕ) (f g : Operand → State → Accesses Leaf) → AreAhead memory (cond (is_read kind.letter) t (past kind.width t)) rest → ((o : Operand) (u : State) → AreAhead memory u rest → DoSame memory (f o u) (g o u)) → DoSame memory (immediate kind value t f) (immediate kind value t g)
unfolding immediate
same_immediate kind memory value t rest f g a same =
    elim (cases_Bool (is_read kind.letter)) [
      | inl read ↦ let here : AreAhead memory t rest = rw read at a in rw read (same (operand.Value value) t here)
      | inr unread ↦
          let here : AreAhead memory (past kind.width t) rest = rw unread at a in
          rw unread (same_at kind.letter kind.width memory (register t 15) (past kind.width t) f g (λ o. same o (past kind.width t) here))
    ]

same_evaluated : (kind : OperandKind) (memory : List Area) (specifier : Specifier) (t : State) (rest : List ℕ) (f g : Operand → State → Accesses Leaf) → LeavesPc specifier → AreAhead memory (behind kind specifier t) rest → ((o : Operand) (u : State) → AreAhead memory u rest → DoSame memory (f o u) (g o u)) → DoSame memory (evaluated kind specifier t f) (evaluated kind specifier t g)
unfolding evaluated
same_evaluated kind memory (Literal value) t rest f g leaves a same = same (operand.Value value) t a
same_evaluated kind memory (Register n) t rest f g leaves a same = same_register kind.letter kind.width n memory t f g (λ o. same o t a)
same_evaluated kind memory (Immediate value) t rest f g leaves a same = same_immediate kind memory value t rest f g a same
same_evaluated kind memory (InMemory place) t rest f g leaves a same =
    same_place memory kind.width place t rest (λ addr u. at_address kind addr u f) (λ addr u. at_address kind addr u g) leaves a
    (λ addr u b. same_at kind.letter kind.width memory addr u f g (λ o. same o u b))
same_evaluated kind memory (Indexed place x) t rest f g leaves a same =
    same_place memory kind.width place t rest (λ addr (u : State). at_address kind (plus addr (kind.width * register u x)) u f) (λ addr (u : State). at_address kind (plus addr (kind.width * register u x)) u g) leaves a
    (λ addr u b. same_at kind.letter kind.width memory _ u f g (λ o. same o u b))
same_evaluated kind memory (BranchBy displacement) t rest f g leaves a same = same _ t a

same_value : (memory : List Area) (width : ℕ) (o : Operand) (t : State) (f g : ℕ → State → Accesses Leaf) → ((x : ℕ) → DoSame memory (f x t) (g x t)) → DoSame memory (value_at width o t f) (value_at width o t g)
unfolding value_at
same_value memory width (operand.Value x) t f g same = same 0
same_value memory width (operand.Register n) t f g same = same _
same_value memory width (operand.Memory addr) t f g same = same_read memory addr width t f g same
same_value memory width (operand.FieldRegister n) t f g same = same 0
same_value memory width (operand.Target addr) t f g same = same 0

same_taken : (l : Letter) (width : ℕ) (memory : List Area) (o : Operand) (t : State) (f g : Operand × ℕ → State → Accesses Leaf) → ((x : Operand × ℕ) → DoSame memory (f x t) (g x t)) → DoSame memory (taken (record { letter = l; width = width }) o t f) (taken (record { letter = l; width = width }) o t g)
unfolding taken
same_taken letter.Read width memory o t f g same = same _
same_taken letter.Modify width memory o t f g same = same_value memory width o t (λ x u. f (o, x) u) (λ x u. g (o, x) u) (λ x. same (o, x))
same_taken letter.Write width memory o t f g same = same _
same_taken letter.Address width memory o t f g same = same _
same_taken letter.Field width memory o t f g same = same _
same_taken letter.Branch width memory o t f g same = same _

same_passed : (memory : List Area) (front : List ℕ) (s : State) (f g : State → Accesses Leaf) → DoSame memory (f (after_pieces front s)) (g (after_pieces front s)) → DoSame memory (passed front s f) (passed front s g)
unfolding passed after_pieces
same_passed memory [] s f g same = same
same_passed memory (width ∷ front) s f g same = same_either memory s width _ _ (same_passed memory front (past width s) f g same)

-- what a reading says of its bytes
unfoldable pub widths : List ℕ → ℕ
widths [] = 0
widths (width ∷ rest) = width + widths rest

abbrev pub unread : OperandKind → Specifier → ℕ
unread kind (Literal value) = 0
unread kind (Register n) = 0
unread kind (Immediate value) = cond (is_read kind.letter) 0 kind.width
unread kind (InMemory place) = 0
unread kind (Indexed place x) = 0
unread kind (BranchBy displacement) = 0

pub record IsCounted (kind : OperandKind) (limit : ℕ) (specifier : Specifier) (count : ℕ) : Type 0 where
  pub leaves : LeavesPc specifier
  pub size : count ≡ widths (pieces kind specifier) + unread kind specifier
  pub within : count ≤ limit

abbrev pub IsGood : OperandKind → ℕ → Option Reading → Type 0
IsGood kind limit reading =
    (specifier : Specifier) (count : ℕ) → reading ≡ Some (Reads specifier count) → IsCounted kind limit specifier count

good_known : (kind : OperandKind) (limit : ℕ) (specifier : Specifier) (count : ℕ) → IsCounted kind limit specifier count → IsGood kind limit (Some (Reads specifier count))
good_known kind limit specifier count good other c e =
    let form : specifier ≡ other = cc in
    let size : count ≡ c = cc in
    rw (← form, ← size) good

good_reserved : (kind : OperandKind) (limit count : ℕ) → IsGood kind limit (Some (Reserved count))
good_reserved kind limit count other c e = cc

good_piece : (kind : OperandKind) (limit width : ℕ) (bytes : List ℕ) (reading : ℕ → Option Reading) → ((v : ℕ) → width ≤ length bytes → IsGood kind limit (reading v)) → IsGood kind limit (piece width bytes reading)
unfolding piece
good_piece kind limit width bytes reading good =
    elim (cases_Bool (leb width (length bytes))) [
      | inl enough ↦ rw enough (good _ (leb-true width (length bytes) enough))
      | inr few ↦ rw few (λ specifier count e. cc)
    ]

-- no autoincrement or autodecrement of PC
abbrev IsPlain : Form → Type 0
IsPlain (form.Literal value) = Unit {0}
IsPlain (form.Index x) = Unit {0}
IsPlain (form.Register n) = Unit {0}
IsPlain (form.Deferred n) = Unit {0}
IsPlain (form.Decrement n) = eqb n 15 ≡ false
IsPlain (form.Increment n) = eqb n 15 ≡ false
IsPlain (form.IncrementDeferred n) = Unit {0}
IsPlain (form.Displacement width n) = Unit {0}
IsPlain (form.DisplacementDeferred width n) = Unit {0}

module _ (kind : OperandKind) (limit count : ℕ) (bytes : List ℕ) (make : Place → Specifier) where
  record IsMade : Type 0 where
    pub fits : count + length bytes ≤ limit
    pub leaves : (place : Place) → KeepsPc place → LeavesPc (make place)
    pub size : (place : Place) → widths (pieces kind (make place)) + unread kind (make place) ≡ count + widths (place_pieces place)

  good_alone : (place : Place) → IsMade → KeepsPc place → widths (place_pieces place) ≡ 0 → IsGood kind limit (Some (Reads (make place) count))
  good_alone place made keeps none = good_known kind limit (make place) count (record {
    leaves = made.leaves place keeps;
    size = let e = made.size place in omega arith;
    within = let f = made.fits in omega arith;
  })

  good_more : (place : Place) (width : ℕ) → IsMade → KeepsPc place → widths (place_pieces place) ≡ width → width ≤ length bytes → IsGood kind limit (Some (Reads (make place) (count + width)))
  good_more place width made keeps one enough = good_known kind limit (make place) (count + width) (record {
    leaves = made.leaves place keeps;
    size = let e = made.size place in omega arith;
    within = let f = made.fits in omega arith;
  })

  good_placed : (shape : Form) → IsMade → IsPlain shape → IsGood kind limit (placed shape make count bytes)
  unfolding placed place_pieces widths
  good_placed (form.Literal value) made plain = good_reserved kind limit count
  good_placed (form.Index x) made plain = good_reserved kind limit count
  good_placed (form.Register n) made plain = good_reserved kind limit count
  good_placed (form.Deferred n) made plain = good_alone (Deferred n) made tt refl
  good_placed (form.Decrement n) made plain = good_alone (Decrement n) made plain refl
  good_placed (form.Increment n) made plain = good_alone (Increment n) made plain refl
  good_placed (form.IncrementDeferred n) made plain =
      elim (cases_Bool (eqb n 15)) [
        | inl pc ↦ rw pc (good_piece kind limit 4 bytes _ (λ v enough. good_more (Absolute v) 4 made tt (omega arith) enough))
        | inr other ↦ rw other (good_alone (IncrementDeferred n) made other refl)
      ]
  good_placed (form.Displacement width n) made plain =
      good_piece kind limit width bytes _ (λ v enough. good_more (Displaced width (extended width v) n) width made tt (omega arith) enough)
  good_placed (form.DisplacementDeferred width n) made plain =
      good_piece kind limit width bytes _ (λ v enough. good_more (DisplacedDeferred width (extended width v) n) width made tt (omega arith) enough)

plain_base : (x : ℕ) (shape : Form) → is_no_base x shape ≡ false → IsPlain shape
unfolding is_no_base
plain_base x (form.Literal value) h = tt
plain_base x (form.Index y) h = tt
plain_base x (form.Register n) h = tt
plain_base x (form.Deferred n) h = tt
plain_base x (form.Decrement n) h = (or_parts (eqb n 15) (eqb n x) h).0
plain_base x (form.Increment n) h = (or_parts (eqb n 15) (eqb n x) h).0
plain_base x (form.IncrementDeferred n) h = tt
plain_base x (form.Displacement width n) h = tt
plain_base x (form.DisplacementDeferred width n) h = tt

module _ (kind : OperandKind) (limit : ℕ) where
  good_unindexed : (shape : Form) (bytes : List ℕ) → 1 + length bytes ≤ limit → (is_reserved kind.letter shape ≡ false → IsPlain shape) → IsGood kind limit (unindexed kind.letter shape bytes)
  unfolding unindexed pieces widths
  good_unindexed shape bytes fits plain =
      elim (cases_Bool (is_reserved kind.letter shape)) [
        | inl here ↦ rw here (good_reserved kind limit 1)
        | inr other ↦ rw other (good_placed kind limit 1 bytes InMemory shape (record {
          fits = fits;
          leaves = λ place keeps. keeps;
          size = λ place. omega arith;
        }) (plain other))
      ]

  good_indexed : (x : ℕ) (shape : Form) (bytes : List ℕ) → 2 + length bytes ≤ limit → IsGood kind limit (cond (is_no_base x shape) (Some (Reserved 2)) (placed shape (λ place. Indexed place x) 2 bytes))
  unfolding pieces widths
  good_indexed x shape bytes fits =
      elim (cases_Bool (is_no_base x shape)) [
        | inl here ↦ rw here (good_reserved kind limit 2)
        | inr other ↦ rw other (good_placed kind limit 2 bytes (λ place. Indexed place x) shape (record {
          fits = fits;
          leaves = λ place keeps. keeps;
          size = λ place. omega arith;
        }) (plain_base x shape other))
      ]

  good_index : (x : ℕ) (bytes : List ℕ) → 1 + length bytes ≤ limit → IsGood kind limit (cond (eqb x 15) (Some (Reserved 1)) (based x bytes))
  unfolding based
  good_index x [] fits =
      elim (cases_Bool (eqb x 15)) [
        | inl here ↦ rw here (good_reserved kind limit 1)
        | inr other ↦ rw other (λ specifier count e. cc)
      ]
  good_index x (byte ∷ bytes) fits =
      elim (cases_Bool (eqb x 15)) [
        | inl here ↦ rw here (good_reserved kind limit 1)
        | inr other ↦ rw other (good_indexed x (form_of byte) bytes (omega arith))
      ]

  good_immediate : (value : ℕ) → 1 + kind.width ≤ limit → IsGood kind limit (Some (Reads (Immediate value) (1 + kind.width)))
  unfolding pieces widths
  good_immediate value fits =
      good_known kind limit (Immediate value) (1 + kind.width) (record {
        leaves = tt;
        size = elim (cases_Bool (is_read kind.letter)) [
          | inl read ↦ rw read (omega arith)
          | inr other ↦ rw other (omega arith)
        ];
        within = fits;
      })

  good_incremented : (n : ℕ) (bytes : List ℕ) → 1 + length bytes ≤ limit → IsGood kind limit (incremented kind n bytes)
  unfolding incremented pieces place_pieces widths
  good_incremented n bytes fits =
      elim (cases_Bool (is_reserved kind.letter (form.Increment n))) [
        | inl here ↦ rw here (good_reserved kind limit 1)
        | inr other ↦
            elim (cases_Bool (eqb n 15)) [
              | inl pc ↦ rw (other, pc) (good_piece kind limit kind.width bytes _ (λ v enough. good_immediate v (omega arith)))
              | inr plain ↦ rw (other, plain) (good_known kind limit (InMemory (Increment n)) 1 (record { leaves = plain; size = refl; within = omega arith }))
            ]
      ]

  good_either : (b : Bool) (specifier : Specifier) → IsCounted kind limit specifier 1 → IsGood kind limit (cond b (Some (Reads specifier 1)) (Some (Reserved 1)))
  good_either true specifier good = good_known kind limit specifier 1 good
  good_either false specifier good = good_reserved kind limit 1

  good_register : (n : ℕ) → 1 ≤ limit → IsGood kind limit (in_a_register kind n)
  unfolding in_a_register pieces widths
  good_register n fits =
      elim (cases_Bool (reaches_pc kind.width n)) [
        | inl pc ↦ rw pc (good_reserved kind limit 1)
        | inr other ↦ rw other (good_either (takes_register kind.letter) (Register n) (record { leaves = tt; size = refl; within = fits }))
      ]

  good_form : (shape : Form) (bytes : List ℕ) → 1 + length bytes ≤ limit → IsGood kind limit (read_form kind shape bytes)
  unfolding read_form is_reserved pieces widths
  good_form (form.Literal value) bytes fits = good_either (is_read kind.letter) (Literal value) (record { leaves = tt; size = refl; within = omega arith })
  good_form (form.Index x) bytes fits = good_index x bytes fits
  good_form (form.Register n) bytes fits = good_register n (omega arith)
  good_form (form.Deferred n) bytes fits = good_unindexed (form.Deferred n) bytes fits (λ h. tt)
  good_form (form.Decrement n) bytes fits = good_unindexed (form.Decrement n) bytes fits (λ h. h)
  good_form (form.Increment n) bytes fits = good_incremented n bytes fits
  good_form (form.IncrementDeferred n) bytes fits = good_unindexed (form.IncrementDeferred n) bytes fits (λ h. tt)
  good_form (form.Displacement width n) bytes fits = good_unindexed (form.Displacement width n) bytes fits (λ h. tt)
  good_form (form.DisplacementDeferred width n) bytes fits = good_unindexed (form.DisplacementDeferred width n) bytes fits (λ h. tt)

good_specifier : (kind : OperandKind) (bytes : List ℕ) → IsGood kind (length bytes) (read_specifier kind bytes)
unfolding read_specifier
good_specifier kind [] = λ specifier count e. cc
good_specifier kind (byte ∷ bytes) = good_form kind (length (byte ∷ bytes)) (form_of byte) bytes (omega arith)

good_displacement : (kind : OperandKind) (bytes : List ℕ) → IsGood kind (length bytes) (read_displacement kind.width bytes)
unfolding read_displacement pieces widths
good_displacement kind bytes =
    good_piece kind (length bytes) kind.width bytes _ (λ v enough. good_known kind (length bytes) (BranchBy (extended kind.width v)) kind.width (record { leaves = tt; size = omega arith; within = enough }))

good_letter : (l : Letter) (width : ℕ) (bytes : List ℕ) → IsGood (record { letter = l; width = width }) (length bytes) (read_operand (record { letter = l; width = width }) bytes)
unfolding read_operand
good_letter letter.Read width bytes = good_specifier (record { letter = letter.Read; width = width }) bytes
good_letter letter.Modify width bytes = good_specifier (record { letter = letter.Modify; width = width }) bytes
good_letter letter.Write width bytes = good_specifier (record { letter = letter.Write; width = width }) bytes
good_letter letter.Address width bytes = good_specifier (record { letter = letter.Address; width = width }) bytes
good_letter letter.Field width bytes = good_specifier (record { letter = letter.Field; width = width }) bytes
good_letter letter.Branch width bytes = good_displacement (record { letter = letter.Branch; width = width }) bytes

pub good_operand : (kind : OperandKind) (bytes : List ℕ) → IsGood kind (length bytes) (read_operand kind bytes)
good_operand kind bytes = good_letter kind.letter kind.width bytes

-- the bytes behind an operand stand at PC when it is evaluated
ahead_pieces : (memory : List Area) (front : List ℕ) (s : State) (bytes : List ℕ) → AreAhead memory s bytes → widths front ≤ length bytes → AreAhead memory (after_pieces front s) (drop (widths front) bytes)
unfolding widths after_pieces
ahead_pieces memory [] s bytes a h = a
ahead_pieces memory (width ∷ front) s bytes a h =
    let first : AreAhead memory (past width s) (drop width bytes) = ahead_past memory s bytes width a (omega arith) in
    let rest : AreAhead memory (after_pieces front (past width s)) (drop (widths front) (drop width bytes)) = ahead_pieces memory front (past width s) (drop width bytes) first (omega (arith, length-drop width bytes)) in
    rw (drop-drop (widths front) width bytes) at rest

ahead_plain : (memory : List Area) (front : List ℕ) (s : State) (bytes : List ℕ) → AreAhead memory s bytes → widths front + 0 ≤ length bytes → AreAhead memory (after_pieces front s) (drop (widths front + 0) bytes)
ahead_plain memory front s bytes a h =
    let same : widths front + 0 ≡ widths front = omega arith in
    rw same (ahead_pieces memory front s bytes a (omega arith))

ahead_unread : (memory : List Area) (width : ℕ) (front : List ℕ) (s : State) (bytes : List ℕ) → AreAhead memory s bytes → widths front + width ≤ length bytes → AreAhead memory (past width (after_pieces front s)) (drop (widths front + width) bytes)
ahead_unread memory width front s bytes a h =
    let first : AreAhead memory (after_pieces front s) (drop (widths front) bytes) = ahead_pieces memory front s bytes a (omega arith) in
    let rest : AreAhead memory (past width (after_pieces front s)) (drop width (drop (widths front) bytes)) = ahead_past memory (after_pieces front s) (drop (widths front) bytes) width first (omega (arith, length-drop (widths front) bytes)) in
    subst (λ l. AreAhead memory (past width (after_pieces front s)) l) (drop-drop width (widths front) bytes) rest

ahead_behind : (memory : List Area) (kind : OperandKind) (specifier : Specifier) (s : State) (bytes : List ℕ) → AreAhead memory s bytes → widths (pieces kind specifier) + unread kind specifier ≤ length bytes → AreAhead memory (behind kind specifier (after_pieces (pieces kind specifier) s)) (drop (widths (pieces kind specifier) + unread kind specifier) bytes)
ahead_behind memory kind (Literal value) s bytes a h = ahead_plain memory (pieces kind (Literal value)) s bytes a h
ahead_behind memory kind (Register n) s bytes a h = ahead_plain memory (pieces kind (Register n)) s bytes a h
ahead_behind memory kind (Immediate value) s bytes a h =
    elim (cases_Bool (is_read kind.letter)) [
      | inl read ↦ let fits : widths (pieces kind (Immediate value)) + 0 ≤ length bytes = rw read at h in rw read (ahead_plain memory (pieces kind (Immediate value)) s bytes a fits)
      | inr other ↦ let fits : widths (pieces kind (Immediate value)) + kind.width ≤ length bytes = rw other at h in rw other (ahead_unread memory kind.width (pieces kind (Immediate value)) s bytes a fits)
    ]
ahead_behind memory kind (InMemory place) s bytes a h = ahead_plain memory (pieces kind (InMemory place)) s bytes a h
ahead_behind memory kind (Indexed place x) s bytes a h = ahead_plain memory (pieces kind (Indexed place x)) s bytes a h
ahead_behind memory kind (BranchBy displacement) s bytes a h = ahead_plain memory (pieces kind (BranchBy displacement)) s bytes a h

pub mapped : (make : Sequence → Sequence) (found : Option Sequence) (q : Sequence) → option_map make found ≡ Some q → (rest : Sequence) × (found ≡ Some rest) × (make rest ≡ q)
mapped make None q e = let none : None ≡ Some q = e in cc
mapped make (Some rest) q e = let same : make rest ≡ q = cc in (rest, refl, same)

-- one operand, and those behind it
module _ (kind : OperandKind) (kinds : List OperandKind) (memory : List Area) (s : State) (bytes : List ℕ) (next : List (Operand × ℕ) → State → Accesses Leaf) where
  abbrev Others : Type 0
  Others =
      (count : ℕ) (u : State) (more : List (Operand × ℕ) → State → Accesses Leaf) → AreAhead memory u (drop count bytes) → (rest : Sequence) → read_operands kinds (drop count bytes) ≡ Some rest
      → DoSame memory (next_operands kinds u more) (all_come_to rest u more)

  one_agrees : (specifier : Specifier) (count : ℕ) (rest : Sequence) → AreAhead memory s bytes → Others → read_operand kind bytes ≡ Some (Reads specifier count) → read_operands kinds (drop count bytes) ≡ Some rest → DoSame memory (next_operands (kind ∷ kinds) s next) (all_come_to (Next kind specifier count rest) s next)
  unfolding next_operands all_come_to comes_to
  one_agrees specifier count rest a others read behind_it =
      let good = good_operand kind bytes specifier count read in
      let size = good.size in
      let fits : widths (pieces kind specifier) + unread kind specifier ≤ length bytes = let within = good.within in omega arith in
      let ahead : AreAhead memory (behind kind specifier (after_pieces (pieces kind specifier) s)) (drop count bytes) =
      subst (λ c. AreAhead memory (behind kind specifier (after_pieces (pieces kind specifier) s)) (drop c bytes)) (sym size) (ahead_behind memory kind specifier s bytes a fits) in
      same_then memory _ _ _ (operand_agrees kind memory s (λ o u. taken kind o u (λ x u. next_operands kinds u (λ xs u. next (x ∷ xs) u))) bytes a (Reads specifier count) read)
      (same_passed memory (pieces kind specifier) s _ _
      (same_evaluated kind memory specifier (after_pieces (pieces kind specifier) s) (drop count bytes) (λ o u. taken kind o u (λ x u. next_operands kinds u (λ xs u. next (x ∷ xs) u))) (λ o u. taken kind o u (λ x u. all_come_to rest u (λ xs u. next (x ∷ xs) u))) good.leaves ahead
      (λ o u b. same_taken kind.letter kind.width memory o u _ _ (λ x. others count u (λ xs u. next (x ∷ xs) u) b rest behind_it))))

  step_agrees : (found : Option Reading) → read_operand kind bytes ≡ found → AreAhead memory s bytes → Others → (q : Sequence) → followed kind found (λ count. read_operands kinds (drop count bytes)) ≡ Some q → DoSame memory (next_operands (kind ∷ kinds) s next) (all_come_to q s next)
  unfolding next_operands all_come_to comes_to followed
  step_agrees None read a others q e = let none : None ≡ Some q = e in cc
  step_agrees (Some (Reserved count)) read a others q e =
      let same : ReservedHere count ≡ q = cc in
      rw (← same) (operand_agrees kind memory s (λ o u. taken kind o u (λ x u. next_operands kinds u (λ xs u. next (x ∷ xs) u))) bytes a (Reserved count) read)
  step_agrees (Some (Reads specifier count)) read a others q e =
      let found = mapped (Next kind specifier count) (read_operands kinds (drop count bytes)) q e in
      let same = found.2 in
      rw (← same) (one_agrees specifier count found.0 a others read found.1)

-- operands of these kinds
pub operands_agree : (kinds : List OperandKind) (memory : List Area) (s : State) (bytes : List ℕ) (next : List (Operand × ℕ) → State → Accesses Leaf) → AreAhead memory s bytes → (q : Sequence) → read_operands kinds bytes ≡ Some q → DoSame memory (next_operands kinds s next) (all_come_to q s next)
unfolding next_operands all_come_to read_operands
operands_agree [] memory s bytes next a q e =
    let same : End ≡ q = cc in
    rw (← same) (same_itself memory _)
operands_agree (kind ∷ kinds) memory s bytes next a q e =
    step_agrees kind kinds memory s bytes next (read_operand kind bytes) refl a
    (λ count u more b rest f. operands_agree kinds memory u (drop count bytes) more b rest f) q e

-- an opcode and its operands
pub instruction_agrees : (memory : List Area) (s : State) (bytes : List ℕ) (row : Instruction) (operands : Sequence) (count : ℕ) (next : List (Operand × ℕ) → State → Accesses Leaf) → AreAhead memory s bytes → IsInstruction bytes row operands count → DoSame memory (next_instruction s next) (passed (1 ∷ []) s (λ t. all_come_to operands t next))
unfolding next_instruction passed
instruction_agrees memory s bytes row operands count next a i =
    let ahead : AreAhead memory s (i.opcode ∷ i.rest) = rw i.split at a in
    same_first memory s i.opcode i.rest (λ opcode t. next_operands (kinds_of (with_opcode opcode)) t next) (λ t. all_come_to operands t next) ahead
    (rw i.listed (operands_agree row.operands memory (past 1 s) i.rest next (ahead_past memory s (i.opcode ∷ i.rest) 1 ahead (omega arith)) operands i.read))

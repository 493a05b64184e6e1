-- What a reading of operands comes to on a memory: it changes registers alone, and gives what it read, or raises an exception.
use Rattle.std.proofs.Common.{◌≡◌, ℕ, suc, zero, ◌-◌, ◌*◌, ◌^◌, ◌<◌, Bool, true, false, Option, Some, None, List, [], ◌∷◌, slice_index, slice_set, refl, sym, subst, ◌∙◌, inl, inr, arith}
use Rattle.std.specs.Prelude.{◌==◌, if◌then◌else◌}
use Rattle.std.proofs.lemmas.Bool.{cases_eq}
use Rattle.std.proofs.lemmas.List.{get_or-set_other}
use Rattle.vax_space.specs.declared.Access.TheVariants.{Read, Write}
use Rattle.vax_space.specs.declared.Area.{Area}
use Rattle.vax_space.specs.declared.Violation.{Violation}
use Rattle.vax_space.specs.Reference.{violation}
use Rattle.vax_isa.specs.declared.OperandKind.{OperandKind}
use Rattle.vax_isa.specs.declared.Letter.{Letter}
use Rattle.vax_isa.specs.declared.Letter.TheVariants as letter
use Rattle.vax_flat.specs.declared.Exception.{Exception}
use Rattle.vax_flat.specs.declared.Exception.TheVariants as exception
use Rattle.vax_flat.specs.declared.Form.{Form}
use Rattle.vax_flat.specs.declared.Form.TheVariants as form
use Rattle.vax_flat.specs.declared.Operand.{Operand}
use Rattle.vax_flat.specs.declared.Operand.TheVariants as operand
use Rattle.vax_flat.specs.Memory.{byte_at, number}
use Rattle.vax_flat.specs.State.{State, mode, register, with_register}
use Rattle.vax_flat.specs.Accesses.{Accesses, Raises, Leaf}
use Rattle.vax_flat.specs.Outcome.{Raised, outcome_of, unless_violated}
use Rattle.vax_flat.specs.Operand.{plus, extended, read_at, check_at, fetched, at_address, literal, register_value, reaches_pc, in_register, addressed, is_reserved, is_no_base, indexed, in_memory, after_prefix, form_of, formed, specified, next_operand}
use Rattle.vax_flat.specs.Rows.{value_of}
use Rattle.vax_flat.specs.Evaluation.{taken, next_operands}

-- registers of which PC is an address
pub record IsAtAddress (regs : List ℕ) : Type 0 where
  pub pc : slice_index regs 15 < 2 ^ 32

abbrev pub with_regs : State → List ℕ → State
with_regs s regs = record s { core = record s.core { regs = regs } }

-- on this memory it gives what it read, with these registers, or raises an exception, whatever follows
pub data Reading {X : Type 0} (tree : (X → State → Accesses Leaf) → Accesses Leaf) (s : State) (m : List Area) : Type 0 where
  Gives : (x : X) (regs : List ℕ) → IsAtAddress regs → ((next : X → State → Accesses Leaf) → outcome_of (tree next) m ≡ outcome_of (next x (with_regs s regs)) m) → Reading tree s m
  Fails : (e : Exception) → ((next : X → State → Accesses Leaf) → outcome_of (tree next) m ≡ Raised e) → Reading tree s m

module _ {X Y : Type 0} (tree : (X → State → Accesses Leaf) → Accesses Leaf) (rest : X → State → (Y → State → Accesses Leaf) → Accesses Leaf) (s : State) (m : List Area) where
  -- one behind another
  pub and_then : Reading tree s m → ((x : X) (regs : List ℕ) → IsAtAddress regs → Reading (rest x (with_regs s regs)) s m) → Reading (λ next. tree (λ x t. rest x t next)) s m
  and_then (Fails e is) r = Fails e (λ next. is (λ x t. rest x t next))
  and_then (Gives x regs good is) r = by (r x regs good)
    where
      by : Reading (rest x (with_regs s regs)) s m → Reading (λ next. tree (λ x t. rest x t next)) s m
      by (Gives y more fine also) = Gives y more fine (λ next. is (λ x t. rest x t next) ∙ also next)
      by (Fails e also) = Fails e (λ next. is (λ x t. rest x t next) ∙ also next)

-- a register that is set has the value, or there is none and it reads as 0
pub set_read : (regs : List ℕ) (n v : ℕ) → v < 2 ^ 32 → slice_index (slice_set regs n v) n < 2 ^ 32
set_read [] n v small = omega arith
set_read (r ∷ regs) zero v small = small
set_read (r ∷ regs) (suc n) v small = set_read regs n v small

set_at : (regs : List ℕ) (n v : ℕ) → v < 2 ^ 32 → IsAtAddress regs → IsAtAddress (slice_set regs n v)
set_at regs n v small good = record {
  pc = elim (cases_eq n 15) [
    | inl e ↦ subst (λ k. slice_index (slice_set regs k v) 15 < 2 ^ 32) (sym e) (set_read regs 15 v small)
    | inr other ↦ let same : slice_index (slice_set regs n v) 15 ≡ slice_index regs 15 = get_or-set_other regs n 15 v 0 (λ e. other (sym e)) in rw same good.pc
  ];
}

module _ (s : State) (m : List Area) where
  raising : {X : Type 0} (e : Exception) → Reading {X = X} (λ next. Raises e) s m
  unfolding outcome_of
  raising e = Fails e (λ next. refl)

  at_once : {X : Type 0} (x : X) (regs : List ℕ) → IsAtAddress regs → Reading (λ next. next x (with_regs s regs)) s m
  at_once x regs good = Gives x regs good (λ next. refl)

  either : {X : Type 0} (b : Bool) (one other : (X → State → Accesses Leaf) → Accesses Leaf) → Reading one s m → Reading other s m → Reading (λ next. if b then one next else other next) s m
  either true one other r q = r
  either false one other r q = q

  by_violation : {X : Type 0} (v : Option Violation) (tree : (X → State → Accesses Leaf) → Accesses Leaf) (x : X) (regs : List ℕ) → IsAtAddress regs → ((next : X → State → Accesses Leaf) → outcome_of (tree next) m ≡ unless_violated v (outcome_of (next x (with_regs s regs)) m)) → Reading tree s m
  by_violation (Some v) tree x regs good is = Fails (exception.Access v) is
  by_violation None tree x regs good is = Gives x regs good is

  pub reading_at : (addr len : ℕ) (regs : List ℕ) → IsAtAddress regs → Reading (λ next. read_at addr len (with_regs s regs) next) s m
  unfolding read_at outcome_of
  reading_at addr len regs good = by_violation (violation m addr len (mode s) Read) _ (number (byte_at m) addr len) regs good (λ next. refl)

  pub reading_fetched : (width : ℕ) (regs : List ℕ) → IsAtAddress regs → Reading (λ next. fetched width (with_regs s regs) next) s m
  unfolding fetched read_at outcome_of
  reading_fetched width regs good =
      by_violation (violation m (slice_index regs 15) width (mode s) Read) _ (number (byte_at m) (slice_index regs 15) width)
      (slice_set regs 15 (plus (slice_index regs 15) width)) (set_at regs 15 _ (omega arith) good) (λ next. refl)

  module _ (regs : List ℕ) (good : IsAtAddress regs) where
    abbrev here : State
    here = with_regs s regs

    reading_in_place : (width : ℕ) (l : Letter) (addr : ℕ) → Reading (λ next. at_address (record { letter = l; width = width }) addr here next) s m
    unfolding at_address check_at outcome_of
    reading_in_place width letter.Read addr = and_then (λ next. read_at addr width here next) (λ x t next. next (operand.Value x) t) s m (reading_at addr width regs good) (λ x more fine. at_once (operand.Value x) more fine)
    reading_in_place width letter.Modify addr = by_violation (violation m addr width (mode s) Write) _ (operand.Memory addr) regs good (λ next. refl)
    reading_in_place width letter.Write addr = at_once (operand.Memory addr) regs good
    reading_in_place width letter.Address addr = at_once (operand.Memory addr) regs good
    reading_in_place width letter.Field addr = at_once (operand.Memory addr) regs good
    reading_in_place width letter.Branch addr = raising exception.Mode

    reading_literal : (l : Letter) (value : ℕ) → Reading (λ next. literal l value here next) s m
    unfolding literal
    reading_literal letter.Read value = at_once (operand.Value value) regs good
    reading_literal letter.Modify value = raising exception.Mode
    reading_literal letter.Write value = raising exception.Mode
    reading_literal letter.Address value = raising exception.Mode
    reading_literal letter.Field value = raising exception.Mode
    reading_literal letter.Branch value = raising exception.Mode

    in_it : (width : ℕ) (l : Letter) (n : ℕ) → Reading (λ next. elim l [
      | letter.Read ↦ next (operand.Value (register_value width n here)) here
      | letter.Modify ↦ next (operand.Register n) here
      | letter.Write ↦ next (operand.Register n) here
      | letter.Address ↦ Raises exception.Mode
      | letter.Field ↦ next (operand.FieldRegister n) here
      | letter.Branch ↦ Raises exception.Mode
    ]) s m
    in_it width letter.Read n = at_once (operand.Value (register_value width n here)) regs good
    in_it width letter.Modify n = at_once (operand.Register n) regs good
    in_it width letter.Write n = at_once (operand.Register n) regs good
    in_it width letter.Address n = raising exception.Mode
    in_it width letter.Field n = at_once (operand.FieldRegister n) regs good
    in_it width letter.Branch n = raising exception.Mode

    reading_register : (width : ℕ) (l : Letter) (n : ℕ) → Reading (λ next. in_register (record { letter = l; width = width }) n here next) s m
    unfolding in_register
    reading_register width l n = either (reaches_pc width n) (λ next. Raises exception.Mode) _ (raising exception.Mode) (in_it width l n)

    reading_addressed : (width : ℕ) (shape : Form) → Reading (λ next. addressed width shape here next) s m
    unfolding addressed
    reading_addressed width (form.Literal value) = raising exception.Mode
    reading_addressed width (form.Index x) = raising exception.Mode
    reading_addressed width (form.Register n) = raising exception.Mode
    reading_addressed width (form.Deferred n) = at_once (slice_index regs n) regs good
    reading_addressed width (form.Decrement n) = at_once (plus (slice_index regs n) (2 ^ 32 - width)) (slice_set regs n (plus (slice_index regs n) (2 ^ 32 - width))) (set_at regs n _ (omega arith) good)
    reading_addressed width (form.Increment n) = at_once (slice_index regs n) (slice_set regs n (plus (slice_index regs n) width)) (set_at regs n _ (omega arith) good)
    reading_addressed width (form.IncrementDeferred n) =
        and_then (λ next. read_at (slice_index regs n) 4 here next) (λ pointer t next. next pointer (with_register t n (plus (register t n) 4))) s m (reading_at (slice_index regs n) 4 regs good) (λ pointer more fine. at_once pointer (slice_set more n (plus (slice_index more n) 4)) (set_at more n _ (omega arith) fine))
    reading_addressed width (form.Displacement bytes n) =
        and_then (λ next. fetched bytes here next) (λ displacement t next. next (plus (register t n) (extended bytes displacement)) t) s m (reading_fetched bytes regs good) (λ displacement more fine. at_once (plus (slice_index more n) (extended bytes displacement)) more fine)
    reading_addressed width (form.DisplacementDeferred bytes n) =
        and_then (λ next. fetched bytes here next) (λ displacement t next. read_at (plus (register t n) (extended bytes displacement)) 4 t next) s m (reading_fetched bytes regs good) (λ displacement more fine. reading_at (plus (slice_index more n) (extended bytes displacement)) 4 more fine)

  module _ (width : ℕ) (l : Letter) where
    abbrev kind : OperandKind
    kind = record { letter = l; width = width }

    reading_indexed : (x : ℕ) (base : Form) (regs : List ℕ) → IsAtAddress regs → Reading (λ next. indexed kind x base (with_regs s regs) next) s m
    unfolding indexed
    reading_indexed x base regs good =
        either (is_no_base x base) (λ next. Raises exception.Mode) _ (raising exception.Mode)
        (and_then (λ next. addressed width base (with_regs s regs) next) (λ addr t next. at_address kind (plus addr (width * register t x)) t next) s m (reading_addressed regs good width base) (λ addr more fine. reading_in_place more fine width l _))

    reading_memory : (shape : Form) (regs : List ℕ) → IsAtAddress regs → Reading (λ next. in_memory kind shape (with_regs s regs) next) s m
    unfolding in_memory
    reading_memory shape regs good =
        either (is_reserved l shape) (λ next. Raises exception.Mode) _ (raising exception.Mode)
        (and_then (λ next. addressed width shape (with_regs s regs) next) (λ addr t next. at_address kind addr t next) s m (reading_addressed regs good width shape) (λ addr more fine. reading_in_place more fine width l addr))

    reading_prefix : (x : ℕ) (regs : List ℕ) → IsAtAddress regs → Reading (λ next. after_prefix kind x (with_regs s regs) next) s m
    unfolding after_prefix
    reading_prefix x regs good =
        either (x == 15) (λ next. Raises exception.Mode) _ (raising exception.Mode)
        (and_then (λ next. fetched 1 (with_regs s regs) next) (λ byte t next. indexed kind x (form_of byte) t next) s m (reading_fetched 1 regs good) (λ byte more fine. reading_indexed x (form_of byte) more fine))

    reading_formed : (shape : Form) (regs : List ℕ) → IsAtAddress regs → Reading (λ next. formed kind shape (with_regs s regs) next) s m
    unfolding formed
    reading_formed (form.Literal value) regs good = reading_literal regs good l value
    reading_formed (form.Index x) regs good = reading_prefix x regs good
    reading_formed (form.Register n) regs good = reading_register regs good width l n
    reading_formed (form.Deferred n) regs good = reading_memory (form.Deferred n) regs good
    reading_formed (form.Decrement n) regs good = reading_memory (form.Decrement n) regs good
    reading_formed (form.Increment n) regs good = reading_memory (form.Increment n) regs good
    reading_formed (form.IncrementDeferred n) regs good = reading_memory (form.IncrementDeferred n) regs good
    reading_formed (form.Displacement bytes n) regs good = reading_memory (form.Displacement bytes n) regs good
    reading_formed (form.DisplacementDeferred bytes n) regs good = reading_memory (form.DisplacementDeferred bytes n) regs good

    reading_specified : (regs : List ℕ) → IsAtAddress regs → Reading (λ next. specified kind (with_regs s regs) next) s m
    unfolding specified
    reading_specified regs good = and_then (λ next. fetched 1 (with_regs s regs) next) (λ byte t next. formed kind (form_of byte) t next) s m (reading_fetched 1 regs good) (λ byte more fine. reading_formed (form_of byte) more fine)

  -- an operand that is read, or of which the address is taken
  abbrev pub IsReadOnly : Letter → Type 0
  IsReadOnly letter.Read = Unit {0}
  IsReadOnly letter.Modify = ⊥
  IsReadOnly letter.Write = ⊥
  IsReadOnly letter.Address = Unit {0}
  IsReadOnly letter.Field = ⊥
  IsReadOnly letter.Branch = ⊥

  abbrev pub AreReadOnly : List OperandKind → Type 0
  AreReadOnly [] = Unit {0}
  AreReadOnly (kind ∷ kinds) = IsReadOnly kind.letter × AreReadOnly kinds

  reading_taken : (width : ℕ) (l : Letter) → IsReadOnly l → (o : Operand) (regs : List ℕ) → IsAtAddress regs → Reading (λ next. taken (record { letter = l; width = width }) o (with_regs s regs) next) s m
  unfolding taken
  reading_taken width letter.Read is o regs good = at_once (o, value_of o) regs good
  reading_taken width letter.Modify is o regs good = absurd is
  reading_taken width letter.Write is o regs good = absurd is
  reading_taken width letter.Address is o regs good = at_once (o, 0) regs good
  reading_taken width letter.Field is o regs good = absurd is
  reading_taken width letter.Branch is o regs good = absurd is

  reading_next : (width : ℕ) (l : Letter) → IsReadOnly l → (regs : List ℕ) → IsAtAddress regs → Reading (λ next. next_operand (record { letter = l; width = width }) (with_regs s regs) next) s m
  unfolding next_operand
  reading_next width letter.Read is regs good = reading_specified width letter.Read regs good
  reading_next width letter.Modify is regs good = absurd is
  reading_next width letter.Write is regs good = absurd is
  reading_next width letter.Address is regs good = reading_specified width letter.Address regs good
  reading_next width letter.Field is regs good = absurd is
  reading_next width letter.Branch is regs good = absurd is

  pub reading_operands : (kinds : List OperandKind) → AreReadOnly kinds → (regs : List ℕ) → IsAtAddress regs → Reading (λ next. next_operands kinds (with_regs s regs) next) s m
  unfolding next_operands
  reading_operands [] are regs good = at_once [] regs good
  reading_operands (kind ∷ kinds) are regs good =
      and_then (λ next. next_operand kind (with_regs s regs) next) (λ o t next. taken kind o t (λ x u. next_operands kinds u (λ xs v. next (x ∷ xs) v))) s m (reading_next kind.width kind.letter are.0 regs good) (λ o more fine.
      and_then (λ next. taken kind o (with_regs s more) next) (λ x u next. next_operands kinds u (λ xs v. next (x ∷ xs) v)) s m (reading_taken kind.width kind.letter are.0 o more fine) (λ x last well.
      and_then (λ next. next_operands kinds (with_regs s last) next) (λ xs v next. next (x ∷ xs) v) s m (reading_operands kinds are.1 last well) (λ xs end done. at_once (x ∷ xs) end done)))

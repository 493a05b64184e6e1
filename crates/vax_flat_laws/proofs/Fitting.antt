-- An operand has a form of its letter, so what definitions give for others never counts.
use Rattle.std.proofs.Common.{◌≡◌, ℕ, ◌*◌, ◌==◌, Bool, true, false, refl, ap}
use Rattle.std.specs.Prelude.{if◌then◌else◌}
use Rattle.std.proofs.Math.Path.{fun_ext}
use Rattle.vax_space.specs.declared.Access.TheVariants as access
use Rattle.vax_isa.specs.declared.OperandKind.{OperandKind}
use Rattle.vax_isa.specs.declared.Letter.{Letter}
use Rattle.vax_isa.specs.declared.Letter.TheVariants.{Read, Modify, Write, Address, Field, Branch}
use Rattle.vax_flat.specs.declared.Form.{Form}
use Rattle.vax_flat.specs.declared.Form.TheVariants as form
use Rattle.vax_flat.specs.declared.Operand.{Operand}
use Rattle.vax_flat.specs.declared.Operand.TheVariants as operand
use Rattle.vax_flat.specs.State.{State, register, with_register, mode}
use Rattle.vax_flat.specs.Accesses.{Accesses, Reads, Checks, Leaf}
use Rattle.vax_flat.specs.Operand.{form_of, extended, plus, read_at, check_at, fetched, at_address, literal, register_value, reaches_pc, in_register, addressed, is_reserved, is_no_base, indexed, in_memory, after_prefix, formed, specified, branched, next_operand}
use Rattle.vax_flat.specs.Rows.{read_of, modify_of, address_of, branch_of, value_at, stored, value_of, address_in, read_value, modify_value, write_place, address_value, branch_target}
use Rattle.vax_flat_laws.specs.Dummies.{value_or, address_or, target_or, value_at_or, stored_or, HasForm}

read_same : (addr len : ℕ) (s : State) (next other : ℕ → State → Accesses Leaf) → ((x : ℕ) (t : State) → next x t ≡ other x t) → read_at addr len s next ≡ read_at addr len s other
unfolding read_at
read_same addr len s next other same = ap (Reads addr len (mode s)) (fun_ext λ x. same x s)

fetched_same : (width : ℕ) (s : State) (next other : ℕ → State → Accesses Leaf) → ((x : ℕ) (t : State) → next x t ≡ other x t) → fetched width s next ≡ fetched width s other
unfolding fetched
fetched_same width s next other same = read_same (register s 15) width s _ _ (λ x t. same x (with_register t 15 (plus (register t 15) width)))

either_same : (b : Bool) (x y z : Accesses Leaf) → y ≡ z → (if b then x else y) ≡ (if b then x else z)
either_same true x y z e = refl
either_same false x y z e = e

addressed_same : (width : ℕ) (f : Form) (s : State) (next other : ℕ → State → Accesses Leaf) → ((x : ℕ) (t : State) → next x t ≡ other x t) → addressed width f s next ≡ addressed width f s other
unfolding addressed
addressed_same width (form.Literal value) s next other same = refl
addressed_same width (form.Index x) s next other same = refl
addressed_same width (form.Register n) s next other same = refl
addressed_same width (form.Deferred n) s next other same = same _ _
addressed_same width (form.Decrement n) s next other same = same _ _
addressed_same width (form.Increment n) s next other same = same _ _
addressed_same width (form.IncrementDeferred n) s next other same = read_same (register s n) 4 s _ _ (λ x t. same x _)
addressed_same width (form.Displacement bytes n) s next other same = fetched_same bytes s _ _ (λ x t. same _ t)
addressed_same width (form.DisplacementDeferred bytes n) s next other same = fetched_same bytes s _ _ (λ x t. read_same _ 4 t next other same)

at_by_letter : (letter : Letter) (width addr : ℕ) (s : State) (next other : Operand → State → Accesses Leaf) → ((o : Operand) (t : State) → HasForm letter o → next o t ≡ other o t) →
    at_address (record { letter = letter; width = width }) addr s next ≡ at_address (record { letter = letter; width = width }) addr s other
unfolding at_address check_at
at_by_letter Read width addr s next other same = read_same addr width s _ _ (λ x t. same (operand.Value x) t tt)
at_by_letter Modify width addr s next other same = ap (Checks addr width (mode s) access.Write) (same (operand.Memory addr) s tt)
at_by_letter Write width addr s next other same = same (operand.Memory addr) s tt
at_by_letter Address width addr s next other same = same (operand.Memory addr) s tt
at_by_letter Field width addr s next other same = same (operand.Memory addr) s tt
at_by_letter Branch width addr s next other same = refl

literal_by_letter : (letter : Letter) (value : ℕ) (s : State) (next other : Operand → State → Accesses Leaf) → ((o : Operand) (t : State) → HasForm letter o → next o t ≡ other o t) →
    literal letter value s next ≡ literal letter value s other
unfolding literal
literal_by_letter Read value s next other same = same (operand.Value value) s tt
literal_by_letter Modify value s next other same = refl
literal_by_letter Write value s next other same = refl
literal_by_letter Address value s next other same = refl
literal_by_letter Field value s next other same = refl
literal_by_letter Branch value s next other same = refl

register_by_letter : (letter : Letter) (width n : ℕ) (s : State) (next other : Operand → State → Accesses Leaf) → ((o : Operand) (t : State) → HasForm letter o → next o t ≡ other o t) →
    in_register (record { letter = letter; width = width }) n s next ≡ in_register (record { letter = letter; width = width }) n s other
unfolding in_register
register_by_letter Read width n s next other same = either_same (reaches_pc width n) _ _ _ (same (operand.Value (register_value width n s)) s tt)
register_by_letter Modify width n s next other same = either_same (reaches_pc width n) _ _ _ (same (operand.Register n) s tt)
register_by_letter Write width n s next other same = either_same (reaches_pc width n) _ _ _ (same (operand.Register n) s tt)
register_by_letter Address width n s next other same = refl
register_by_letter Field width n s next other same = either_same (reaches_pc width n) _ _ _ (same (operand.FieldRegister n) s tt)
register_by_letter Branch width n s next other same = refl

module _ (letter : Letter) (width : ℕ) (next other : Operand → State → Accesses Leaf) (same : (o : Operand) (t : State) → HasForm letter o → next o t ≡ other o t) where
  abbrev kind : OperandKind
  kind = record { letter = letter; width = width }

  at_same : (addr : ℕ) (s : State) → at_address kind addr s next ≡ at_address kind addr s other
  at_same addr s = at_by_letter letter width addr s next other same

  literal_same : (value : ℕ) (s : State) → literal letter value s next ≡ literal letter value s other
  literal_same value s = literal_by_letter letter value s next other same

  register_same : (n : ℕ) (s : State) → in_register kind n s next ≡ in_register kind n s other
  register_same n s = register_by_letter letter width n s next other same

  memory_same : (f : Form) (s : State) → in_memory kind f s next ≡ in_memory kind f s other
  unfolding in_memory
  memory_same f s = either_same (is_reserved letter f) _ _ _ (addressed_same width f s _ _ (λ addr t. at_same addr t))

  indexed_same : (x : ℕ) (f : Form) (s : State) → indexed kind x f s next ≡ indexed kind x f s other
  unfolding indexed
  indexed_same x f s = either_same (is_no_base x f) _ _ _ (addressed_same width f s _ _ (λ addr t. at_same (plus addr (width * register t x)) t))

  prefix_same : (x : ℕ) (s : State) → after_prefix kind x s next ≡ after_prefix kind x s other
  unfolding after_prefix
  prefix_same x s = either_same (x == 15) _ _ _ (fetched_same 1 s _ _ (λ byte t. indexed_same x (form_of byte) t))

  formed_same : (f : Form) (s : State) → formed kind f s next ≡ formed kind f s other
  unfolding formed
  formed_same (form.Literal value) s = literal_same value s
  formed_same (form.Index x) s = prefix_same x s
  formed_same (form.Register n) s = register_same n s
  formed_same (form.Deferred n) s = memory_same (form.Deferred n) s
  formed_same (form.Decrement n) s = memory_same (form.Decrement n) s
  formed_same (form.Increment n) s = memory_same (form.Increment n) s
  formed_same (form.IncrementDeferred n) s = memory_same (form.IncrementDeferred n) s
  formed_same (form.Displacement bytes n) s = memory_same (form.Displacement bytes n) s
  formed_same (form.DisplacementDeferred bytes n) s = memory_same (form.DisplacementDeferred bytes n) s

  specified_same : (s : State) → specified kind s next ≡ specified kind s other
  unfolding specified
  specified_same s = fetched_same 1 s _ _ (λ byte t. formed_same (form_of byte) t)

-- whatever two continuations give for other operands
pub operand_same : (letter : Letter) (width : ℕ) (s : State) (next other : Operand → State → Accesses Leaf) → ((o : Operand) (t : State) → HasForm letter o → next o t ≡ other o t) →
    next_operand (record { letter = letter; width = width }) s next ≡ next_operand (record { letter = letter; width = width }) s other
unfolding next_operand branched
operand_same Read width s next other same = specified_same Read width next other same s
operand_same Modify width s next other same = specified_same Modify width next other same s
operand_same Write width s next other same = specified_same Write width next other same s
operand_same Address width s next other same = specified_same Address width next other same s
operand_same Field width s next other same = specified_same Field width next other same s
operand_same Branch width s next other same = fetched_same width s _ _ (λ x t. same (operand.Target (plus (register t 15) (extended width x))) t tt)

pub value_fits : (width dummy : ℕ) (s : State) (next : ℕ → State → Accesses Leaf) → read_value width s next ≡ next_operand (read_of width) s (λ o t. next (value_or dummy o) t)
unfolding read_value value_of
value_fits width dummy s next = operand_same Read width s _ _ by
  where
    by : (o : Operand) (t : State) → HasForm Read o → next (value_of o) t ≡ next (value_or dummy o) t
    by (operand.Value x) t h = refl
    by (operand.Register n) t h = absurd h
    by (operand.Memory addr) t h = absurd h
    by (operand.FieldRegister n) t h = absurd h
    by (operand.Target addr) t h = absurd h

pub address_fits : (width dummy : ℕ) (s : State) (next : ℕ → State → Accesses Leaf) → address_value width s next ≡ next_operand (address_of width) s (λ o t. next (address_or dummy o) t)
unfolding address_value address_in
address_fits width dummy s next = operand_same Address width s _ _ by
  where
    by : (o : Operand) (t : State) → HasForm Address o → next (address_in o) t ≡ next (address_or dummy o) t
    by (operand.Value x) t h = absurd h
    by (operand.Register n) t h = absurd h
    by (operand.Memory addr) t h = refl
    by (operand.FieldRegister n) t h = absurd h
    by (operand.Target addr) t h = absurd h

pub target_fits : (width dummy : ℕ) (s : State) (next : ℕ → State → Accesses Leaf) → branch_target width s next ≡ next_operand (branch_of width) s (λ o t. next (target_or dummy o) t)
unfolding branch_target address_in
target_fits width dummy s next = operand_same Branch width s _ _ by
  where
    by : (o : Operand) (t : State) → HasForm Branch o → next (address_in o) t ≡ next (target_or dummy o) t
    by (operand.Value x) t h = absurd h
    by (operand.Register n) t h = absurd h
    by (operand.Memory addr) t h = absurd h
    by (operand.FieldRegister n) t h = absurd h
    by (operand.Target addr) t h = refl

pub modified_fits : (width : ℕ) (dummy : Accesses Leaf) (s : State) (next : Operand × ℕ → State → Accesses Leaf) →
    modify_value width s next ≡ next_operand (modify_of width) s (λ place t. value_at_or dummy width place t (λ x u. next (place, x) u))
unfolding modify_value value_at
modified_fits width dummy s next = operand_same Modify width s _ _ by
  where
    by : (o : Operand) (t : State) → HasForm Modify o → value_at width o t (λ x u. next (o, x) u) ≡ value_at_or dummy width o t (λ x u. next (o, x) u)
    by (operand.Value x) t h = absurd h
    by (operand.Register n) t h = refl
    by (operand.Memory addr) t h = refl
    by (operand.FieldRegister n) t h = absurd h
    by (operand.Target addr) t h = absurd h

pub written_fits : (width size value : ℕ) (dummy : Accesses Leaf) (s : State) (next : State → Accesses Leaf) →
    write_place width s (λ place t. stored size place value t next) ≡ write_place width s (λ place t. stored_or dummy size place value t next)
unfolding write_place stored
written_fits width size value dummy s next = operand_same Write width s _ _ by
  where
    by : (o : Operand) (t : State) → HasForm Write o → stored size o value t next ≡ stored_or dummy size o value t next
    by (operand.Value x) t h = absurd h
    by (operand.Register n) t h = refl
    by (operand.Memory addr) t h = refl
    by (operand.FieldRegister n) t h = absurd h
    by (operand.Target addr) t h = absurd h

-- Queues, and the aligned sum (VAX Architecture Reference Manual, queue instructions; ADAWI).
-- A queue's entry begins with the address of its successor, and in the next longword stands that of its predecessor.
use Rattle.std.specs.Prelude.{ℕ, ◌%◌, Bool, false, ◌==◌, if◌then◌else◌}
use Rattle.vax_word.specs.declared.Size.TheVariants.{W, L}
use Rattle.vax_word.specs.Arithmetic.{compared, sum}
use Rattle.vax_isa.specs.declared.actions.Queue.{Queue}
use Rattle.vax_isa.specs.declared.actions.Queue.TheVariants as queue
use Rattle.vax_flat.specs.declared.Exception.TheVariants as exception
use Rattle.vax_flat.specs.declared.Flow.{Flow}
use Rattle.vax_flat.specs.declared.Flow.TheVariants.{Done}
use Rattle.vax_flat.specs.declared.Operand.{Operand}
use Rattle.vax_flat.specs.declared.Operand.TheVariants as operand
use Rattle.vax_flat.specs.State.{State, with_conditions}
use Rattle.vax_flat.specs.Accesses.{Accesses, Raises, Leaf}
use Rattle.vax_flat.specs.Operand.{plus, read_at, write_at}
use Rattle.vax_flat.specs.Rows.{read_value, modify_value, write_place, address_value, stored, answered}

-- an entry comes between a predecessor and its successor
unfoldable pub inserted : ℕ → ℕ → State → (Flow → State → Accesses Leaf) → Accesses Leaf
inserted entry predecessor s next =
    read_at predecessor 4 s (λ successor s.
    write_at entry 4 successor s (λ s.
    write_at (plus entry 4) 4 predecessor s (λ s.
    write_at (plus successor 4) 4 entry s (λ s.
    write_at predecessor 4 entry s (λ s.
    next Done (with_conditions s (compared L successor predecessor)))))))

-- INSQUE
unfoldable pub insert : State → (Flow → State → Accesses Leaf) → Accesses Leaf
insert s next =
    address_value 1 s (λ entry s.
    address_value 1 s (λ predecessor s.
    inserted entry predecessor s next))

-- the neighbours of an entry become neighbours, and its address is the result; V where there was no entry to remove
unfoldable pub removed : ℕ → Operand → State → (Flow → State → Accesses Leaf) → Accesses Leaf
removed entry place s next =
    read_at entry 4 s (λ successor s.
    read_at (plus entry 4) 4 s (λ predecessor s.
    write_at predecessor 4 successor s (λ s.
    write_at (plus successor 4) 4 predecessor s (λ s.
    stored 4 place entry s (λ s.
    next Done (with_conditions s (record (compared L successor predecessor) { v = predecessor == entry })))))))

-- REMQUE
unfoldable pub remove : State → (Flow → State → Accesses Leaf) → Accesses Leaf
remove s next = address_value 1 s (λ entry s. write_place 4 s (λ place s. removed entry place s next))

-- in memory at an address that isn't a multiple of 2
unfoldable pub is_odd : Operand → Bool
is_odd (operand.Value x) = false
is_odd (operand.Register n) = false
is_odd (operand.Memory addr) = addr % 2 == 1
is_odd (operand.FieldRegister n) = false
is_odd (operand.Target addr) = false

-- a sum that stands at an even address, or in a register
unfoldable pub aligned_sum : ℕ → Operand → ℕ → State → (Flow → State → Accesses Leaf) → Accesses Leaf
aligned_sum addend place old s next =
    if is_odd place then Raises exception.Operand else answered 2 place false (sum W old addend false) s next

-- ADAWI
unfoldable pub add_aligned : State → (Flow → State → Accesses Leaf) → Accesses Leaf
add_aligned s next = read_value 2 s (λ addend s. modify_value 2 s (λ old s. aligned_sum addend old.0 old.1 s next))

-- by the instruction
unfoldable pub performed : Queue → State → (Flow → State → Accesses Leaf) → Accesses Leaf
performed queue.Insert s next = insert s next
performed queue.Remove s next = remove s next
performed queue.AddAligned s next = add_aligned s next

-- Control instructions (VAX Architecture Reference Manual, instruction descriptions): branches, jumps, loops, and subroutines.
use Rattle.std.specs.Prelude.{ℕ, ◌+◌, ◌*◌, ◌%◌, Bool, true, false, not, ◌==◌, ◌||◌, nat_le, if◌then◌else◌}
use Rattle.vax_word.specs.declared.Codes.{Codes}
use Rattle.vax_word.specs.declared.Size.{Size}
use Rattle.vax_word.specs.declared.Size.TheVariants.{L}
use Rattle.vax_word.specs.Arithmetic.{bytes_of, is_negative, is_less, compared, sum, difference}
use Rattle.vax_word.specs.Status.{codes_of}
use Rattle.vax_isa.specs.declared.actions.Condition.{Condition}
use Rattle.vax_isa.specs.declared.actions.Condition.TheVariants.{Always, NotEqual, Equal, Greater, LessOrEqual, GreaterOrEqual, Less, GreaterUnsigned, LessOrEqualUnsigned, OverflowClear, OverflowSet, CarryClear, CarrySet}
use Rattle.vax_isa.specs.declared.actions.Relation.{Relation}
use Rattle.vax_isa.specs.declared.actions.Relation.TheVariants as relation
use Rattle.vax_isa.specs.declared.actions.Control.{Control}
use Rattle.vax_isa.specs.declared.actions.Control.TheVariants as control
use Rattle.vax_isa.specs.Actions.{size_of}
use Rattle.vax_flat.specs.declared.Operand.{Operand}
use Rattle.vax_flat.specs.declared.Flow.{Flow}
use Rattle.vax_flat.specs.declared.Flow.TheVariants.{Done}
use Rattle.vax_flat.specs.State.{State, register, with_register}
use Rattle.vax_flat.specs.Accesses.{Accesses, Leaf}
use Rattle.vax_flat.specs.Operand.{plus, extended, read_at}
use Rattle.vax_flat.specs.Rows.{read_value, modify_value, address_value, branch_target, stored, settled, pushed, carry_of}

-- the condition codes for which a branch is taken
unfoldable pub holds : Condition → Codes → Bool
holds Always k = true
holds NotEqual k = not k.z
holds Equal k = k.z
holds Greater k = not (k.n || k.z)
holds LessOrEqual k = k.n || k.z
holds GreaterOrEqual k = not k.n
holds Less k = k.n
holds GreaterUnsigned k = not (k.c || k.z)
holds LessOrEqualUnsigned k = k.c || k.z
holds OverflowClear k = not k.v
holds OverflowSet k = k.v
holds CarryClear k = not k.c
holds CarrySet k = k.c

-- how two signed longwords compare
unfoldable pub compares : Relation → ℕ → ℕ → Bool
compares relation.Less a b = is_less L a b
compares relation.LessOrEqual a b = not (is_less L b a)
compares relation.Greater a b = is_less L b a
compares relation.GreaterOrEqual a b = not (is_less L a b)

abbrev pub jumped : ℕ → State → State
jumped target s = with_register s 15 target

unfoldable pub jumped_if : Bool → ℕ → State → State
jumped_if taken target s = if taken then jumped target s else s

-- BRB, BRW, and the branches on the condition codes
unfoldable pub branch : Condition → Size → State → (Flow → State → Accesses Leaf) → Accesses Leaf
branch condition size s next =
    branch_target (bytes_of size) s (λ target s. next Done (jumped_if (holds condition (codes_of s.core.psl)) target s))

-- PC is pushed, and control goes to the target
unfoldable pub called : ℕ → State → (Flow → State → Accesses Leaf) → Accesses Leaf
called target s next = pushed (register s 15) s (λ s. next Done (jumped target s))

-- BSBB, BSBW
unfoldable pub branch_subroutine : Size → State → (Flow → State → Accesses Leaf) → Accesses Leaf
branch_subroutine size s next = branch_target (bytes_of size) s (λ target s. called target s next)

-- JMP
unfoldable pub jump : State → (Flow → State → Accesses Leaf) → Accesses Leaf
jump s next = address_value 1 s (λ addr s. next Done (jumped addr s))

-- JSB
unfoldable pub jump_subroutine : State → (Flow → State → Accesses Leaf) → Accesses Leaf
jump_subroutine s next = address_value 1 s (λ addr s. called addr s next)

-- RSB
unfoldable pub return_subroutine : State → (Flow → State → Accesses Leaf) → Accesses Leaf
return_subroutine s next =
    read_at (register s 14) 4 s (λ pc s. next Done (jumped pc (with_register s 14 (plus (register s 14) 4))))

-- BLBS, BLBC
unfoldable pub low_bit : Bool → State → (Flow → State → Accesses Leaf) → Accesses Leaf
low_bit set s next =
    read_value 4 s (λ x s.
    branch_target 1 s (λ target s.
    next Done (jumped_if (if set then x % 2 == 1 else x % 2 == 0) target s)))

-- a loop's index is written, its codes are set but for C, and control goes on at the target or behind
unfoldable pub looped : Size → Operand → ℕ × Codes → Bool → ℕ → State → (Flow → State → Accesses Leaf) → Accesses Leaf
looped size place result taken target s next =
    stored (bytes_of size) place result.0 s (λ s.
    settled false (record result.1 { c = carry_of s }) (jumped_if taken target s) next)

-- AOBLSS, AOBLEQ
unfoldable pub add_one : Relation → State → (Flow → State → Accesses Leaf) → Accesses Leaf
add_one r s next =
    read_value 4 s (λ limit s.
    modify_value 4 s (λ index s.
    branch_target 1 s (λ target s.
    looped L index.0 (sum L index.1 1 false) (compares r (sum L index.1 1 false).0 limit) target s next)))

-- SOBGEQ, SOBGTR
unfoldable pub subtract_one : Relation → State → (Flow → State → Accesses Leaf) → Accesses Leaf
subtract_one r s next =
    modify_value 4 s (λ index s.
    branch_target 1 s (λ target s.
    looped L index.0 (difference L index.1 1 false) (compares r (difference L index.1 1 false).0 0) target s next))

-- whether an index that grew by the addend is not yet past the limit
unfoldable pub within : Size → ℕ → ℕ → ℕ → Bool
within size addend limit index = if is_negative size addend then not (is_less size index limit) else not (is_less size limit index)

-- ACB
unfoldable pub add_compare : Size → State → (Flow → State → Accesses Leaf) → Accesses Leaf
add_compare size s next =
    read_value (bytes_of size) s (λ limit s.
    read_value (bytes_of size) s (λ addend s.
    modify_value (bytes_of size) s (λ index s.
    branch_target 2 s (λ target s.
    looped size index.0 (sum size index.1 addend false) (within size addend limit (sum size index.1 addend false).0) target s next))))

-- control goes on by the displacement at a place of the table behind PC, or behind the table where the place is above the limit
unfoldable pub chosen : Size → ℕ → ℕ → State → (Flow → State → Accesses Leaf) → Accesses Leaf
chosen size place limit s next =
    if nat_le place limit
    then read_at (plus (register s 15) (2 * place)) 2 s (λ displacement s.
    settled false (compared size place limit) (jumped (plus (register s 15) (extended 2 displacement)) s) next)
    else settled false (compared size place limit) (jumped (plus (register s 15) (2 * limit + 2)) s) next

-- CASE
unfoldable pub case_of : Size → State → (Flow → State → Accesses Leaf) → Accesses Leaf
case_of size s next =
    read_value (bytes_of size) s (λ selector s.
    read_value (bytes_of size) s (λ base s.
    read_value (bytes_of size) s (λ limit s.
    chosen size (difference size selector base false).0 limit s next)))

-- by the instruction
unfoldable pub performed : Control → State → (Flow → State → Accesses Leaf) → Accesses Leaf
performed (control.Branch condition size) s next = branch condition (size_of size) s next
performed (control.BranchSubroutine size) s next = branch_subroutine (size_of size) s next
performed control.Jump s next = jump s next
performed control.JumpSubroutine s next = jump_subroutine s next
performed control.Return s next = return_subroutine s next
performed (control.LowBit set) s next = low_bit set s next
performed (control.AddOne r) s next = add_one r s next
performed (control.SubtractOne r) s next = subtract_one r s next
performed (control.AddCompare size) s next = add_compare (size_of size) s next
performed (control.Case size) s next = case_of (size_of size) s next

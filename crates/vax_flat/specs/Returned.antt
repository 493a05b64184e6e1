-- What RET gives back of the frame that a call pushed (VAX Architecture Reference Manual, procedure call instructions).
use Rattle.std.specs.Prelude.{◌≡◌, ℕ, suc, zero, ◌+◌, ◌*◌, ◌^◌, None, List, [], ◌∷◌, map}
use Rattle.vax_word.specs.declared.Psl.{Psl}
use Rattle.vax_word.specs.Status.{field}
use Rattle.vax_space.specs.declared.Access.TheVariants.{Read}
use Rattle.vax_space.specs.declared.Area.{Area}
use Rattle.vax_space.specs.Reference.{violation}
use Rattle.vax_flat.specs.Memory.{byte_at, number}
use Rattle.vax_flat.specs.State.{State, register}
use Rattle.vax_flat.specs.Operand.{plus}
use Rattle.vax_flat.specs.Call.{linked, with_registers}

-- longwords stand in memory one above the other, where a mode may read them
abbrev pub AreThere : List Area → ℕ → ℕ → List ℕ → Type 0
AreThere memory mode addr [] = Unit {0}
AreThere memory mode addr (x ∷ xs) =
    (violation memory addr 4 mode Read ≡ None) × (number (byte_at memory) addr 4 ≡ x) × AreThere memory mode (plus addr 4) xs

-- the address behind so many longwords
abbrev pub behind : ℕ → ℕ → ℕ
behind zero addr = addr
behind (suc count) addr = behind count (plus addr 4)

-- a state in which the caller's AP, FP, PC and saved registers are as they were when it called
abbrev pub with_caller : ℕ → State → State → State
with_caller mask caller s = with_registers (linked mask) (map (register caller) (linked mask)) s

-- the caller's processor status word without trace and condition codes
abbrev pub caller_status : Psl → Psl → Psl
caller_status caller psl = record { 0 = 2 ^ 16 * field psl.0 16 16 + 2 ^ 5 * field caller.0 5 11 }

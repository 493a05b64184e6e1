-- The numbers of the manual's tables (VAX Architecture Reference Manual, system control block; arithmetic exceptions; access control violations).
use Rattle.std.specs.Prelude.{ℕ, true, false, List, [], ◌∷◌}
use Rattle.vax_space.specs.declared.Violation.{Violation}
use Rattle.vax_isa.specs.declared.actions.AccessMode.{AccessMode}
use Rattle.vax_isa.specs.declared.actions.AccessMode.TheVariants as mode
use Rattle.vax_flat.specs.declared.Exception.{Exception}
use Rattle.vax_flat.specs.declared.Exception.TheVariants as exception
use Rattle.vax_flat.specs.declared.Trap.{Trap}
use Rattle.vax_flat.specs.declared.Trap.TheVariants as trap

-- an exception of each kind
abbrev pub exceptions : Violation → Trap → List Exception
exceptions violation kind =
    exception.Privileged ∷ exception.Customer ∷ exception.Operand ∷ exception.Mode ∷ exception.Access violation ∷ exception.Breakpoint ∷ exception.Arithmetic kind ∷ []

abbrev pub modes : List AccessMode
modes = mode.Kernel ∷ mode.Executive ∷ mode.Supervisor ∷ mode.User ∷ []

abbrev pub traps : List Trap
traps = trap.IntegerOverflow ∷ trap.IntegerDivide ∷ trap.SubscriptRange ∷ []

-- violations of a read and of a write, by protection and past the length of a region
abbrev pub violations : ℕ → List Violation
violations addr =
    record { addr = addr; length = false; write = false }
    ∷ record { addr = addr; length = true; write = false }
    ∷ record { addr = addr; length = false; write = true }
    ∷ record { addr = addr; length = true; write = true }
    ∷ []

-- the levels of interrupts
abbrev pub levels : List ℕ
levels = 1 ∷ 2 ∷ 3 ∷ 4 ∷ 5 ∷ 6 ∷ 7 ∷ 8 ∷ 9 ∷ 10 ∷ 11 ∷ 12 ∷ 13 ∷ 14 ∷ 15 ∷ 22 ∷ []

-- and their vectors
abbrev pub vectors_of_levels : List ℕ
vectors_of_levels =
    0x84 ∷ 0x88 ∷ 0x8C ∷ 0x90 ∷ 0x94 ∷ 0x98 ∷ 0x9C ∷ 0xA0 ∷ 0xA4 ∷ 0xA8 ∷ 0xAC ∷ 0xB0 ∷ 0xB4 ∷ 0xB8 ∷ 0xBC ∷ 0xC0 ∷ []

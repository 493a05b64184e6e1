-- What lies at the same addresses beside each program: the stacks, the system, its control block, and the page tables.
use Rattle.std.specs.Prelude.{ℕ, true, List, [], ◌∷◌, map, codes}
use Rattle.vax_image.specs.declared.Base.{Base}
use Rattle.vax_image.specs.declared.Base.TheVariants.{Bare, User}
use Rattle.vax_debug_names.specs.declared.Symbol.{Symbol}
use Rattle.vax_debug_symbols.specs.declared.fixtures.Fixture.{Fixture}
use Rattle.vax_debug_symbols.specs.declared.fixtures.Fixture.TheVariants as fixture

unfoldable pub name_of : Fixture → List ℕ
name_of fixture.ExecutiveStack = codes "EXECUTIVE_STACK"
name_of fixture.SupervisorStack = codes "SUPERVISOR_STACK"
name_of fixture.UserStack = codes "USER_STACK"
name_of fixture.ControlBlock = codes "SCB"
name_of fixture.System = codes "SYSTEM"
name_of fixture.KernelStack = codes "KERNEL_STACK"
name_of fixture.InterruptStack = codes "INTERRUPT_STACK"
name_of fixture.PageTables = codes "PAGE_TABLES"

-- where each begins
abbrev pub address_of : Fixture → ℕ
address_of fixture.ExecutiveStack = 0x7FFE0000
address_of fixture.SupervisorStack = 0x7FFE8000
address_of fixture.UserStack = 0x7FFF8000
address_of fixture.ControlBlock = 0x80000000
address_of fixture.System = 0x80000200
address_of fixture.KernelStack = 0x80100000
address_of fixture.InterruptStack = 0x80110000
address_of fixture.PageTables = 0x80200000

-- and how many bytes it has; a system has those up to the stack of kernel mode
abbrev pub size_of : Fixture → ℕ
size_of fixture.ExecutiveStack = 0x800
size_of fixture.SupervisorStack = 0x800
size_of fixture.UserStack = 0x8000
size_of fixture.ControlBlock = 0x200
size_of fixture.System = 0xFFE00
size_of fixture.KernelStack = 0x2000
size_of fixture.InterruptStack = 0x800
size_of fixture.PageTables = 0x40000

-- as a symbol, which reaches to its end
abbrev pub symbol_of : Fixture → Symbol
symbol_of f = record { name = name_of f; value = address_of f; is_place = true; reach = size_of f }

abbrev pub symbols_of : List Fixture → List Symbol
symbols_of fixtures = map symbol_of fixtures

-- what lies beside a program; one for the bare machine is the system itself
unfoldable pub fixtures : Base → List Fixture
fixtures User =
    fixture.ExecutiveStack ∷ fixture.SupervisorStack ∷ fixture.UserStack ∷ fixture.ControlBlock ∷ fixture.System
    ∷ fixture.KernelStack ∷ fixture.InterruptStack ∷ fixture.PageTables ∷ []
fixtures Bare =
    fixture.ExecutiveStack ∷ fixture.SupervisorStack ∷ fixture.UserStack ∷ fixture.ControlBlock
    ∷ fixture.KernelStack ∷ fixture.InterruptStack ∷ fixture.PageTables ∷ []

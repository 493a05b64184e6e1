-- Which places of the flat machine have bytes from which they are restored.
use Rattle.std.specs.Prelude.{◌≡◌, ℕ, List, ◌^◌, ◌%◌, ◌<◌, ◌≤◌, Bool, true, false, Option, Some, None, is_some, [], All, length, slice_index}
use Rattle.vax_word.specs.declared.Core.{Core}
use Rattle.vax_word.specs.Status.{is_one}
use Rattle.vax_space.specs.Faults.{IsSpace}
use Rattle.vax_flat.specs.Memory.{IsWhole}
use Rattle.vax_flat.specs.Parts.{Place, machine_at}
use Rattle.vax_machine.specs.Attempt.{open_at}
use Rattle.vax_machine.specs.Open.{Open}
use Rattle.vax_save.specs.Restoring.{Restored, has_wrong_bits, is_overdone, is_string}

abbrev pub IsLong : ℕ → Type 0
IsLong n = n < 2 ^ 32

-- these numbers are bytes
abbrev pub IsBytes : List ℕ → Type 0
IsBytes bytes = (i : ℕ) → slice_index bytes i < 256

-- registers that a processor may have between two attempts, with first part done as it is told
pub record AreRegisters (core : Core) (part_done : Bool) : Type 0 where
  pub count : length core.regs ≡ 16
  pub longs : All IsLong core.regs
  pub status_long : IsLong core.psl.0
  pub status : has_wrong_bits core.psl.0 ≡ false
  pub part : is_one core.psl.0 27 ≡ part_done
  pub stack_count : length core.stacks ≡ 5
  pub stack_longs : All IsLong core.stacks
  pub requests_word : core.sisr < 2 ^ 16
  pub requests : is_one core.sisr 0 ≡ false
  pub control_byte : core.iccs < 2 ^ 8
  pub control : core.iccs % 64 ≡ 0
  pub clock : core.clock ≤ 999

-- a string instruction that is open: it has units done, and the registers at its start are a processor's
pub record IsString (latched : Open) : Type 0 where
  pub opcode : is_string latched.opcode ≡ true
  pub some : 0 < latched.units
  pub units_long : IsLong latched.units
  pub start : AreRegisters latched.start false

abbrev pub IsStringIfOpen : Option Open → Type 0
IsStringIfOpen None = Unit {0}
IsStringIfOpen (Some latched) = IsString latched

-- A place whose numbers fit their fields. First part done is set exactly where a string instruction is open.
pub record IsSaveable (place : Place) (steps : ℕ) : Type 0 where
  pub few_steps : steps ≤ 10 ^ 18
  pub registers : AreRegisters (machine_at place).core (is_some (open_at place))
  pub string : IsStringIfOpen (open_at place)
  pub goes_on : is_overdone (open_at place) (machine_at place).memory (machine_at place).core ≡ false
  pub taken : (machine_at place).taken ≤ length (machine_at place).input
  pub input_long : IsLong (length (machine_at place).input)
  pub some_areas : 0 < length (machine_at place).memory
  pub few_areas : length (machine_at place).memory ≤ 256
  pub areas : IsSpace (machine_at place).memory
  pub whole : IsWhole (machine_at place).memory
  pub going : (machine_at place).ending ≡ None

-- what is kept of a place: its machine without the output, the string instruction that is open, and how many steps were completed
abbrev pub kept : Place → ℕ → Restored
kept place steps = record { machine = record (machine_at place) { output = [] }; latch = open_at place; steps = steps }

-- What was seen where a step begins.
use Rattle.std.specs.Prelude.{ℕ, ◌≡◌, Bool, Option}
use Rattle.std.specs.Option.{option_map}
use Rattle.vax_outside.specs.Blocks.{BlockFile}
use Rattle.vax_flat.specs.Parts.{Place, machine_at}
use Rattle.vax_disasm.specs.Listed as disassembler
use Rattle.vax_disasm.specs.Seen.{decoded_seen}
use Rattle.vax_machine.specs.Machine.{Means}
use Rattle.vax_machine.specs.declared.engine.Engine.{Engine}
use Rattle.vax_watch.specs.Listing.{Beginning, beginning_at, instruction_if}
use Rattle.vax_watch.specs.declared.beginning.Beginning.{Beginning as Found}

abbrev pub beginning : Found → Beginning
beginning b = record { byte = b.byte; instruction = option_map decoded_seen b.instruction }

-- it is so at an address of the memory of each place for which the machine stands
abbrev pub ShowsInstruction : Engine → Option BlockFile → Bool → ℕ → Option disassembler.Listing → Type 0
ShowsInstruction m file texts address instruction =
    (place : Place) → Means m file place → instruction ≡ instruction_if texts (machine_at place).memory address

abbrev pub ShowsBeginning : Engine → Option BlockFile → Bool → ℕ → Beginning → Type 0
ShowsBeginning m file texts address begins =
    (place : Place) → Means m file place → begins ≡ beginning_at texts (machine_at place).memory address

-- What a traced run lists of its steps.
use Rattle.std.specs.Prelude.{ℕ, zero, suc, ◌+◌, ◌==◌, nat_eq, if◌then◌else◌, Bool, true, false, Option, Some, None, List, [], ◌∷◌, ◌++◌, codes, decimal, slice_index}
use Rattle.std.specs.Cmp.Lexicographic.{pointwise}
use Rattle.std.specs.List.{flat_map}
use Rattle.std.specs.Option.{option_eq}
use Rattle.vax_word.specs.declared.Core.{Core}
use Rattle.vax_space.specs.declared.Area.{Area}
use Rattle.vax_outside.specs.Hex.{hex}
use Rattle.vax_flat.specs.Step.{Flat, run}
use Rattle.vax_disasm.specs.Listed as disassembler
use Rattle.vax_machine.specs.Console.{memory_at, memory_from}
use Rattle.vax_report.specs.Lines.{cell, line, spaced}
use Rattle.vax_watch.specs.declared.watch.Watch.{Watch}

abbrev pub pc_of : Flat → ℕ
pc_of m = slice_index m.core.regs 15

-- a register that a step changed, with its new value
unfoldable pub register_change : Core → Core → ℕ → List ℕ
register_change before after n =
    if slice_index before.regs n == slice_index after.regs n then []
    else codes " R" ++ decimal n ++ codes "=" ++ hex 8 (slice_index after.regs n)

-- those of the registers below this number
unfoldable pub register_changes : ℕ → Core → Core → List ℕ
register_changes zero before after = []
register_changes (suc n) before after = register_changes n before after ++ register_change before after n

-- the processor status longword, where a step changed it
unfoldable pub status_change : Core → Core → List ℕ
status_change before after = if before.psl.0 == after.psl.0 then [] else codes " PSL=" ++ hex 8 after.psl.0

-- the bytes up to the first that isn't there
unfoldable pub present : List (Option ℕ) → List ℕ
present [] = []
present (None ∷ cells) = []
present (Some byte ∷ cells) = byte ∷ present cells

-- no instruction has more bytes: those of its opcode and of six operands with at most nine each
abbrev pub most_bytes : ℕ
most_bytes = 55

-- the instruction that begins at an address, as the disassembler writes it, where one does
abbrev pub instruction_at : List Area → ℕ → Option disassembler.Listing
instruction_at memory address = disassembler.listed (present (memory_from memory address most_bytes)) address

-- none where instructions aren't to be shown
abbrev pub instruction_if : Bool → List Area → ℕ → Option disassembler.Listing
instruction_if false memory address = None
instruction_if true memory address = instruction_at memory address

-- what a line shows of where its step began: the byte there, and the instruction
pub record Beginning : Type 0 where
  pub byte : Option ℕ
  pub instruction : Option disassembler.Listing

-- of a memory, with instructions or without
abbrev pub beginning_at : Bool → List Area → ℕ → Beginning
beginning_at texts memory address = record { byte = memory_at memory address; instruction = instruction_if texts memory address }

-- an instruction behind a blank
unfoldable pub instruction_text : Option disassembler.Listing → List ℕ
instruction_text None = []
instruction_text (Some instruction) = codes " " ++ instruction.text

-- the head of a step's line: its number, where it began, and the byte there
unfoldable pub line_head : ℕ → ℕ → Option ℕ → List ℕ
line_head number address byte = decimal number ++ spaced address ++ cell byte

-- its tail: the registers R0 to R14 and the status that the step changed
unfoldable pub line_tail : Core → Core → List ℕ
line_tail before after = line (register_changes 15 before after ++ status_change before after)

-- a step: its number, where it began, the byte there, the instruction where it is to be shown, and what the step changed
unfoldable pub core_line : ℕ → Core → Beginning → Core → List ℕ
core_line number before begins after =
    line_head number (slice_index before.regs 15) begins.byte
    ++ (instruction_text begins.instruction ++ line_tail before after)

abbrev pub step_line : Bool → ℕ → Flat → Flat → List ℕ
step_line texts number s u = core_line number s.core (beginning_at texts s.memory (pc_of s)) u.core

-- the bytes of a watch, none where no area has one
abbrev pub watched : List Area → Watch → List (Option ℕ)
watched memory w = memory_from memory w.address w.count

unfoldable pub watch_head : Watch → List ℕ
watch_head w = line (codes "WATCH " ++ hex 8 w.address ++ codes ":" ++ decimal w.count)

-- the line of a watch, where its bytes differ
unfoldable pub watch_line : Watch → List (Option ℕ) → List (Option ℕ) → List ℕ
watch_line w before after = if pointwise (option_eq nat_eq) before after then [] else watch_head w

abbrev pub watch_lines : List Watch → List Area → List Area → List ℕ
watch_lines watches before after = flat_map (λ w. watch_line w (watched before w) (watched after w)) watches

-- the lines of a step from the one machine to the other
abbrev pub lines_of_step : Bool → List Watch → ℕ → Flat → Flat → List ℕ
lines_of_step texts watches number s u = step_line texts number s u ++ watch_lines watches s.memory u.memory

-- the lines of the first so many steps, with the text of each instruction or without
unfoldable pub listing : Bool → ℕ → Flat → List Watch → List ℕ
listing texts zero start watches = []
listing texts (suc n) start watches =
    listing texts n start watches ++ lines_of_step texts watches (n + 1) (run n start) (run (suc n) start)

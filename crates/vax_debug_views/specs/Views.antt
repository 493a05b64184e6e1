-- What a debugger shows of the flat machine.
use Rattle.std.specs.Prelude.{ℕ, zero, suc, ◌+◌, ◌*◌, ◌/◌, ◌%◌, ◌^◌, ◌==◌, min, if◌then◌else◌, List, [], ◌++◌, length, map, codes, Option, None, Some, slice_index}
use Rattle.std.specs.List.{range_with_len}
use Rattle.vax_word.specs.declared.Core.{Core}
use Rattle.vax_flat.specs.Call.{named}
use Rattle.vax_flat.specs.Step.{Flat}
use Rattle.vax_report.specs.Lines.{line, register_line}
use Rattle.vax_machine.specs.Console.{memory_from}
use Rattle.vax_debug.specs.Calls.{longword_at}
use Rattle.vax_debug.specs.Travel.{fp_of, pc_of, sp_of}
use Rattle.vax_debug_words.specs.declared.command.Form.{Form}
use Rattle.vax_debug_words.specs.declared.command.Form.TheVariants as form
use Rattle.vax_debug_words.specs.declared.request.Expression.{Expression}
use Rattle.vax_debug_words.specs.declared.request.Field.{Field}
use Rattle.vax_debug_words.specs.declared.request.Span.{Span}
use Rattle.vax_debug_names.specs.declared.Legend.{Legend}
use Rattle.vax_debug_replies.specs.Frames.{arguments_line, frame_line, saved_line}
use Rattle.vax_debug_replies.specs.Instructions.{instruction_at, length_of, listed_instruction}
use Rattle.vax_debug_replies.specs.Status.{field_line, status_line}
use Rattle.vax_debug_replies.specs.Values.{ascii_line, value_line}
use Rattle.vax_debug_replies.specs.declared.frames.Frame.{Frame}
use Rattle.vax_debug_replies.specs.declared.frames.SavedRegister.{SavedRegister}
use Rattle.vax_debug.specs.Values.{evaluated}

-- the processor

abbrev pub register_shown : ℕ → Flat → List ℕ
register_shown n m = register_line n (slice_index m.core.regs n)

abbrev pub status_shown : Flat → List ℕ
status_shown m = status_line m.core.psl.0

abbrev pub field_shown : Field → Flat → List ℕ
field_shown f m = field_line f m.core.psl.0

-- memory

-- an address behind another, modulo 2^32
abbrev pub beyond : ℕ → ℕ → ℕ
beyond address count = (address + count) % 2 ^ 32

-- so many values of a size, one behind the other, a line for each
unfoldable pub values_shown : Legend → (size count address : ℕ) → Flat → List ℕ
values_shown legend size zero address m = []
values_shown legend size (suc count) address m =
    value_line legend address (memory_from m.memory address size) ++ values_shown legend size count (beyond address size) m

-- so many characters in one line
abbrev pub characters_shown : Legend → (count address : ℕ) → Flat → List ℕ
characters_shown legend count address m = ascii_line legend address (memory_from m.memory address count)

-- an instruction is looked for in this many bytes
abbrev pub bytes_at : (address : ℕ) → Flat → List (Option ℕ)
bytes_at address m = memory_from m.memory address 64

abbrev pub instruction_shown : Legend → (address : ℕ) → Flat → List ℕ
instruction_shown legend address m = listed_instruction legend address (bytes_at address m)

-- behind the instruction at an address, or the byte there where none begins
abbrev pub behind_instruction : (address : ℕ) → Flat → ℕ
behind_instruction address m = beyond address (length_of (instruction_at address (bytes_at address m)))

-- so many instructions, one behind the other
unfoldable pub instructions_shown : Legend → (count address : ℕ) → Flat → List ℕ
instructions_shown legend zero address m = []
instructions_shown legend (suc count) address m =
    instruction_shown legend address m ++ instructions_shown legend count (behind_instruction address m) m

-- so many values of a form from an address on
unfoldable pub memory_at_shown : Legend → Form → (count address : ℕ) → Flat → List ℕ
memory_at_shown legend form.Byte count address m = values_shown legend 1 count address m
memory_at_shown legend form.Word count address m = values_shown legend 2 count address m
memory_at_shown legend form.Long count address m = values_shown legend 4 count address m
memory_at_shown legend form.Quad count address m = values_shown legend 8 count address m
memory_at_shown legend form.Ascii count address m = characters_shown legend count address m
memory_at_shown legend form.Instruction count address m = instructions_shown legend count address m

-- in place of what an expression leads to, where it leads nowhere
abbrev pub nowhere_line : List ℕ
nowhere_line = line (codes "?NO SUCH NAME OR ADDRESS")

-- what is told of an expression's value, or that it has none
abbrev pub of_value : (ℕ → List ℕ) → Option ℕ → List ℕ
of_value told None = nowhere_line
of_value told (Some address) = told address

unfoldable pub memory_shown : Legend → Form → Span → Flat → List ℕ
memory_shown legend f at m = of_value (λ address. memory_at_shown legend f at.count address m) (evaluated legend at.from m)

unfoldable pub disassembled : Legend → Span → Flat → List ℕ
disassembled legend at m = of_value (λ address. instructions_shown legend at.count address m) (evaluated legend at.from m)

-- ten instructions from PC on
unfoldable pub disassembled_here : Legend → Flat → List ℕ
disassembled_here legend m = instructions_shown legend 10 (pc_of m.core) m

-- so many longwords from the stack pointer on
unfoldable pub stack_shown : Legend → (count : ℕ) → Flat → List ℕ
stack_shown legend count m = values_shown legend 4 count (sp_of m.core) m

-- frames of calls

-- what is told of the next one, if there is one
abbrev pub if_any : {T : Type 0} → (T → List ℕ) → Option T → List ℕ
if_any told None = []
if_any told (Some next) = told next

-- where the procedure is that runs
abbrev pub innermost : Core → Frame
innermost core = record { pc = pc_of core; ap = slice_index core.regs 12; fp = fp_of core }

abbrev pub frame_of : (pc ap fp : Option ℕ) → Option Frame
frame_of (Some pc) (Some ap) (Some fp) = Some (record { pc = pc; ap = ap; fp = fp })
frame_of pc ap fp = None

-- a longword that a frame has so many bytes behind its pointer
abbrev pub saved : (offset : ℕ) → Frame → Flat → Option ℕ
saved offset frame m = longword_at m (beyond frame.fp offset)

-- where its caller goes on: a frame has the saved AP, FP and PC at 8, 12 and 16; none where the frame pointer is 0, or memory has them not whole
unfoldable pub caller : Frame → Flat → Option Frame
caller frame m = if frame.fp == 0 then None else frame_of (saved 16 frame m) (saved 8 frame m) (saved 12 frame m)

-- how many arguments a list has: its first longword has that in its low byte
abbrev pub count_in : Option ℕ → ℕ
count_in None = 0
count_in (Some first) = first % 256

-- an argument, by its place from 0 on: the arguments lie behind the first longword of the list at AP
abbrev pub argument : Frame → Flat → (place : ℕ) → Option ℕ
argument frame m place = longword_at m (beyond frame.ap (4 * place + 4))

abbrev pub first_arguments : (count : ℕ) → Frame → Flat → List (Option ℕ)
first_arguments count frame m = map (argument frame m) (range_with_len 0 count)

-- of so many arguments the first sixteen
abbrev pub arguments_of : (count : ℕ) → Frame → Flat → List ℕ
arguments_of count frame m = arguments_line count (first_arguments (min count 16) frame m)

unfoldable pub arguments_shown : Frame → Flat → List ℕ
arguments_shown frame m = arguments_of (count_in (longword_at m frame.ap)) frame m

-- the mask of the registers that a frame has saved: bits 27:16 of its second longword
abbrev pub mask_in : Option ℕ → ℕ
mask_in None = 0
mask_in (Some word) = word / 2 ^ 16 % 2 ^ 12

-- a saved register: the values lie from 20 bytes behind FP on, that of the lowest register first
abbrev pub saved_register : (mask : ℕ) → Frame → Flat → (number : ℕ) → SavedRegister
saved_register mask frame m number = record { number = number; value = saved (20 + 4 * length (named number mask)) frame m }

-- those of the registers below a number that the mask names
abbrev pub saved_below : (number mask : ℕ) → Frame → Flat → List SavedRegister
saved_below number mask frame m = map (saved_register mask frame m) (named number mask)

unfoldable pub saved_shown : Frame → Flat → List ℕ
saved_shown frame m = saved_line (saved_below 12 (mask_in (saved 4 frame m)) frame m)

-- what the frame of a call keeps: there is none where the frame pointer is 0
unfoldable pub contents_shown : Frame → Flat → List ℕ
contents_shown frame m = if frame.fp == 0 then [] else arguments_shown frame m ++ saved_shown frame m

-- a frame with what it keeps
unfoldable pub frame_shown : Legend → (number : ℕ) → Frame → Flat → List ℕ
frame_shown legend number frame m = frame_line legend number frame ++ contents_shown frame m

-- at most so many frames, with numbers from this one on
unfoldable pub frames_from : Legend → (count number : ℕ) → Frame → Flat → List ℕ
frames_from legend zero number frame m = []
frames_from legend (suc count) number frame m =
    frame_shown legend number frame m ++ if_any (λ next. frames_from legend count (number + 1) next m) (caller frame m)

-- the frames of calls, the innermost first, at most 64
unfoldable pub frames_shown : Legend → Flat → List ℕ
frames_shown legend m = frames_from legend 64 0 (innermost m.core) m

-- queues

-- the entry that a link leads to, unless that is the head again
abbrev pub unless_head : (head : ℕ) → Option ℕ → Option ℕ
unless_head head None = None
unless_head head (Some link) = if link == head then None else Some link

-- the entry behind this one, where memory has its forward link
abbrev pub next_entry : (head entry : ℕ) → Flat → Option ℕ
next_entry head entry m = unless_head head (longword_at m entry)

-- at most so many entries, each with its forward link
unfoldable pub entries_from : Legend → (head count entry : ℕ) → Flat → List ℕ
entries_from legend head zero entry m = []
entries_from legend head (suc count) entry m =
    value_line legend entry (memory_from m.memory entry 4)
    ++ if_any (λ next. entries_from legend head count next m) (next_entry head entry m)

-- a queue by its forward links, from its head on, at most 64 entries
unfoldable pub queue_shown : Legend → Expression → Flat → List ℕ
queue_shown legend at m = of_value (λ head. entries_from legend head 64 head m) (evaluated legend at m)

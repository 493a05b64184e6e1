-- How many entries of the log the parts of a step use at most, of the 96 that it takes.
use Rattle.std.specs.Prelude.{ℕ}

-- the delivery of an exception or of an interrupt, and a change of mode
abbrev pub room_of_delivery : ℕ
room_of_delivery = 16

-- the interval clock
abbrev pub room_of_tick : ℕ
room_of_tick = 1

-- what follows an instruction: a trap's delivery, and the clock
abbrev pub room_of_end : ℕ
room_of_end = 17

-- an instruction of the system or one that transfers control, whose opcode PC is past: a change of mode reads an operand and is delivered
abbrev pub room_of_transfer : ℕ
room_of_transfer = 20

-- an integer instruction whose opcode PC is past
abbrev pub room_of_integer : ℕ
room_of_integer = 27

-- a queue instruction
abbrev pub room_of_queue : ℕ
room_of_queue = 15

-- a field instruction: four operands, and the result with its codes
abbrev pub room_of_field : ℕ
room_of_field = 19

-- a procedure call, its return, or registers pushed and popped: at most all registers but one, the stack pointer, and what was on the stack
abbrev pub room_of_call : ℕ
room_of_call = 31

-- the first part of a string instruction: six operands, bytes that are written in pieces, and the registers between two parts
abbrev pub room_of_text : ℕ
room_of_text = 66

-- a later part of one
abbrev pub room_of_later_part : ℕ
room_of_later_part = 43

-- any instruction whose opcode PC is past
abbrev pub room_of_instruction : ℕ
room_of_instruction = 66

-- an interrupt, or the instruction at PC with its opcode
abbrev pub room_of_beginning : ℕ
room_of_beginning = 67

-- a step
abbrev pub room_of_step : ℕ
room_of_step = 84

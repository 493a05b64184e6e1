-- Where the calls of a debugger lead.
use Rattle.std.specs.Prelude.{◌≡◌, ℕ, ◌+◌, ◌%◌, ◌^◌, ◌==◌, ◌||◌, min, Bool, if◌then◌else◌, List, [], ◌∷◌, Option, None, Some, option_map}
use Rattle.std.specs.Int.{from_le_bytes, w32}
use Rattle.vax_word.specs.declared.Core.{Core}
use Rattle.vax_flat.specs.Step.{Flat}
use Rattle.vax_machine.specs.Console.{memory_from}
use Rattle.vax_disasm.specs.Listed.{Listing, listed}
use Rattle.vax_console.specs.Transcript.{Session, left}
use Rattle.vax_console.specs.Ends.{Scene}
use Rattle.vax_debug.specs.Travel.{fp_of, pc_of, sp_of, stops_at, travelled}
use Rattle.vax_debug.specs.Sessions.{IsHere, Origin}
use Rattle.vax_debug.specs.declared.breaks.Goal.{Goal}
use Rattle.vax_debug.specs.declared.watches.Seen.{Seen}

-- at most so many steps, but for the limit
abbrev pub stepped_on : (limit count : ℕ) → List ℕ → List Seen → Session → Session
stepped_on limit count breaks seen s = travelled (min count (left limit s)) (stops_at breaks seen None) s

-- up to the limit
abbrev pub gone_on : (limit : ℕ) → List ℕ → List Seen → Session → Session
gone_on limit breaks seen s = travelled (left limit s) (stops_at breaks seen None) s

abbrev pub goal_at : (address least : ℕ) → Goal
goal_at address least = record { address = address; least = least }

-- up to a goal
abbrev pub gone_to : (limit : ℕ) → Goal → List ℕ → List Seen → Session → Session
gone_to limit goal breaks seen s = travelled (left limit s) (stops_at breaks seen (Some goal)) s

-- the bytes up to the first that isn't there
abbrev pub and_then : Option ℕ → List ℕ → List ℕ
and_then None more = []
and_then (Some byte) more = byte ∷ more

unfoldable pub bytes_of : List (Option ℕ) → List ℕ
bytes_of [] = []
bytes_of (cell ∷ cells) = and_then cell (bytes_of cells)

-- BSBB, JSB, BSBW, CALLG and CALLS call
abbrev pub is_call : ℕ → Bool
is_call opcode = opcode == 0x10 || opcode == 0x16 || opcode == 0x30 || opcode == 0xFA || opcode == 0xFB

-- behind so many bytes, with no more on the stack
abbrev pub behind : Core → Listing → Goal
behind core l = goal_at ((pc_of core + l.length) % 2 ^ 32) (sp_of core)

-- where the call that these bytes are comes back, if they are one
unfoldable pub behind_call : Core → List ℕ → Option Goal
behind_call core [] = None
behind_call core (opcode ∷ bytes) =
    if is_call opcode then option_map (behind core) (listed (opcode ∷ bytes) (pc_of core)) else None

-- where the call at PC comes back, if one is there
unfoldable pub call_goal : Flat → Option Goal
call_goal m = behind_call m.core (bytes_of (memory_from m.memory (pc_of m.core) 16))

-- a longword, lowest byte first
abbrev pub longword_in : List ℕ → Option ℕ
longword_in (a ∷ b ∷ c ∷ d ∷ []) = Some (from_le_bytes w32 (a ∷ b ∷ c ∷ d ∷ []))
longword_in bytes = None

-- the longword at an address, if memory has it whole
unfoldable pub longword_at : Flat → (addr : ℕ) → Option ℕ
longword_at m addr = longword_in (bytes_of (memory_from m.memory addr 4))

-- behind the return of the frame at FP: the stack pointer is above that then
abbrev pub returned : Core → ℕ → Goal
returned core pc = goal_at pc ((fp_of core + 1) % 2 ^ 32)

-- where the procedure comes back: a frame has its saved PC at 16
unfoldable pub frame_goal : Flat → Option Goal
frame_goal m = option_map (returned m.core) (longword_at m ((fp_of m.core + 16) % 2 ^ 32))

abbrev pub over_count_to : (limit : ℕ) → Option Goal → Session → ℕ
over_count_to limit None s = min 1 (left limit s)
over_count_to limit (Some goal) s = left limit s

-- how many steps that may be
abbrev pub over_count : (limit : ℕ) → Session → ℕ
over_count limit s = over_count_to limit (call_goal s.machine) s

abbrev pub over_to : (limit : ℕ) → Option Goal → List ℕ → List Seen → Session → Session
over_to limit None breaks seen s = stepped_on limit 1 breaks seen s
over_to limit (Some goal) breaks seen s = gone_to limit goal breaks seen s

-- one step, or all of those of a call
abbrev pub stepped_over : (limit : ℕ) → List ℕ → List Seen → Session → Session
stepped_over limit breaks seen s = over_to limit (call_goal s.machine) breaks seen s

-- what is told of the flat machine of each session
abbrev pub TellsFrom : {T : Type 0} → Scene → (Flat → T) → T → Type 0
TellsFrom before f told = (o : Origin) (s : Session) (replies : List ℕ) → IsHere o s replies before → told ≡ f s.machine

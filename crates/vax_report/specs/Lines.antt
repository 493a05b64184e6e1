-- The lines that a report is made of. Each ends with a line feed.
use Rattle.std.specs.Prelude.{ℕ, List, [], ◌∷◌, ◌++◌, codes, decimal, Option, None, Some}
use Rattle.std.specs.List.{flat_map}
use Rattle.vax_flat.specs.declared.Ending.{Ending}
use Rattle.vax_flat.specs.declared.Ending.TheVariants.{Halt, Vector, Stack, Scb, Change}
use Rattle.vax_outside.specs.Hex.{hex}
use Rattle.vax_report.specs.declared.Last.{Last}
use Rattle.vax_report.specs.declared.Last.TheVariants.{Ending as Ended, Steps, Break, Turns, PageFault}

abbrev pub line : List ℕ → List ℕ
line text = text ++ 10 ∷ []

-- a space and eight digits
unfoldable pub spaced : ℕ → List ℕ
spaced n = 32 ∷ hex 8 n

-- a label and numbers of eight digits
unfoldable pub numbers_line : List ℕ → List ℕ → List ℕ
numbers_line label numbers = line (label ++ flat_map spaced numbers)

-- a label and a decimal number
unfoldable pub count_line : List ℕ → ℕ → List ℕ
count_line label n = line (label ++ decimal n)

-- how the machine ended; a vector has its offset in the system control block
abbrev pub ending_text : Ending → List ℕ
ending_text Halt = codes "HALT"
ending_text (Vector offset) = codes "VECTOR " ++ hex 3 offset
ending_text Stack = codes "STACK"
ending_text Scb = codes "SCB"
ending_text Change = codes "CHANGE"

-- why a run stopped
abbrev pub last_text : Last → List ℕ
last_text (Ended ending) = ending_text ending
last_text Steps = codes "STEPS"
last_text Break = codes "BREAK"
last_text Turns = codes "TURNS"
last_text PageFault = codes "PAGEFAULT"

unfoldable pub ending_line : Last → List ℕ
ending_line last = line (codes "ENDING " ++ last_text last)

-- a space, and a byte in two digits or two dashes where there is none
unfoldable pub cell : Option ℕ → List ℕ
cell None = codes " --"
cell (Some byte) = 32 ∷ hex 2 byte

-- the bytes from an address on
unfoldable pub memory_line : ℕ → List (Option ℕ) → List ℕ
memory_line addr bytes = line (codes "MEM " ++ hex 8 addr ++ flat_map cell bytes)

-- a register's number in decimal, and its value
unfoldable pub register_line : ℕ → ℕ → List ℕ
register_line n value = line (codes "R" ++ decimal n ++ spaced value)

-- The line of the processor status longword.
use Rattle.std.specs.Prelude.{ℕ, ◌/◌, ◌%◌, ◌==◌, List, [], ◌∷◌, ◌++◌, codes, decimal, if◌then◌else◌}
use Rattle.vax_outside.specs.Hex.{hex}
use Rattle.vax_debug_words.specs.declared.request.Field.{Field}
use Rattle.vax_debug_words.specs.declared.request.Field.TheVariants as field

-- an access mode by its number
abbrev pub mode_text : ℕ → List ℕ
mode_text mode =
    if mode == 0 then codes "KERNEL"
    else if mode == 1 then codes "EXECUTIVE"
    else if mode == 2 then codes "SUPERVISOR"
    else codes "USER"

-- the name of the bit with this value, where it is set
abbrev pub flag : (bit : ℕ) → List ℕ → ℕ → List ℕ
flag bit name status = if status / bit % 2 == 1 then 32 ∷ name else []

abbrev pub flags_text : ℕ → List ℕ
flags_text status =
    flag 0x80000000 (codes "CM") status ++ flag 0x40000000 (codes "TP") status
    ++ flag 0x8000000 (codes "FPD") status ++ flag 0x4000000 (codes "IS") status

abbrev pub traps_text : ℕ → List ℕ
traps_text status =
    flag 0x80 (codes "DV") status ++ flag 0x40 (codes "FU") status
    ++ flag 0x20 (codes "IV") status ++ flag 0x10 (codes "T") status

abbrev pub codes_text : ℕ → List ℕ
codes_text status =
    flag 8 (codes "N") status ++ flag 4 (codes "Z") status ++ flag 2 (codes "V") status ++ flag 1 (codes "C") status

-- its digits, the current and the previous mode in 25:24 and 23:22, the priority level in 20:16, and the bits that are set
unfoldable pub status_line : ℕ → List ℕ
status_line status =
    codes "PSL " ++ hex 8 status
    ++ codes " MODE " ++ mode_text (status / 0x1000000 % 4)
    ++ codes " PREVIOUS " ++ mode_text (status / 0x400000 % 4)
    ++ codes " IPL " ++ decimal (status / 0x10000 % 32)
    ++ flags_text status ++ traps_text status ++ codes_text status ++ 10 ∷ []

-- the line of one field

abbrev pub field_name : Field → List ℕ
field_name field.Mode = codes "MODE"
field_name field.Previous = codes "PREVIOUS"
field_name field.Priority = codes "IPL"
field_name field.InterruptStack = codes "IS"
field_name field.FirstPartDone = codes "FPD"
field_name field.TracePending = codes "TP"
field_name field.DecimalOverflow = codes "DV"
field_name field.FloatingUnderflow = codes "FU"
field_name field.IntegerOverflow = codes "IV"
field_name field.Trace = codes "T"
field_name field.Negative = codes "N"
field_name field.Zero = codes "Z"
field_name field.Overflow = codes "V"
field_name field.Carry = codes "C"

-- an access mode by its name, and else the number
abbrev pub field_text : Field → ℕ → List ℕ
field_text field.Mode status = mode_text (status / 0x1000000 % 4)
field_text field.Previous status = mode_text (status / 0x400000 % 4)
field_text field.Priority status = hex 8 (status / 0x10000 % 32)
field_text field.InterruptStack status = hex 8 (status / 0x4000000 % 2)
field_text field.FirstPartDone status = hex 8 (status / 0x8000000 % 2)
field_text field.TracePending status = hex 8 (status / 0x40000000 % 2)
field_text field.DecimalOverflow status = hex 8 (status / 0x80 % 2)
field_text field.FloatingUnderflow status = hex 8 (status / 0x40 % 2)
field_text field.IntegerOverflow status = hex 8 (status / 0x20 % 2)
field_text field.Trace status = hex 8 (status / 0x10 % 2)
field_text field.Negative status = hex 8 (status / 8 % 2)
field_text field.Zero status = hex 8 (status / 4 % 2)
field_text field.Overflow status = hex 8 (status / 2 % 2)
field_text field.Carry status = hex 8 (status / 1 % 2)

abbrev pub field_line : Field → ℕ → List ℕ
field_line f status = codes "PSL." ++ field_name f ++ codes " " ++ field_text f status ++ 10 ∷ []

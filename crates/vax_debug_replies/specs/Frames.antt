-- The lines of the frames of calls.
use Rattle.std.specs.Prelude.{ℕ, ◌==◌, nat_lt, if◌then◌else◌, List, [], ◌∷◌, ◌++◌, codes, decimal, Option, None, Some}
use Rattle.std.specs.List.{flat_map}
use Rattle.vax_outside.specs.Hex.{hex}
use Rattle.vax_debug_names.specs.declared.Legend.{Legend}
use Rattle.vax_debug_replies.specs.Places.{place}
use Rattle.vax_debug_replies.specs.declared.frames.Frame.{Frame}
use Rattle.vax_debug_replies.specs.declared.frames.SavedRegister.{SavedRegister}

-- how many calls it is away from the innermost, where its procedure is, and its frame and argument pointers
unfoldable pub frame_line : Legend → (number : ℕ) → Frame → List ℕ
frame_line legend number frame =
    decimal number ++ codes " " ++ place legend frame.pc
    ++ codes " FP " ++ hex 8 frame.fp ++ codes " AP " ++ hex 8 frame.ap ++ 10 ∷ []

-- a longword in its digits, or a question mark where memory hasn't it whole
abbrev pub longword_text : Option ℕ → List ℕ
longword_text None = codes "?"
longword_text (Some longword) = hex 8 longword

abbrev pub argument_text : Option ℕ → List ℕ
argument_text argument = 32 ∷ longword_text argument

-- dots, where there are more arguments than the sixteen that are shown
abbrev pub more_text : (count : ℕ) → List ℕ
more_text count = if nat_lt 16 count then codes " .." else []

abbrev pub count_text : ℕ → List ℕ
count_text count = codes "  ARGUMENTS " ++ decimal count ++ codes ":"

-- how many arguments a procedure has, and the first of them
unfoldable pub counted_arguments : (count : ℕ) → List (Option ℕ) → List ℕ
counted_arguments count arguments = count_text count ++ flat_map argument_text arguments ++ more_text count ++ 10 ∷ []

-- nothing where it has none
abbrev pub arguments_line : (count : ℕ) → List (Option ℕ) → List ℕ
arguments_line count arguments = if count == 0 then [] else counted_arguments count arguments

-- a saved register: its name and its value
abbrev pub register_text : SavedRegister → List ℕ
register_text r = codes " R" ++ decimal r.number ++ 32 ∷ longword_text r.value

-- the registers that a frame has saved; nothing where it has none
unfoldable pub saved_line : List SavedRegister → List ℕ
saved_line [] = []
saved_line (r ∷ registers) = codes "  SAVED" ++ flat_map register_text (r ∷ registers) ++ 10 ∷ []

-- The lines of values in memory.
use Rattle.std.specs.Prelude.{ℕ, ◌&&◌, nat_le, nat_lt, reverse, List, [], ◌∷◌, ◌++◌, codes, Option, None, Some, if◌then◌else◌}
use Rattle.std.specs.List.{flat_map}
use Rattle.vax_outside.specs.Hex.{hex}
use Rattle.vax_debug_names.specs.declared.Legend.{Legend}
use Rattle.vax_debug_replies.specs.Places.{place}

-- an address and a colon
abbrev pub head : Legend → ℕ → List ℕ
head legend address = place legend address ++ codes ": "

-- a byte in two digits, or two dashes where there is none
abbrev pub digits_of : Option ℕ → List ℕ
digits_of None = codes "--"
digits_of (Some byte) = hex 2 byte

-- a value of these bytes, the lowest first: its digits, the highest byte first
abbrev pub value : List (Option ℕ) → List ℕ
value cells = flat_map digits_of (reverse cells)

-- at an address
unfoldable pub value_line : Legend → ℕ → List (Option ℕ) → List ℕ
value_line legend address cells = head legend address ++ value cells ++ 10 ∷ []

-- a character as it is, where it can be shown; a point where it can't, and a dash where there is none
abbrev pub character : Option ℕ → ℕ
character None = 45
character (Some byte) = if nat_le 32 byte && nat_lt byte 127 then byte else 46

abbrev pub character_text : Option ℕ → List ℕ
character_text cell = character cell ∷ []

-- characters from an address on
unfoldable pub ascii_line : Legend → ℕ → List (Option ℕ) → List ℕ
ascii_line legend address cells = head legend address ++ flat_map character_text cells ++ 10 ∷ []
